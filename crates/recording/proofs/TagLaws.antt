-- The laws of `specs/Tag.antt`: the sizes that fit each tag. Assumes nothing.
use mathlib.Core.Path.{◌≡◌}
use mathlib.Core.Bool.{true, ◌&&◌}
use Prim.Native.Nat.{ℕ, ◌%◌, ◌≤◌}
use native.Mathlib.Omega.{arith}
use lib.Dec.{eqb, leb}
use borrow.Author.Tests.{eqb-true, leb-true}
use Rattle.rules.proofs.Halves.{first_of_both, second_of_both}
use Rattle.recording.specs.declared.tag.Tag.{Tag}
use Rattle.recording.specs.declared.tag.Tag.TheVariants.{
  Setup,
  Word,
  Silence,
  ReadQueue,
  HostWrite,
  MoveTable,
  SetFlags,
}
use Rattle.recording.specs.Tag.{length_fits}

-- 2 + 2k, k 1 to 64
pub record WriteSize (size : ℕ) : Type 0 where
  pub at_least : 4 ≤ size
  pub at_most : size ≤ 130
  pub even : size % 2 ≡ 0

pub write_size : (size : ℕ) → length_fits HostWrite size ≡ true → WriteSize size
unfolding length_fits
write_size size all =
    let least = leb 4 size in
    let most = leb size 130 in
    let even = eqb (size % 2) 0 in
    let both : (least && most) ≡ true = first_of_both (least && most) even all in
    record {
      at_least = leb-true 4 size (first_of_both least most both);
      at_most = leb-true size 130 (second_of_both least most both);
      even = eqb-true (size % 2) 0 (second_of_both (least && most) even all);
    }

-- a value has 130 bytes at the most
pub size_at_most : (tag : Tag) (size : ℕ) → length_fits tag size ≡ true → size ≤ 130
unfolding length_fits
size_at_most Setup size is = omega (arith, eqb-true size 3 is)
size_at_most Word size is = omega (arith, eqb-true size 7 is)
size_at_most Silence size is = omega (arith, eqb-true size 5 is)
size_at_most ReadQueue size is = omega (arith, eqb-true size 0 is)
size_at_most HostWrite size is = (write_size size is).at_most
size_at_most MoveTable size is = omega (arith, eqb-true size 1 is)
size_at_most SetFlags size is = omega (arith, eqb-true size 1 is)
