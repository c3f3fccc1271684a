-- The laws of `specs/Field.antt`: a value that is there has the bytes of its tag, and what holds of
-- every number by which a field is refused. Assumes nothing.
use mathlib.Core.Path.{◌≡◌}
use mathlib.Core.Bool.{Bool, cond, not}
use mathlib.Core.List.{List}
use Prim.Native.Nat.{ℕ, ◌+◌, ◌≤◌, ◌<◌}
use native.Mathlib.Omega.{arith}
use lib.ListN.{length}
use borrow.Author.Tests.{eqb-true}
use Rattle.rules.proofs.Choices.{by_test}
use Rattle.bus.specs.Limits.{is_station, are_flags, are_marks, is_line}
use Rattle.card.specs.Memory.{the_block, is_block}
use Rattle.card.specs.Host.{is_write}
use Rattle.recording.specs.declared.tag.Tag.{Tag}
use Rattle.recording.specs.declared.tag.Tag.TheVariants as tags
use Rattle.recording.specs.declared.field.Field.{Field}
use Rattle.recording.specs.declared.field.Field.TheVariants.{
  Setup,
  Word,
  Silence,
  ReadQueue,
  HostWrite,
  MoveTable,
  SetFlags,
}
use Rattle.recording.specs.Tag.{length_fits}
use Rattle.recording.specs.Field.{value_refusal, ValueThere}
use Rattle.recording.proofs.TagLaws.{write_size}

-- ---- a value that is there has the bytes of its tag

module _ {bytes : List ℕ} {tag : Tag} {value size : ℕ}
    (there : ValueThere bytes tag value size) where
  pub setup_there : tag ≡ tags.Setup → value + 3 ≤ length bytes
  unfolding length_fits
  setup_there is = omega (arith, eqb-true size 3 (rw is at there.fits), there.inside)

  pub word_there_lem : tag ≡ tags.Word → value + 7 ≤ length bytes
  unfolding length_fits
  word_there_lem is = omega (arith, eqb-true size 7 (rw is at there.fits), there.inside)

  pub silence_there : tag ≡ tags.Silence → value + 5 ≤ length bytes
  unfolding length_fits
  silence_there is = omega (arith, eqb-true size 5 (rw is at there.fits), there.inside)

  -- the address of a host write
  pub address_there : tag ≡ tags.HostWrite → 2 ≤ size
  address_there is = omega (arith, (write_size size (rw is at there.fits)).at_least)

  pub table_there : tag ≡ tags.MoveTable → value < length bytes
  unfolding length_fits
  table_there is = omega (arith, eqb-true size 1 (rw is at there.fits), there.inside)

  pub flags_there : tag ≡ tags.SetFlags → value < length bytes
  unfolding length_fits
  flags_there is = omega (arith, eqb-true size 1 (rw is at there.fits), there.inside)

-- ---- the number of a field's refusal

-- what holds of 0, 2, 3 and 8 holds of every field's number
pub by_refusal : (Claim : ℕ → Type 0) → Claim 0 → Claim 2 → Claim 3 → Claim 8
    → (blocks : ℕ) (field : Field) → Claim (value_refusal blocks field)
by_refusal Claim none two three eight blocks = number
  where
    by_limit : (test : Bool) → Claim (cond test 8 0)
    by_limit test = by_test Claim test (λ _. eight) (λ _. none)

    number : (field : Field) → Claim (value_refusal blocks field)
    number (Setup station table flags) =
        by_test Claim (not (is_station station)) (λ _. two) (λ _.
        by_test Claim (not (is_block blocks (the_block table))) (λ _. three) (λ _.
        by_limit (not (are_flags flags))))
    number (Word marks value time) = by_limit (not (are_marks marks))
    number (Silence line time) = by_limit (not (is_line line))
    number ReadQueue = none
    number (HostWrite address first count) = by_limit (not (is_write blocks address count))
    number (MoveTable table) =
        by_test Claim (not (is_block blocks (the_block table))) (λ _. three) (λ _. none)
    number (SetFlags flags) = by_limit (not (are_flags flags))
