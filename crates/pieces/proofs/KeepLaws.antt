-- The laws of `kept_rest`, as the code moves the bytes at once. Assumes nothing.
use mathlib.Core.Path.{◌≡◌, sym, ◌∙◌}
use mathlib.Core.List.{List, []}
use Prim.Native.Nat.{ℕ, ◌-◌, ◌≤◌, ◌<◌}
use native.Mathlib.Omega.{arith}
use lib.ListN.{length, take, drop, length-drop, drop_of_length-le}
use lib.Seq.{sets, sets-eq, slice, length-take-le}
use borrow.Author.Tests.{le-leb, lt-leb}
use Rattle.std.specs.List.{copy_within}
use Rattle.std.proofs.lemmas.Slice.{between_is}
use Rattle.lines.specs.Written.{put}
use Rattle.pieces.specs.AsCoded.Rest.{kept_rest}

module _ (window : List ℕ) (at end : ℕ) where
  moved : end ≤ length window → at < end
      → copy_within window at end 0 ≡ sets window 0 (slice at end window)
  moved inside some =
      let part : take (end - at) (drop at window) ≡ slice at end window =
      between_is window at end in
      let count : length (slice at end window) ≡ end - at =
      omega (
        arith,
        length-drop at (take end window),
        length-take-le end window inside,
      ) in
      sym (sets-eq (slice at end window) window 0 (omega arith) ∙ rw (count, ← part))

  pub keeping_all : (after : List ℕ) → end ≤ length window → at < end
      → after ≡ copy_within window at end 0 → put (end - at) after ≡ kept_rest window at end
  unfolding kept_rest
  keeping_all after inside some is =
      rw (le-leb end (length window) inside, is, moved inside some)

  pub kept_past : length window < end → put 0 window ≡ kept_rest window at end
  unfolding kept_rest
  kept_past past = rw (lt-leb end (length window) past)

  pub kept_none : end ≤ length window → end ≤ at → put 0 window ≡ kept_rest window at end
  unfolding kept_rest
  kept_none inside none =
      let nothing : end - at ≡ 0 = omega arith in
      let empty : slice at end window ≡ [] =
      drop_of_length-le (take end window) {i = at}
      (omega (arith, length-take-le end window inside)) in
      rw (le-leb end (length window) inside, nothing, empty)

pub ruleset keeping = (keeping_all, kept_past, kept_none)
