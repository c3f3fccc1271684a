-- The laws of `specs/Whole.antt`: a run goes field by field, however many turns are allowed, and
-- its text is never empty. Assumes nothing.
use mathlib.Core.Path.{◌≡◌, refl, ap, ◌∙◌}
use mathlib.Core.List.{List}
use Prim.Native.Nat.{ℕ, zero, suc, ◌≤◌, ◌<◌}
use native.Mathlib.Omega.{arith}
use lib.ListN.{length, drop, length-drop, length-append}
use Rattle.lines.specs.Written.{line_room}
use Rattle.pieces.specs.Course.{Met, taken, at_end, refused, Course, last_of}
use Rattle.pieces.specs.Whole.{Whole, with_line, whole_of, whole_by, whole_from}
use Rattle.pieces.specs.Steady.{Steady}
use Rattle.pieces.proofs.LineLaws.{last_line_fits, last_line_there}

module _ {Run : Type 0} (course : Course Run) where
  pub last_of_fits : (number : ℕ) (old : Run) → length (last_of course number old) ≤ line_room
  last_of_fits number old = last_line_fits number (course.fields old) (course.offset old)

  last_of_there : (number : ℕ) (old : Run) → 0 < length (last_of course number old)
  last_of_there number old = last_line_there number (course.fields old) (course.offset old)

module _ {Run : Type 0} (course : Course Run) {longest : ℕ} (steady : Steady course longest) where
  -- ---- field by field

  -- a field that is taken leaves fewer bytes
  fewer : (old : Run) (bytes : List ℕ) {next : ℕ} {line : List ℕ} {new : Run}
      → course.meets old bytes 0 ≡ taken next line new → length (drop next bytes) < length bytes
  fewer old bytes {next} is =
      omega (
        arith,
        length-drop next bytes,
        steady.moves_on old bytes 0 is,
        steady.ends_inside old bytes 0 is,
      )

  -- two ways to go on that agree on fewer bytes agree on these
  same_rest : (one other : Run → List ℕ → Whole Run) (old : Run) (bytes : List ℕ) (met : Met Run)
      → ((new : Run) (rest : List ℕ) → length rest < length bytes → one new rest ≡ other new rest)
      → course.meets old bytes 0 ≡ met
      → whole_of course met one old bytes ≡ whole_of course met other old bytes
  unfolding whole_of
  same_rest one other old bytes (taken next line new) agree is =
      ap (with_line line) (agree new (drop next bytes) (fewer old bytes is))
  same_rest one other old bytes at_end agree is = refl
  same_rest one other old bytes (refused number) agree is = refl

  -- more turns than there are bytes make the same of them
  enough : (most more : ℕ) (old : Run) (bytes : List ℕ)
      → length bytes < most → length bytes < more
      → whole_by course most old bytes ≡ whole_by course more old bytes
  unfolding whole_by
  enough zero more old bytes short long = absurd (omega (arith, short))
  enough (suc most) zero old bytes short long = absurd (omega (arith, long))
  enough (suc most) (suc more) old bytes short long =
      same_rest (whole_by course most) (whole_by course more) old bytes (course.meets old bytes 0)
      (λ new rest fewer_bytes.
      enough most more new rest (omega (arith, fewer_bytes)) (omega (arith, fewer_bytes)))
      refl

  -- what is made of the bytes, by what is met first
  pub whole_by_met : (old : Run) (bytes : List ℕ) (met : Met Run) → course.meets old bytes 0 ≡ met
      → whole_from course old bytes ≡ whole_of course met (whole_from course) old bytes
  unfolding whole_from whole_by
  whole_by_met old bytes met is =
      ap (λ (any : Met Run). whole_of course any (whole_by course (length bytes)) old bytes) is
      ∙ same_rest (whole_by course (length bytes)) (whole_from course) old bytes met
      (λ new rest fewer_bytes.
      enough (length bytes) (suc (length rest)) new rest fewer_bytes (omega arith))
      is

  -- ---- the text is never empty

  -- it is not if it is not of fewer bytes
  text_by_met : (rest : Run → List ℕ → Whole Run) (old : Run) (bytes : List ℕ) (met : Met Run)
      → ((new : Run) (fewer_bytes : List ℕ) → length fewer_bytes < length bytes
      → 0 < length (rest new fewer_bytes).text)
      → course.meets old bytes 0 ≡ met
      → 0 < length (whole_of course met rest old bytes).text
  unfolding whole_of
  text_by_met rest old bytes (taken next line new) there is =
      omega (
        arith,
        length-append line (rest new (drop next bytes)).text,
        there new (drop next bytes) (fewer old bytes is),
      )
  text_by_met rest old bytes at_end there is = last_of_there course 0 old
  text_by_met rest old bytes (refused number) there is = last_of_there course number old

  text_there : (most : ℕ) (old : Run) (bytes : List ℕ) → length bytes < most
      → 0 < length (whole_by course most old bytes).text
  unfolding whole_by
  text_there zero old bytes few = absurd (omega (arith, few))
  text_there (suc most) old bytes few =
      text_by_met (whole_by course most) old bytes (course.meets old bytes 0)
      (λ new rest fewer_bytes. text_there most new rest (omega (arith, fewer_bytes))) refl

  pub text_not_empty : (old : Run) (bytes : List ℕ)
      → 0 < length (whole_from course old bytes).text
  unfolding whole_from
  text_not_empty old bytes = text_there (suc (length bytes)) old bytes (omega arith)
