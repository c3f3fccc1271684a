-- The laws of `specs/Text.antt`: texts that are put one behind the other are put at once, and the
-- digits that stand in a buffer of their own are the number's. Assumes nothing.
use mathlib.Core.Path.{◌≡◌, refl, sym, ap, ◌∙◌}
use mathlib.Core.List.{List, [], ◌++◌, append-nil}
use Prim.Native.Nat.{ℕ, ◌+◌, ◌-◌, ◌≤◌, min}
use native.Mathlib.Decide.{dec_le}
use native.Mathlib.Nat.{add-zero, sub_self}
use native.Mathlib.Omega.{arith}
use lib.ListN.{length, take, length-take}
use lib.Seq.{length-sets, length-take-le, take_all, take-nil, take-append-le, take-append-add}
use Rattle.lines.specs.Page.{written_on, Leaves, Wrote}
use Rattle.lines.specs.Written.{Put, put, stored}
use Rattle.lines.specs.declared.Page.{Page}
use Rattle.lines.proofs.WrittenLaws.{in_room, take_written}
use Rattle.lines.proofs.PartLaws.{stored_then}
use Rattle.shown.specs.Text.{fitted, Fits}

-- ---- one text behind the other

-- what has room of two texts
take_both : (room : ℕ) (text more : List ℕ)
    → take room text ++ take (room - length (take room text)) more ≡ take room (text ++ more)
take_both room text more =
    elim (dec_le room (length text)) [
      | yes short ↦
          rw (length-take-le room text short, sub_self room, take-append-le room text more short)
          (append-nil (take room text))
      | no long ↦
          let enough : room ≡ length text + (room - length text) = omega arith in
          rw (take_all room text (omega arith))
          (sym (ap (λ (count : ℕ). take count (text ++ more)) enough
          ∙ take-append-add text more (room - length text)))
    ]

module _ {old new : Page} {text : List ℕ} (first : Fits old text new) where
  next_is : new.at ≡ old.at + length (take (length old.out.now - old.at) text)
  unfolding fitted stored
  next_is = ap (λ (left : Put). left.next) first.is_fitted

  pub as_long : length new.out.now ≡ length old.out.now
  unfolding fitted stored
  as_long =
      ap (λ (left : Put). length left.bytes) first.is_fitted
      ∙ length-sets old.out.now old.at (take (length old.out.now - old.at) text)

  wrote : Wrote (length (take (length old.out.now - old.at) text)) old
      (take (length old.out.now - old.at) text) new
  unfolding fitted
  wrote =
      record {
        same_buffer = first.same_buffer;
        is_stored = first.is_fitted;
        as_long = as_long;
        fits = omega (arith, next_is);
      }

  -- the next place lies in the buffer, if the old one does
  pub inside : old.at ≤ length old.out.now → new.at ≤ length new.out.now
  inside lies =
      omega (arith, next_is, as_long, length-take (length old.out.now - old.at) text)

  pub fitted_then : (more : List ℕ)
      → fitted new.out.now new.at more ≡ fitted old.out.now old.at (text ++ more)
  unfolding fitted
  fitted_then more =
      let left : length new.out.now - new.at
      ≡ length old.out.now - old.at - length (take (length old.out.now - old.at) text) =
      omega (arith, next_is, as_long) in
      stored_then wrote (take (length new.out.now - new.at) more)
      ∙ ap (λ (all : List ℕ). stored old.out.now old.at all)
      (rw left (take_both (length old.out.now - old.at) text more))

  pub fits_then : {more : List ℕ} {last : Page} → Fits new more last → Fits old (text ++ more) last
  fits_then {more} then =
      record {
        same_buffer = then.same_buffer ∙ first.same_buffer;
        is_fitted = then.is_fitted ∙ fitted_then more;
      }

-- of no text nothing is put
pub fitted_nothing : (out : List ℕ) (at : ℕ) → fitted out at [] ≡ put at out
unfolding fitted stored
fitted_nothing out at = rw (take-nil (length out - at), add-zero at)

pub nothing_fits : (page : Page) → Fits page [] page
nothing_fits page =
    record { same_buffer = refl; is_fitted = sym (fitted_nothing page.out.now page.at) }

-- ---- with room and without

cut : (room : ℕ) (text : List ℕ) (left : ℕ) → room ≡ min (length text) left
    → take room text ≡ take left text
cut room text left is =
    elim (dec_le left (length text)) [
      | yes short ↦ ap (λ (count : ℕ). take count text) (omega arith)
      | no long ↦ rw (take_all room text (omega arith), take_all left text (omega arith))
    ]

-- the part of a text that there is room for
pub text_fits : (old : Page) (text : List ℕ) (new : Page) (room left : ℕ)
    → Leaves old new (written_on (length (take room text)) old (take room text))
    → room ≡ min (length text) left → left ≡ length old.out.now - old.at → Fits old text new
unfolding fitted
text_fits old text new room left wrote is left_is =
    let is' : room ≡ min (length text) (length old.out.now - old.at) = rw (← left_is) is in
    record {
      same_buffer = wrote.same_buffer;
      is_fitted =
          wrote.is_wanted
          ∙ in_room (length (take room text)) old.out.now old.at (take room text)
          (omega (arith, length-take room text))
          ∙ ap (λ (all : List ℕ). stored old.out.now old.at all)
          (cut room text (length old.out.now - old.at) is');
    }

-- ---- digits that were written onto a page of their own

pub own_fits : {old new start own : Page} {bytes : List ℕ} (room : ℕ) (text : List ℕ)
    → Fits old bytes new → bytes ≡ take own.at own.out.now
    → Leaves start own (written_on room start text) → start.at ≡ 0
    → room ≤ length start.out.now → length text ≤ room → Fits old text new
own_fits {start = start} {own} {bytes} room text fits is wrote begins enough short =
    let all : bytes ≡ text =
    is
    ∙ ap (λ (left : Put). take left.next left.bytes) wrote.is_wanted
    ∙ take_written room start.out.now start.at text (omega arith) (omega arith) short
    ∙ rw begins in
    rw all at fits
