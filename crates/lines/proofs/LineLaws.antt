-- A line on each way that the code takes: the parts of each line in turn, and a text with room and
-- without. Assumes nothing.
use mathlib.Core.Path.{◌≡◌, refl, sym, ◌∙◌}
use mathlib.Core.Bool.{Bool, true, false, cond}
use mathlib.Core.List.{List, [], ◌∷◌}
use Prim.Native.Nat.{ℕ, ◌+◌, ◌-◌, ◌*◌, ◌≤◌, ◌<◌}
use native.Mathlib.Nat.{add-zero}
use native.Mathlib.Omega.{arith}
use lib.Dec.{leb, eqb}
use lib.ListN.{length}
use borrow.Author.Tests.{leb-true, leb-false, eqb-true, eqb-false}
use Rattle.lines.specs.Digits.{hex_word, decimal, decimal_places}
use Rattle.lines.specs.Lines.{
  blank,
  newline,
  each_word,
  status_line,
  queue_line,
  end_line,
  numbers_line,
  given_line,
}
use Rattle.lines.specs.Page.{has_room, written_on, line_on, Leaves, Wrote}
use Rattle.lines.specs.Written.{
  put,
  written,
  stored,
  line_room,
  most_words,
  most_given,
  status_written,
  given_written,
}
use Rattle.lines.specs.declared.Page.{Page}
use Rattle.lines.proofs.WrittenLaws.{
  in_room,
  out_of_room,
  few_words,
  many_words,
  few_given,
  many_given,
}
use Rattle.lines.proofs.PartLaws.{wrote_then, within}

-- ---- the parts of each line

module _ {old first new : Page} where
  module _ {second : Page} where
    pub end_parts : (fields : ℕ) → Wrote 4 old (69 ∷ 78 ∷ 68 ∷ blank ∷ []) first
        → Wrote decimal_places first (decimal fields) second → Wrote 1 second (newline ∷ []) new
        → Wrote line_room old (end_line fields) new
    unfolding end_line
    end_parts fields letters digits end =
        within (wrote_then letters (wrote_then digits end)) (omega arith)

    pub given_parts : (words : List ℕ)
        → Wrote 1 old (71 ∷ []) first
        → Wrote (5 * length words) first (each_word words) second
        → Wrote 1 second (newline ∷ []) new
        → length words ≤ most_given → Wrote line_room old (given_line words) new
    unfolding given_line
    given_parts words letter digits end few =
        within (wrote_then letter (wrote_then digits end)) (omega arith)

    pub queue_parts : (word : ℕ)
        → Wrote 1 old (81 ∷ []) first → Wrote 5 first (each_word (word ∷ [])) second
        → Wrote 1 second (newline ∷ []) new → Wrote line_room old (queue_line word) new
    unfolding queue_line each_word hex_word
    queue_parts word letter digits end =
        within (wrote_then letter (wrote_then digits end)) (omega arith)

    module _ {third : Page} where
      pub status_parts : (status : ℕ) (words : List ℕ)
          → Wrote 1 old (83 ∷ []) first → Wrote 5 first (each_word (status ∷ [])) second
          → Wrote (5 * length words) second (each_word words) third
          → Wrote 1 third (newline ∷ []) new
          → length words ≤ most_words → Wrote line_room old (status_line status words) new
      unfolding status_line each_word hex_word
      status_parts status words letter first rest end few =
          within (wrote_then letter (wrote_then first (wrote_then rest end))) (omega arith)

      pub numbers_parts : {fourth : Page} (letter one other : ℕ)
          → Wrote 2 old (letter ∷ blank ∷ []) first
          → Wrote decimal_places first (decimal one) second
          → Wrote 1 second (blank ∷ []) third → Wrote decimal_places third (decimal other) fourth
          → Wrote 1 fourth (newline ∷ []) new
          → Wrote line_room old (numbers_line letter one other) new
      numbers_parts letter one other mark digits between more end =
          within (wrote_then mark (wrote_then digits (wrote_then between (wrote_then more end))))
          (omega arith)

-- ---- with room and without

module _ (room : ℕ) (old : Page) (text : List ℕ) where
  pub without_room : (answer : Bool) → answer ≡ has_room old room → answer ≡ false
      → Leaves old old (written_on room old text)
  without_room answer is none =
      record {
        same_buffer = refl;
        is_wanted =
            sym (out_of_room room old.out.now old.at text
            (leb-false room (length old.out.now - old.at) (sym is ∙ none)));
      }

  pub with_room : {new : Page} (answer : Bool) → Wrote room old text new
      → answer ≡ has_room old room → answer ≡ true → Leaves old new (written_on room old text)
  with_room answer wrote is some =
      record {
        same_buffer = wrote.same_buffer;
        is_wanted = wrote.is_stored
            ∙ sym (in_room room old.out.now old.at text
            (leb-true room (length old.out.now - old.at) (sym is ∙ some)));
      }

pub nothing_written : (room : ℕ) (out : List ℕ) (at : ℕ) → put at out ≡ written room out at []
unfolding written stored
nothing_written room out at = rw (add-zero at, same_ways (leb room (length out - at)))
  where
    same_ways : (test : Bool) → cond test (put at out) (put at out) ≡ put at out
    same_ways true = refl
    same_ways false = refl

-- of no bytes nothing is put
pub nothing_left : (room : ℕ) (page : Page) → Leaves page page (written_on room page [])
nothing_left room page =
    record { same_buffer = refl; is_wanted = nothing_written room page.out.now page.at }

pub no_bytes : (room : ℕ) (old : Page) (text : List ℕ) (answer : Bool)
    → answer ≡ eqb (length text) 0 → answer ≡ true → Leaves old old (written_on room old text)
no_bytes room old [] answer is none = nothing_left room old
no_bytes room old (byte ∷ text) answer is none =
    absurd (omega (arith, eqb-true (length (byte ∷ text)) 0 (sym is ∙ none)))

-- where there is room for some bytes, they fit
pub bytes_fit : (old : Page) (room : ℕ) (empty answer : Bool)
    → empty ≡ eqb room 0 → empty ≡ false → answer ≡ has_room old room → answer ≡ true
    → old.at + room ≤ length old.out.now
bytes_fit old room empty answer is some is' enough =
    omega (
      arith,
      eqb-false room 0 (sym is ∙ some),
      leb-true room (length old.out.now - old.at) (sym is' ∙ enough),
    )

module _ (old : Page) (status : ℕ) (words : List ℕ) where
  pub status_many : most_words < length words
      → Leaves old old (status_written old.out.now old.at status words)
  status_many many =
      record {
        same_buffer = refl;
        is_wanted = sym (many_words old.out.now old.at status words many);
      }

  pub status_few : {new : Page} → Leaves old new (line_on old (status_line status words))
      → length words ≤ most_words
      → Leaves old new (status_written old.out.now old.at status words)
  status_few line few =
      record {
        same_buffer = line.same_buffer;
        is_wanted = line.is_wanted ∙ sym (few_words old.out.now old.at status words few);
      }

module _ (old : Page) (words : List ℕ) where
  pub given_many : most_given < length words
      → Leaves old old (given_written old.out.now old.at words)
  given_many many =
      record {
        same_buffer = refl;
        is_wanted = sym (many_given old.out.now old.at words many);
      }

  pub given_few : {new : Page} → Leaves old new (line_on old (given_line words))
      → length words ≤ most_given → Leaves old new (given_written old.out.now old.at words)
  given_few line few =
      record {
        same_buffer = line.same_buffer;
        is_wanted = line.is_wanted ∙ sym (few_given old.out.now old.at words few);
      }
