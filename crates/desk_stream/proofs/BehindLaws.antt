-- Bytes that come behind change no reading that is settled, and so nothing that a run meets there.
-- Assumes nothing.
use mathlib.Core.Path.{◌≡◌, refl, sym, ap, ◌∙◌}
use mathlib.Core.Bool.{Bool, true, false, true≢false, not}
use mathlib.Core.List.{List, ◌++◌}
use Prim.Native.Nat.{ℕ, ◌+◌, ◌≤◌}
use native.Mathlib.Decide.{ℕ_discrete}
use native.Mathlib.Omega.{arith}
use lib.Dec.{eqb, ltb}
use lib.ListN.{length, length-append}
use borrow.Author.Tests.{ne_eqb, eqb-true, eqb-false, ltb-false, le-ltb}
use Rattle.rules.proofs.Stays.{Stays, same, open_way, same_way, either_way}
use Rattle.recording.specs.Reading.{Reading as SharedReading}
use Rattle.recording.specs.declared.seen.Seen.{Seen}
use Rattle.recording.specs.Bytes.{bytes_left, byte_at, word_at}
use Rattle.recording.specs.Reading as recording
use Rattle.recording.specs.AsCoded.Pieces as recorded
use Rattle.recording.proofs.MoreBytes.{byte_of_more, word_of_more, settled_stays}
use Rattle.desk.specs.declared.field.Field.{Field}
use Rattle.desk.specs.declared.field.Field.TheVariants.{Start}
use Rattle.desk.specs.Reading.{
  Reading,
  Taken,
  End,
  Refused,
  setup_tag,
  start_tag,
  own_refusal,
  own_at,
  is_shared,
  shared_as,
  read_at,
}
use Rattle.desk.proofs.ReadingLaws.{own_whole}

-- whether a reading stands, whatever bytes come behind: all do but the end and refusal 5
abbrev pub is_settled : Reading → Bool
is_settled (Taken field next) = true
is_settled End = false
is_settled (Refused number) = not (eqb number 5)

abbrev is_settled_number : ℕ → Bool
is_settled_number number = not (eqb number 5)

settled_as_shared : (reading : SharedReading)
    → is_settled (shared_as reading) ≡ recorded.is_settled reading
settled_as_shared (recording.Taken field next) = refl
settled_as_shared recording.End = refl
settled_as_shared (recording.Refused number place) = refl

module _ (front back : List ℕ) where
  abbrev left : ℕ
  left = bytes_left front 0

  abbrev left' : ℕ
  left' = bytes_left (front ++ back) 0

  more : length (front ++ back) ≡ length front + length back
  more = length-append front back

  still : (least : ℕ) → ltb left least ≡ false → ltb left' least ≡ false
  still least long = le-ltb left' least (omega (arith, more, ltb-false left least long))

  -- ---- the controller's own fields

  own_number_stays : (size : ℕ) (due : Bool)
      → Stays is_settled_number (own_refusal front 0 size due)
      (own_refusal (front ++ back) 0 size due)
  unfolding own_refusal
  own_number_stays size due =
      open_way is_settled_number 5 (ltb left 3) (ltb left' 3) refl (still 3) (λ long.
      rw (word_of_more front back 1 (omega (arith, ltb-false left 3 long)))
      (same_way is_settled_number 7 (not (eqb (word_at front 1) size)) (λ _.
      open_way is_settled_number 5 (ltb left (3 + size)) (ltb left' (3 + size)) refl
      (still (3 + size)) (λ _. same is_settled_number))))

  own_stays : (size : ℕ) (due : Bool) (field field' : Field)
      → (3 + size ≤ bytes_left front 0 → field' ≡ field)
      → Stays is_settled (own_at front 0 size due field) (own_at (front ++ back) 0 size due field')
  unfolding own_at
  own_stays size due field field' same_field =
      let number : ℕ = own_refusal front 0 size due in
      elim (ℕ_discrete number 5) [
        | yes five ↦
            record {
              stays = λ settled.
                  let wrong : false ≡ true = rw five at settled in
                  absurd (true≢false (sym wrong));
            }
        | no other ↦
            let kept : own_refusal (front ++ back) 0 size due ≡ number =
            (own_number_stays size due).stays (rw (ne_eqb number 5 other)) in
            rw kept
            (either_way is_settled (eqb number 0)
            (λ none.
            rw (same_field (own_whole front 0 size due (eqb-true number 0 none))) (same is_settled))
            (λ _. same is_settled))
      ]

  -- ---- the reader

  module _ (seen : Seen) where
    shared_stays : Stays is_settled (shared_as (recording.read_at front 0 seen))
        (shared_as (recording.read_at (front ++ back) 0 seen))
    shared_stays =
        record {
          stays = λ settled.
              ap shared_as
              (settled_stays front back 0 seen
              (sym (settled_as_shared (recording.read_at front 0 seen)) ∙ settled));
        }

    pub reading_stays : Stays is_settled (read_at front 0 seen) (read_at (front ++ back) 0 seen)
    unfolding read_at
    reading_stays =
        let tag : ℕ = byte_at front 0 in
        open_way is_settled End (eqb left 0) (eqb left' 0) refl still_some (λ some.
        rw (byte_of_more front back 0 (omega (arith, eqb-false left 0 some)))
        (either_way is_settled (eqb tag setup_tag)
        (λ _. own_stays 4 (not seen.setup) _ _ (λ whole.
        rw (
          word_of_more front back 3 (omega (arith, whole)),
          word_of_more front back 5 (omega (arith, whole)),
        )))
        (λ _. either_way is_settled (eqb tag start_tag)
        (λ _. own_stays 0 seen.setup Start Start (λ _. refl))
        (λ _. either_way is_settled (is_shared tag) (λ _. shared_stays) (λ _. same is_settled)))))
      where
        still_some : eqb left 0 ≡ false → eqb left' 0 ≡ false
        still_some some = ne_eqb left' 0 (λ none. eqb-false left 0 some (omega (arith, more)))
