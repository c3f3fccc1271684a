-- The laws of `specs/AsCoded/Found.antt`: what is found on each way that the code takes, and that a
-- word field which is found is what the reader reads there (`found_is_read`). Assumes nothing.
use mathlib.Core.Path.{◌≡◌, refl, sym, subst}
use mathlib.Core.Bool.{Bool, true, false, cond, ◌&&◌}
use mathlib.Core.List.{List}
use Rattle.std.proofs.Common.{Option, Some, None}
use Prim.Native.Nat.{ℕ, ◌+◌, ◌-◌, ◌*◌, ◌≤◌, ◌<◌}
use native.Mathlib.Omega.{arith}
use lib.Dec.{eqb, leb, ltb}
use lib.ListN.{length, get_or, drop, length-drop}
use lib.Seq.{take_all, get_or-drop}
use Rattle.std.specs.List.{slice_range}
use Rattle.std.specs.Bool.{then_some}
use borrow.Author.Tests.{eqb-true, ne_eqb, leb-true, le-leb, lt-leb, le-ltb}
use Rattle.rules.proofs.Choices.{by_test}
use Rattle.rules.proofs.Halves.{first_of_both, second_of_both}
use Rattle.bus.specs.Limits.{all_marks, are_marks}
use Rattle.recording.specs.declared.field.Field.TheVariants.{Word}
use Rattle.recording.specs.declared.seen.Seen.{Seen}
use Rattle.recording.specs.declared.words.Found.{Found}
use Rattle.recording.specs.Bytes.{bytes_left, byte_at, word_at, time_at}
use Rattle.recording.specs.Tag.{word_tag, tag_of, length_fits}
use Rattle.recording.specs.Field.{field_at}
use Rattle.recording.specs.Reading.{Taken, read_at}
use Rattle.recording.specs.AsCoded.Found.{starts_word, found, word_found}

-- ---- as the code looks

module _ (bytes : List ℕ) (place marks : ℕ) where
  pub found_past : length bytes < place → None ≡ word_found bytes place marks
  unfolding word_found
  found_past past = rw (lt-leb 10 (bytes_left bytes place) (omega arith))

  -- the bytes from the place on
  module _ (rest : List ℕ) (is_rest : rest ≡ slice_range bytes place (length bytes))
      (as_long : length rest + place ≡ length bytes) where
    pub found_short : length rest < 10 → None ≡ word_found bytes place marks
    unfolding word_found
    found_short short = rw (lt-leb 10 (bytes_left bytes place) (omega arith))

    module _ (whole : 10 ≤ length rest) where
      long : leb 10 (bytes_left bytes place) ≡ true
      long = le-leb 10 (bytes_left bytes place) (omega arith)

      byte : (offset : ℕ) → byte_at bytes (place + offset) ≡ get_or rest offset 0
      byte offset =
          rw (
            is_rest,
            take_all (length bytes - place) (drop place bytes)
                (omega (arith, length-drop place bytes)),
          )
          (sym (get_or-drop place bytes offset 0))

      first : byte_at bytes place ≡ get_or rest 0 0
      first =
          let same : place + 0 ≡ place = omega arith in
          rw same at (byte 0)

      -- the four bytes before the value are tested at once
      pub found_if : (value : ℕ) (answer : Option Found)
          → value ≡ get_or rest 4 0 * 256 + get_or rest 5 0
          → answer
          ≡ then_some
          (eqb (get_or rest 0 0) word_tag && eqb (get_or rest 1 0) 0 && eqb (get_or rest 2 0) 7
          && eqb (get_or rest 3 0) marks) (found value (place + 10))
          → answer ≡ word_found bytes place marks
      unfolding word_found
      found_if value answer is_value is =
          let after : place + 4 + 1 ≡ place + 5 = omega arith in
          rw (is, long, first, byte 1, byte 2, byte 3, after, byte 4, byte 5, is_value)
          (by_choice _
          (eqb (get_or rest 0 0) word_tag && eqb (get_or rest 1 0) 0
          && eqb (get_or rest 2 0) 7 && eqb (get_or rest 3 0) marks))
        where
          by_choice : (word : Found) (test : Bool)
              → then_some test word ≡ cond test (Some word) None
          by_choice word true = refl
          by_choice word false = refl

pub ruleset finding = (found_past, found_short, found_if)

-- ---- what is found is read

module _ (bytes : List ℕ) (place marks : ℕ) (few : marks ≤ all_marks) (seen : Seen)
    (after_setup : seen.setup ≡ true) where
  -- a word field that starts there whole is taken, once a setup has been read
  starts_is_read : 10 ≤ bytes_left bytes place → byte_at bytes place ≡ word_tag
      → byte_at bytes (place + 1) ≡ 0 → byte_at bytes (place + 2) ≡ 7
      → byte_at bytes (place + 3) ≡ marks
      → read_at bytes place seen
      ≡ Taken (Word marks (word_at bytes (place + 4)) (time_at bytes (place + 6))) (place + 10)
  unfolding read_at tag_of length_fits field_at
  starts_is_read whole tag high low marked =
      let second : place + 1 + 1 ≡ place + 2 = omega arith in
      let some : eqb (bytes_left bytes place) 0 ≡ false =
      ne_eqb (bytes_left bytes place) 0 (λ none. absurd (omega (arith, whole, none))) in
      let first : ltb (bytes_left bytes place) 3 ≡ false =
      le-ltb (bytes_left bytes place) 3 (omega (arith, whole)) in
      let all : ltb (bytes_left bytes place) 10 ≡ false =
      le-ltb (bytes_left bytes place) 10 whole in
      let in_order : are_marks marks ≡ true = le-leb marks all_marks few in
      let value : place + 3 + 1 ≡ place + 4 = omega arith in
      let time : place + 3 + 3 ≡ place + 6 = omega arith in
      let next : place + 3 + 7 ≡ place + 10 = omega arith in
      rw (
        some,
        tag,
        first,
        second,
        high,
        low,
        all,
        after_setup,
        marked,
        in_order,
        value,
        time,
        next,
      )

  abbrev Read : Option Found → Type 0
  Read (Some word) =
      (word.next ≡ place + 10)
      × (10 ≤ bytes_left bytes place)
      × (byte_at bytes place ≡ word_tag)
      × (read_at bytes place seen
      ≡ Taken (Word marks word.value (time_at bytes (place + 6))) word.next)
  Read None = place ≡ place

  found_tells : Read (word_found bytes place marks)
  unfolding word_found
  found_tells =
      by_test Read (leb 10 (bytes_left bytes place) && starts_word bytes place marks)
      (λ is. go is) (λ _. refl)
    where
      tag : Bool
      tag = eqb (byte_at bytes place) word_tag

      high : Bool
      high = eqb (byte_at bytes (place + 1)) 0

      low : Bool
      low = eqb (byte_at bytes (place + 2)) 7

      marked : Bool
      marked = eqb (byte_at bytes (place + 3)) marks

      go : leb 10 (bytes_left bytes place) && (tag && high && low && marked) ≡ true
          → Read (Some (found (word_at bytes (place + 4)) (place + 10)))
      go is =
          let long = leb 10 (bytes_left bytes place) in
          let to_marked = second_of_both long (tag && high && low && marked) is in
          let to_low = first_of_both (tag && high && low) marked to_marked in
          let to_high = first_of_both (tag && high) low to_low in
          let whole : 10 ≤ bytes_left bytes place =
          leb-true 10 (bytes_left bytes place)
          (first_of_both long (tag && high && low && marked) is) in
          let tagged : byte_at bytes place ≡ word_tag =
          eqb-true (byte_at bytes place) word_tag (first_of_both tag high to_high) in (
            refl,
            whole,
            tagged,
            starts_is_read whole tagged
                (eqb-true (byte_at bytes (place + 1)) 0 (second_of_both tag high to_high))
                (eqb-true (byte_at bytes (place + 2)) 7 (second_of_both (tag && high) low to_low))
                (eqb-true (byte_at bytes (place + 3)) marks
                (second_of_both (tag && high && low) marked to_marked)),
          )

  module _ {value next : ℕ} (is : word_found bytes place marks ≡ Some (found value next)) where
    pub found_is_read :
        read_at bytes place seen ≡ Taken (Word marks value (time_at bytes (place + 6))) next
    found_is_read = (subst Read is found_tells).3

    pub found_moves_on : next ≡ place + 10
    found_moves_on = (subst Read is found_tells).0

    pub found_whole : 10 ≤ bytes_left bytes place
    found_whole = (subst Read is found_tells).1

    pub found_tag : byte_at bytes place ≡ word_tag
    found_tag = (subst Read is found_tells).2
