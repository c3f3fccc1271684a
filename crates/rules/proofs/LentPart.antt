-- A part of a slice that was lent and came back: what a store to the part is to the whole.
-- `mid_of` and `put_mid` are what the borrow checker says of `&mut whole[start..end]`: the part as
-- it is lent, and the whole with the part put back. Assumes nothing.
use Rattle.std.proofs.Common.{
  ◌≡◌,
  ℕ,
  ◌+◌,
  ◌-◌,
  ◌<◌,
  ◌≤◌,
  min,
  List,
  ◌++◌,
  length,
  set,
  take,
  drop,
  arith,
  length-take-le,
}
use Rattle.std.proofs.lemmas.List.{set-append_left, set-append_right}
use native.Mathlib.Decide.{dec_lt}
use lib.Seq.{set_out}
use borrow.Rule.Slice.PartMut.{mid_of, put_mid, same_len_mid}

module _ {A : Type 0} where
  module _ (whole : List A) (start count : ℕ) (part : List A) (place : ℕ) (value : A) where
    -- a store inside the part
    lent_set : start ≤ length whole → place < length part
        → put_mid start count whole (set part place value)
        ≡ set (put_mid start count whole part) (start + place) value
    lent_set inside in_part =
        let rest : List A = drop count (drop start whole) in
        let behind : start + place - start ≡ place = omega arith in
        rw (
          set-append_right (take start whole) (part ++ rest) start (start + place) value
              (length-take-le start whole inside) (omega arith),
          behind,
          set-append_left part rest place value in_part,
        )

    -- a store to a part of `size` elements, or fewer where the whole ends first: at a place below
    -- `size` it is the store to the whole, also past the end, where either changes nothing
    pub lent_store : (size : ℕ) → start ≤ length whole → count ≡ min size (length whole - start)
        → length part ≡ length (mid_of start count whole) → length part ≡ count → place < size
        → put_mid start count whole (set part place value)
        ≡ set (put_mid start count whole part) (start + place) value
    lent_store size inside cut as_lent long below =
        elim (dec_lt place (length part)) [
          | yes in_part ↦ lent_set inside in_part
          | no past ↦
              let same : length (put_mid start count whole part) ≡ length whole =
              same_len_mid start count whole part as_lent in
              rw (
                set_out part place value (omega arith),
                set_out (put_mid start count whole part) (start + place) value (omega arith),
              )
        ]
