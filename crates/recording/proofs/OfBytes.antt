-- Of bytes the reader never gives refusal 3, `no_block_above_255`: one byte cannot spell a table
-- block above 255. Assumes nothing.
use mathlib.Core.Path.{◌≡◌}
use mathlib.Core.Bool.{Bool, true, false, cond, not}
use mathlib.Core.List.{List}
use Rattle.std.proofs.Common.{Option, Some, None}
use Prim.Native.Nat.{ℕ, ◌+◌, ◌-◌, ◌/◌, ◌<◌}
use native.Mathlib.Omega.{arith}
use lib.Dec.{eqb, ltb}
use borrow.Author.Tests.{lt-ltb}
use Rattle.rules.proofs.Choices.{by_test}
use Rattle.bus.specs.Limits.{is_station, are_flags, are_marks, is_line}
use Rattle.card.specs.Memory.{card_blocks, the_block, is_block}
use Rattle.card.specs.Host.{is_write}
use Rattle.recording.specs.declared.tag.Tag.{Tag}
use Rattle.recording.specs.declared.tag.Tag.TheVariants.{
  Setup,
  Word,
  Silence,
  ReadQueue,
  HostWrite,
  MoveTable,
  SetFlags,
}
use Rattle.recording.specs.declared.seen.Seen.{Seen}
use Rattle.recording.specs.Bytes.{bytes_left, byte_at, word_at}
use Rattle.recording.specs.Tag.{tag_at, length_fits}
use Rattle.recording.specs.Field.{setup_field, field_at, value_refusal}
use Rattle.recording.specs.Seen.{is_due}
use Rattle.recording.specs.Reading.{Reading, Taken, End, Refused, read_by, read_at}

-- the number is another than 3
abbrev Other : ℕ → Type 0
Other number = number ≡ 3 → ⊥

abbrev pub NotThree : Reading → Type 0
NotThree (Taken field next) = Unit {0}
NotThree End = Unit {0}
NotThree (Refused number place) = Other number

-- a choice between 8 and 0
eight_or_none : (test : Bool) → Other (cond test 8 0)
eight_or_none true is = omega arith
eight_or_none false is = omega arith

module _ (bytes : List ℕ) (are : (place : ℕ) → byte_at bytes place < 256) where
  setup_not_three : (value : ℕ) → Other (value_refusal card_blocks (setup_field bytes value))
  setup_not_three value =
      rw (lt-ltb (byte 1) card_blocks (are (value + 1))) (go (is_station (byte_at bytes value)))
    where
      byte : ℕ → ℕ
      byte offset = byte_at bytes (value + offset)

      go : (test : Bool) → Other (cond (not test) 2 (cond (not (are_flags (byte 2))) 8 0))
      go true is = eight_or_none (not (are_flags (byte 2))) is
      go false is = omega arith

  table_not_three : (value : ℕ)
      → Other (cond (not (is_block card_blocks (the_block (byte_at bytes value)))) 3 0)
  table_not_three value =
      rw (lt-ltb (byte_at bytes value) card_blocks (are value)) (λ is. omega arith)

  value_not_three : (tag : Tag) (value size : ℕ)
      → Other (value_refusal card_blocks (field_at bytes tag value size))
  unfolding field_at
  value_not_three Setup value size = setup_not_three value
  value_not_three Word value size = eight_or_none (not (are_marks (byte_at bytes value)))
  value_not_three Silence value size = eight_or_none (not (is_line (byte_at bytes value)))
  value_not_three ReadQueue value size = λ is. omega arith
  value_not_three HostWrite value size =
      eight_or_none (not (is_write card_blocks (word_at bytes value) ((size - 2) / 2)))
  value_not_three MoveTable value size = table_not_three value
  value_not_three SetFlags value size = eight_or_none (not (are_flags (byte_at bytes value)))

  pub no_block_above_255 : (place : ℕ) (seen : Seen) → NotThree (read_at bytes place seen)
  unfolding read_at
  no_block_above_255 place seen =
      by_test NotThree (eqb left 0) (λ _. tt) (λ _. read_not_three (tag_at bytes place))
    where
      left : ℕ
      left = bytes_left bytes place

      size : ℕ
      size = word_at bytes (place + 1)

      read_not_three : (tag : Option Tag) → NotThree (read_by tag bytes place seen)
      read_not_three None = λ is. omega arith
      read_not_three (Some tag) =
          by_test NotThree (ltb left 3) (λ _ is. omega arith) (λ _.
          by_test NotThree (not (length_fits tag size)) (λ _ is. omega arith) (λ _.
          by_test NotThree (ltb left (3 + size)) (λ _ is. omega arith) (λ _.
          by_test NotThree (not (is_due tag seen)) (λ _ is. omega arith) (λ _.
          by_test NotThree
          (eqb (value_refusal card_blocks (field_at bytes tag (place + 3) size)) 0)
          (λ _. tt)
          (λ _. value_not_three tag (place + 3) size)))))
