-- Every field that is taken is in order: what it holds is what the tables of document 01 allow,
-- `taken_in_order`. Assumes nothing.
use mathlib.Core.Path.{◌≡◌, refl}
use mathlib.Core.Bool.{Bool, true, false, cond, not, ◌&&◌}
use mathlib.Core.List.{List}
use Prim.Native.Nat.{ℕ, suc, ◌+◌, ◌-◌, ◌*◌, ◌/◌, ◌≤◌, ◌<◌}
use native.Mathlib.Omega.{arith}
use lib.Dec.{leb, ltb}
use borrow.Author.Tests.{leb-true, ltb-true}
use Rattle.rules.proofs.Halves.{second_of_both}
use Rattle.bus.specs.Limits.{
  last_station,
  is_station,
  all_flags,
  are_flags,
  all_marks,
  last_line,
}
use Rattle.card.specs.Memory.{card_blocks, card_words, the_block, is_block}
use Rattle.card.specs.Host.{most_written, is_write}
use Rattle.recording.specs.declared.tag.Tag.{Tag}
use Rattle.recording.specs.declared.tag.Tag.TheVariants as tags
use Rattle.recording.specs.declared.field.Field.{Field}
use Rattle.recording.specs.declared.seen.Seen.{Seen}
use Rattle.recording.specs.declared.field.Field.TheVariants.{
  Setup,
  Word,
  Silence,
  ReadQueue,
  HostWrite,
  MoveTable,
  SetFlags,
}
use Rattle.recording.specs.Bytes.{byte_at, word_at}
use Rattle.recording.specs.Tag.{length_fits}
use Rattle.recording.specs.Field.{field_at, value_refusal}
use Rattle.recording.specs.Reading.{Taken, read_at}
use Rattle.recording.proofs.TagLaws.{WriteSize, write_size}
use Rattle.recording.proofs.TakenLaws.{TakenAt, taken_tells}

-- ---- what it is to be in order

pub record SetupInOrder (station table flags : ℕ) : Type 0 where
  pub station_at_most : station ≤ last_station
  pub table_on_card : table < card_blocks
  pub flags_at_most : flags ≤ all_flags

-- the words stand behind tag, length and address, and reach to the end of the field
pub record WriteInOrder (place next address first count : ℕ) : Type 0 where
  pub some : 1 ≤ count
  pub at_most : count ≤ most_written
  pub on_card : address + count ≤ card_words
  pub from_there : first ≡ place + 5
  pub to_the_end : first + 2 * count ≡ next

-- a field that stands from `place` to `next`
abbrev pub InOrder : ℕ → ℕ → Field → Type 0
InOrder place next (Setup station table flags) = SetupInOrder station table flags
InOrder place next (Word marks value time) = marks ≤ all_marks
InOrder place next (Silence line time) = line ≤ last_line
InOrder place next ReadQueue = Unit
InOrder place next (HostWrite address first count) = WriteInOrder place next address first count
InOrder place next (MoveTable table) = table < card_blocks
InOrder place next (SetFlags flags) = flags ≤ all_flags

-- ---- a field that is not refused is in order

-- what passed its test passed, and so did the tests after it
module _ (less rest : ℕ) where
  passed : (test : Bool) → cond (not test) (suc less) rest ≡ 0 → test ≡ true
  passed true is = refl
  passed false is = absurd (omega arith)

  further : (test : Bool) → cond (not test) (suc less) rest ≡ 0 → rest ≡ 0
  further true is = is
  further false is = absurd (omega arith)

-- a number that passed its test is within the limit
within : (limit value : ℕ) → ◌≡◌ {A = ℕ} (cond (not (leb value limit)) 8 0) 0 → value ≤ limit
within limit value in_order = leb-true value limit (passed 7 0 (leb value limit) in_order)

table_in_order : (table : ℕ)
    → ◌≡◌ {A = ℕ} (cond (not (is_block card_blocks (the_block table))) 3 0) 0
    → table < card_blocks
table_in_order table in_order =
    ltb-true table card_blocks (passed 2 0 (ltb table card_blocks) in_order)

setup_in_order : (station table flags : ℕ)
    → value_refusal card_blocks (Setup station table flags) ≡ 0 → SetupInOrder station table flags
setup_in_order station table flags in_order =
    let by_flags : ℕ = cond (not (are_flags flags)) 8 0 in
    let by_table : ℕ = cond (not (is_block card_blocks (the_block table))) 3 by_flags in
    let behind_station : by_table ≡ 0 = further 1 by_table (is_station station) in_order in
    let behind_table : by_flags ≡ 0 =
    further 2 by_flags (is_block card_blocks (the_block table)) behind_station in
    record {
      station_at_most =
          leb-true station last_station (passed 1 by_table (is_station station) in_order);
      table_on_card =
          ltb-true table card_blocks (passed 2 by_flags (ltb table card_blocks) behind_station);
      flags_at_most = within all_flags flags behind_table;
    }

-- the words of a host write fill the rest of its value
write_in_order : (place size address : ℕ) → WriteSize size
    → value_refusal card_blocks (HostWrite address (place + 3 + 2) ((size - 2) / 2)) ≡ 0
    → WriteInOrder place (place + 3 + size) address (place + 3 + 2) ((size - 2) / 2)
write_in_order place size address is in_order =
    let count = (size - 2) / 2 in
    let few = leb 1 count && leb count most_written in
    let on_card = leb (address + count) card_words in
    record {
      some = omega (arith, is.at_least);
      at_most = omega (arith, is.at_most);
      on_card =
          leb-true (address + count) card_words
          (second_of_both few on_card (passed 7 0 (is_write card_blocks address count) in_order));
      from_there = omega arith;
      to_the_end = omega (arith, is.at_least, is.even);
    }

module _ (bytes : List ℕ) (place size : ℕ) where
  field_in_order : (tag : Tag) → length_fits tag size ≡ true
      → value_refusal card_blocks (field_at bytes tag (place + 3) size) ≡ 0
      → InOrder place (place + 3 + size) (field_at bytes tag (place + 3) size)
  unfolding field_at
  field_in_order tags.Setup fits =
      setup_in_order (byte_at bytes (place + 3))
      (byte_at bytes (place + 3 + 1)) (byte_at bytes (place + 3 + 2))
  field_in_order tags.Word fits = within all_marks (byte_at bytes (place + 3))
  field_in_order tags.Silence fits = within last_line (byte_at bytes (place + 3))
  field_in_order tags.ReadQueue fits = λ _. tt
  field_in_order tags.HostWrite fits =
      write_in_order place size (word_at bytes (place + 3)) (write_size size fits)
  field_in_order tags.MoveTable fits = table_in_order (byte_at bytes (place + 3))
  field_in_order tags.SetFlags fits = within all_flags (byte_at bytes (place + 3))

pub taken_in_order : (bytes : List ℕ) (place : ℕ) (seen : Seen) {field : Field} {next : ℕ}
    → read_at bytes place seen ≡ Taken field next → InOrder place next field
taken_in_order bytes place seen {field} {next} is =
    let told : TakenAt bytes place seen field next = taken_tells bytes place seen is in
    let size : ℕ = word_at bytes (place + 1) in
    rw (told.is_next, told.is_field)
    (field_in_order bytes place size told.tag told.there.fits
    (rw told.is_field at told.in_order))
