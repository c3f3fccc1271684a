-- The words that a start gives, cell by cell: the commands, and behind them the data of the block.
-- Assumes nothing.
use mathlib.Core.Path.{◌≡◌, refl, ap, ◌∙◌}
use mathlib.Core.Bool.{Bool}
use mathlib.Core.List.{List}
use Prim.Native.Nat.{ℕ, ◌+◌, ◌-◌, ◌≤◌, ◌<◌}
use native.Mathlib.Omega.{arith}
use lib.ListN.{length, get_or, take, drop, length-drop}
use lib.Seq.{length-take-le, get_or-drop}
use borrow.Author.Tests.{eq-eqb, le-leb, lt-ltb}
use Rattle.bus.specs.Command.{words_of}
use Rattle.card.specs.declared.place.Block.{Block}
use Rattle.card.specs.Memory.{block_cells, words_in, the_cell, word_address, cell_at}
use Rattle.card.specs.Part.{part_refusal, shown_part}
use Rattle.card.proofs.CellLaws.{cell_of_part}
use Rattle.formats.specs.declared.row.Row.{Row}
use Rattle.formats.specs.declared.row.Row.TheVariants.{
  ToTerminal,
  FromTerminal,
  Between,
  ModeAlone,
  ModeWithWord,
  ModeForWord,
}
use Rattle.formats.specs.Row.{format_of}
use Rattle.exchange.specs.declared.order.Order.{Order}
use Rattle.exchange.specs.Order.{asking_in, format_for}
use Rattle.exchange.proofs.OrderLaws.{given_at_most}
use Rattle.controller.specs.Control.{block_in}
use Rattle.controller.specs.State.{Desk, desk_blocks}
use Rattle.controller.specs.Given.{most_given, given_part}
use Rattle.rack.specs.Segment.{Segment, segment}
use Rattle.rack.specs.Bus.{second_given, segment_of}
use Rattle.rack.proofs.Desk.Starting.{Starts, desk_block_in_memory}

-- ---- by the row

-- a command is given, and the data are among the words given
command_given : (row : Row) (broadcast : Bool) (n : ℕ)
    → 1 + (format_of row broadcast n).behind ≤ (format_of row broadcast n).given
unfolding format_of
command_given ToTerminal broadcast n = omega arith
command_given FromTerminal broadcast n = omega arith
command_given Between broadcast n = omega arith
command_given ModeAlone broadcast n = omega arith
command_given ModeWithWord broadcast n = omega arith
command_given ModeForWord broadcast n = omega arith

-- where the second word is a command, it is that of cell 1
second_is_given : (ram : List ℕ) (block : Block) (row : Row) (broadcast : Bool) (n : ℕ)
    → second_given row (get_or (take (format_of row broadcast n).given
    (drop (word_address block (the_cell 0)) ram)) 1 0)
    ≡ second_given row (cell_at ram block (the_cell 1))
unfolding format_of
second_is_given ram block ToTerminal broadcast n = refl
second_is_given ram block FromTerminal broadcast n = refl
second_is_given ram block Between broadcast n =
    ap (λ (value : ℕ). second_given Between value) (cell_of_part ram block 2 1 (omega arith))
second_is_given ram block ModeAlone broadcast n = refl
second_is_given ram block ModeWithWord broadcast n = refl
second_is_given ram block ModeForWord broadcast n = refl

-- ---- of a start

-- all words, and the data words behind the commands
abbrev words_given : Order → Desk → List ℕ
words_given order old =
    take (format_for order).given
    (drop (word_address (block_in old.state.control) (the_cell 0)) old.ram)

abbrev pub data_given : Order → Desk → List ℕ
data_given order old =
    drop ((format_for order).given - (format_for order).behind) (words_given order old)

-- both, as a segment
abbrev pub given_segment : Order → Desk → Segment
given_segment order old =
    segment order.first (second_given order.row order.second) (data_given order old)

module _ (order : Order) (old : Desk) (starts : Starts order old) where
  abbrev block : Block
  block = block_in old.state.control

  abbrev given : ℕ
  given = (format_for order).given

  abbrev behind : ℕ
  behind = (format_for order).behind

  abbrev part : List ℕ
  part = words_given order old

  some_given : 1 + behind ≤ given
  unfolding format_for
  some_given = command_given order.row order.broadcast (words_of (asking_in order))

  part_is_long : length part ≡ given
  part_is_long =
      length-take-le given (drop (word_address block (the_cell 0)) old.ram)
      (rw (length-drop (word_address block (the_cell 0)) old.ram)
      (omega (arith, given_at_most order, desk_block_in_memory old starts)))

  -- the part is not refused
  part_is_shown : given_part old.ram block given ≡ part
  unfolding shown_part part_refusal
  part_is_shown =
      rw (
        eq-eqb (length old.ram) (words_in desk_blocks) starts.whole,
        lt-ltb block.0 desk_blocks (omega arith),
        le-leb 1 given (omega (arith, some_given)),
        le-leb given most_given (given_at_most order),
        le-leb given block_cells (omega (arith, given_at_most order)),
      )

  pub segment_given : segment_of order (given_part old.ram block given)
      ≡ given_segment order old
  unfolding segment_of format_for
  segment_given =
      rw (
        part_is_shown,
        cell_of_part old.ram block given 0 (omega (arith, some_given)),
        second_is_given old.ram block order.row order.broadcast
            (words_of (asking_in order)),
        starts.first,
        starts.second,
      )

  pub data_given_long : length (data_given order old) ≡ behind
  data_given_long =
      rw (length-drop (given - behind) part, part_is_long) (omega (arith, some_given))

  pub data_given_cell : (place : ℕ) → place < behind
      → get_or (data_given order old) place 0
      ≡ cell_at old.ram block (the_cell (given - behind + place))
  data_given_cell place below =
      get_or-drop (given - behind) part place 0
      ∙ cell_of_part old.ram block given (given - behind + place) (omega (arith, some_given))
