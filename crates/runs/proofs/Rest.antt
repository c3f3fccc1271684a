-- A card that is whole and fit, and one at rest, at work on document 01's tray run: it stays so,
-- and its blocks lie in its memory. And each claim with less asked, false by a card that the
-- checker computes. Assumes nothing.
use Rattle.std.proofs.Common.{None, Some}
use mathlib.Core.Path.{◌≡◌, refl}
use mathlib.Core.Bool.{Bool, true, false}
use mathlib.Core.List.{[], ◌∷◌}
use Prim.Native.Nat.{ℕ, ◌≤◌, ◌<◌}
use native.Mathlib.Omega.{arith}
use lib.ListN.{length, replicate}
use Rattle.rules.proofs.Clash.{clash}
use Rattle.bus.specs.declared.word.Word.{Word}
use Rattle.bus.specs.Word.{word_of}
use Rattle.card.specs.Memory.{block_cells, card_words, the_block, the_cell, word_address}
use Rattle.queue.specs.Queue.{empty_queue}
use Rattle.message.specs.declared.state.OpenMessage.{OpenMessage}
use Rattle.terminal.specs.State.{Card, card, with_message, core_at_setup}
use Rattle.terminal.specs.Opening.{opened_as}
use Rattle.terminal.specs.Event.{Event, read_queue, move_table, none}
use Rattle.terminal.specs.Machine.{step}
use Rattle.terminal.specs.Fitness.{fit_card}
use Rattle.terminal_laws.specs.Written.{table_address}
use Rattle.terminal_laws.specs.AtRest.{WholeAndFit, AtRest}
use Rattle.terminal_laws.proofs.FitLaws.{FitEvent}
use Rattle.terminal_laws.proofs.RestLaws.{
  rest_stays,
  block_in_memory,
  table_cell_in_memory,
  opened_block_in_memory,
}
use Rattle.runs.proofs.Telling.{runs, put, receive, word1, at_setup, card_after}
use Rattle.runs.proofs.FourBlocks.{small, received_by, received_in, received}

-- ---- at rest

after_setup : AtRest at_setup
unfolding runs
after_setup =
    record {
      whole_and_fit = record { whole_memory = refl; fit = refl };
      idle = refl;
    }

-- a data word of another's message
a_word_leaves_it_at_rest : AtRest (step word1 at_setup).card
unfolding runs FitEvent
a_word_leaves_it_at_rest = rest_stays word1 at_setup tt refl after_setup

-- by what is asked
abbrev Rests : (Event → Card → Type 0) → Type 0
Rests Asked = (event : Event) (old : Card) → Asked event old → AtRest (step event old).card

-- whatever block the host makes the table
record AnyTable (event : Event) (old : Card) : Type 0 where
  opens_nothing : (step event old).opened ≡ none
  rest : AtRest old

block_256_as_the_table_would_be_unfit : Rests AnyTable → ⊥
unfolding runs
block_256_as_the_table_would_be_unfit claim =
    let fit : ◌≡◌ {A = Bool} false true =
    (claim (move_table (the_block 256)) at_setup
    (record { opens_nothing = refl; rest = after_setup })).whole_and_fit.fit in
    clash (cc)

-- whether or not the event opens a message
record AnyEvent (event : Event) (old : Card) : Type 0 where
  in_order : FitEvent event
  rest : AtRest old

a_command_would_leave_a_message_open : Rests AnyEvent → ⊥
unfolding runs FitEvent
a_command_would_leave_a_message_open claim =
    let idle = (claim receive at_setup (record { in_order = tt; rest = after_setup })).idle in
    clash (cc)

-- whether or not a message is open
record AnyMessage (event : Event) (old : Card) : Type 0 where
  in_order : FitEvent event
  opens_nothing : (step event old).opened ≡ none
  whole_and_fit : WholeAndFit old

an_open_message_would_stay_open : Rests AnyMessage → ⊥
unfolding runs FitEvent
an_open_message_would_stay_open claim =
    let idle =
    (claim read_queue (card_after (receive ∷ []))
    (record {
      in_order = tt;
      opens_nothing = refl;
      whole_and_fit = record { whole_memory = refl; fit = refl };
    })).idle in
    clash (cc)

-- whatever the length of the memory
record AnyMemory (event : Event) (old : Card) : Type 0 where
  in_order : FitEvent event
  opens_nothing : (step event old).opened ≡ none
  fit : fit_card old ≡ true
  idle : old.core.message ≡ None

four_blocks_would_not_be_whole : Rests AnyMemory → ⊥
unfolding runs small FitEvent
four_blocks_would_not_be_whole claim =
    let whole : ◌≡◌ {A = ℕ} 256 card_words =
    (claim read_queue (small 256 [])
    (record { in_order = tt; opens_nothing = refl; fit = refl; idle = refl })
    ).whole_and_fit.whole_memory in
    omega arith

-- fit or not
record AnyState (event : Event) (old : Card) : Type 0 where
  in_order : FitEvent event
  opens_nothing : (step event old).opened ≡ none
  whole_memory : length old.ram ≡ card_words
  idle : old.core.message ≡ None

station_31_would_stay_unfit : Rests AnyState → ⊥
unfolding runs FitEvent
station_31_would_stay_unfit claim =
    let fit : ◌≡◌ {A = Bool} false true =
    (claim read_queue
    (card (core_at_setup 31 (the_block 1) 0) empty_queue (replicate card_words 0))
    (record { in_order = tt; opens_nothing = refl; whole_memory = refl; idle = refl })
    ).whole_and_fit.fit in
    clash (cc)

-- ---- blocks in memory

-- the receive command is open in block 2, by cell 3 of the table
receiving : WholeAndFit (card_after (receive ∷ []))
unfolding runs
receiving = record { whole_memory = refl; fit = refl }

block_2_lies_in_memory :
    word_address (the_block 2) (the_cell block_cells) ≤ length (card_after (receive ∷ [])).ram
unfolding runs
block_2_lies_in_memory =
    block_in_memory (card_after (receive ∷ [])) receiving (received false 0) refl

table_cell_3_lies_in_memory :
    word_address (the_block 1) (the_cell 3) < length (card_after (receive ∷ [])).ram
unfolding runs
table_cell_3_lies_in_memory =
    table_cell_in_memory (card_after (receive ∷ [])) receiving (received false 0) refl

-- by what is asked
abbrev Inside : (Card → OpenMessage → Type 0) → Type 0
Inside Asked =
    (old : Card) (message : OpenMessage) → Asked old message
    → word_address message.block (the_cell block_cells) ≤ length old.ram

abbrev TableInside : (Card → OpenMessage → Type 0) → Type 0
TableInside Asked =
    (old : Card) (message : OpenMessage) → Asked old message
    → table_address message < length old.ram

-- station 5, table block 1, a memory of so many zeros; a message is open
unfoldable opened : ℕ → OpenMessage → Card
opened words message =
    card (with_message (Some message) (core_at_setup 5 (the_block 1) 0)) empty_queue
    (replicate words 0)

-- whatever the length of the memory
record OverAny (old : Card) (message : OpenMessage) : Type 0 where
  fit : fit_card old ≡ true
  is_open : old.core.message ≡ Some message

two_blocks_would_lack_block_2 : Inside OverAny → ⊥
unfolding runs opened
two_blocks_would_lack_block_2 claim =
    let inside : 192 ≤ 128 =
    claim (opened 128 (received false 0)) (received false 0)
    (record { fit = refl; is_open = refl }) in
    omega arith

one_block_would_lack_the_table : TableInside OverAny → ⊥
unfolding runs opened
one_block_would_lack_the_table claim =
    let inside : 67 < 64 =
    claim (opened 64 (received false 0)) (received false 0)
    (record { fit = refl; is_open = refl }) in
    omega arith

-- fit or not
record InAny (old : Card) (message : OpenMessage) : Type 0 where
  whole_memory : length old.ram ≡ card_words
  is_open : old.core.message ≡ Some message

block_256_would_lie_behind_memory : Inside InAny → ⊥
unfolding runs opened
block_256_would_lie_behind_memory claim =
    let inside : 16448 ≤ 16384 =
    claim (opened 16384 (received_in 256 false 0)) (received_in 256 false 0)
    (record { whole_memory = refl; is_open = refl }) in
    omega arith

table_block_256_would_lie_behind_memory : TableInside InAny → ⊥
unfolding runs opened
table_block_256_would_lie_behind_memory claim =
    let inside : 16387 < 16384 =
    claim (opened 16384 (received_by 256 2 false 0)) (received_by 256 2 false 0)
    (record { whole_memory = refl; is_open = refl }) in
    omega arith

-- open or not
record OfAny (old : Card) (message : OpenMessage) : Type 0 where
  whole_and_fit : WholeAndFit old

a_message_that_is_not_open_may_lie_anywhere : Inside OfAny → ⊥
unfolding runs
a_message_that_is_not_open_may_lie_anywhere claim =
    let inside : 16448 ≤ 16384 =
    claim at_setup (received_in 256 false 0)
    (record { whole_and_fit = after_setup.whole_and_fit }) in
    omega arith

its_table_cell_may_too : TableInside OfAny → ⊥
unfolding runs
its_table_cell_may_too claim =
    let inside : 16387 < 16384 =
    claim at_setup (received_by 256 2 false 0)
    (record { whole_and_fit = after_setup.whole_and_fit }) in
    omega arith

-- ---- the block of a message that a word opens

abbrev command : Word
command = word_of 6 0x2862 0x28

block_2_is_opened_in_memory :
    word_address (opened_as command (card_after []).core (card_after []).ram).block
    (the_cell block_cells)
    ≤ length (card_after []).ram
unfolding runs
block_2_is_opened_in_memory =
    opened_block_in_memory (card_after []) (record { whole_memory = refl; fit = refl }) command

-- over two blocks table cell 3 names block 2
two_blocks_would_not_do :
    ((old : Card) (heard : Word)
    → word_address (opened_as heard old.core old.ram).block (the_cell block_cells)
    ≤ length old.ram)
    → ⊥
unfolding runs small
two_blocks_would_not_do claim =
    let inside : 192 ≤ 128 = claim (small 128 (put 1 3 0x4002 ∷ [])) command in
    omega arith
