-- Runs of messages: a chain that goes on by cell 63, and how one stops: by its last message, a
-- fault, a set status bit, its count, a code that the table lacks. Assumes nothing.
use mathlib.Core.Path.{◌≡◌, refl}
use mathlib.Core.Bool.{Bool, true, false}
use mathlib.Core.List.{List, [], ◌∷◌, ◌++◌, map}
use Prim.Native.Nat.{ℕ}
use lib.ListN.{replicate}
use Rattle.std.proofs.Common.{Option}
use Rattle.card.specs.Memory.{the_block}
use Rattle.terminal.specs.State.{Card}
use Rattle.controller.specs.declared.state.Came.{Came}
use Rattle.controller.specs.State.{came, desk_words, Desk, desk, at_setup}
use Rattle.rack.specs.Bus.{Rack, rack, messages}
use Rattle.rack_runs.proofs.Telling.{
  put,
  cells_from,
  memory_of,
  terminal_of,
  five,
  nine,
  clock,
  told,
}

-- ---- what is seen behind a run

-- the control word, the starts left, whether its message is due, the last result, and the cells
-- from 0 to 5 of blocks 3, 4 and 5
record Behind : Type 0 where
  control : ℕ
  left : ℕ
  due : Bool
  result : Option Came
  blocks : List (List ℕ)

abbrev behind : ℕ → ℕ → Bool → Option Came → List (List ℕ) → Behind
behind control left due result blocks =
    record { control = control; left = left; due = due; result = result; blocks = blocks }

unfoldable behind_of : Rack → Behind
behind_of new =
    behind new.desk.state.control new.desk.state.count new.desk.state.due
    new.desk.state.result
    (map (λ (block : ℕ). cells_from (the_block block) 0 6 new.desk.ram) (3 ∷ 4 ∷ 5 ∷ []))

-- eight messages at the most
abbrev run_of : Rack → Rack
run_of old = messages 8 (λ more. clock) old

-- ---- a chain of three: two words to station 5, two from station 9 on line B, two from station 5
-- to 9. Its blocks are 3, 4 and 5; cell 63 names the next one, with bit 4 to go on from there

abbrev chained : ℕ → List ℕ → ℕ → Desk
chained left first next =
    desk (at_setup 0x00D0 left)
    (put 3 0 first (put 3 63 (next ∷ [])
    (put 4 0 (0x4C62 ∷ []) (put 4 63 (0x0142 ∷ [])
    (put 5 0 (0x4862 ∷ 0x2C62 ∷ []) (replicate desk_words 12))))))

abbrev to_five : List ℕ
to_five = 0x2862 ∷ 0x1111 ∷ 0x2222 ∷ []

unfoldable pub three : ℕ → Rack
three left = rack (chained left to_five 0x0131) (five ∷ nine ∷ [])

-- all three are carried; the last does not go on
the_chain_goes_on_by_cell_63 :
    behind_of (run_of (three 7))
    ≡ behind 0x0142 4 false (came 0 false)
    ((0x2862 ∷ 0x1111 ∷ 0x2222 ∷ 0x2800 ∷ 12 ∷ 12 ∷ [])
    ∷ (0x4C62 ∷ 0x4800 ∷ 0xCCCC ∷ 0xDDDD ∷ 12 ∷ 12 ∷ [])
    ∷ (0x4862 ∷ 0x2C62 ∷ 0x2800 ∷ 0xAAAA ∷ 0xBBBB ∷ 0x4800 ∷ [])
    ∷ [])
unfolding told behind_of three
the_chain_goes_on_by_cell_63 = refl

-- station 5 receives in block 2, station 9 in block 20
the_terminals_hold_what_they_received :
    map
    (λ (terminal : Card).
    cells_from (the_block 2) 0 2 terminal.ram ++ cells_from (the_block 20) 0 2 terminal.ram)
    (run_of (three 7)).terminals
    ≡ (0x1111 ∷ 0x2222 ∷ 5 ∷ 5 ∷ []) ∷ (9 ∷ 9 ∷ 0xAAAA ∷ 0xBBBB ∷ []) ∷ []
unfolding told three
the_terminals_hold_what_they_received = refl

-- with two starts the third message stays due, and nothing has come back of it
the_count_ends_a_run :
    behind_of (run_of (three 2))
    ≡ behind 0x0142 0 true (came 0 false)
    ((0x2862 ∷ 0x1111 ∷ 0x2222 ∷ 0x2800 ∷ 12 ∷ 12 ∷ [])
    ∷ (0x4C62 ∷ 0x4800 ∷ 0xCCCC ∷ 0xDDDD ∷ 12 ∷ 12 ∷ [])
    ∷ (0x4862 ∷ 0x2C62 ∷ 12 ∷ 12 ∷ 12 ∷ 12 ∷ [])
    ∷ [])
unfolding told behind_of three
the_count_ends_a_run = refl

-- ---- the first to station 12, which is not there: code 2, and the second does not start

unfoldable to_twelve : Rack
to_twelve = rack (chained 7 (0x6062 ∷ 0x1111 ∷ 0x2222 ∷ []) 0x0131) (five ∷ nine ∷ [])

a_fault_stops_a_run :
    behind_of (run_of to_twelve)
    ≡ behind 0x00D0 6 false (came 2 false)
    ((0x6062 ∷ 0x1111 ∷ 0x2222 ∷ 12 ∷ 12 ∷ 12 ∷ [])
    ∷ (0x4C62 ∷ 12 ∷ 12 ∷ 12 ∷ 12 ∷ 12 ∷ [])
    ∷ (0x4862 ∷ 0x2C62 ∷ 12 ∷ 12 ∷ 12 ∷ 12 ∷ [])
    ∷ [])
unfolding told behind_of to_twelve
a_fault_stops_a_run = refl

-- ---- station 5 requests service, flag 2: code 0 with the mark, and the second does not start

unfoldable requesting_five : Card
requesting_five = terminal_of 5 1 4 (memory_of 5 1 2 [])

unfoldable requested : Rack
requested = rack (chained 7 to_five 0x0131) (requesting_five ∷ nine ∷ [])

a_set_status_bit_stops_a_run :
    behind_of (run_of requested)
    ≡ behind 0x00D0 6 false (came 0 true)
    ((0x2862 ∷ 0x1111 ∷ 0x2222 ∷ 0x2900 ∷ 12 ∷ 12 ∷ [])
    ∷ (0x4C62 ∷ 12 ∷ 12 ∷ 12 ∷ 12 ∷ 12 ∷ [])
    ∷ (0x4862 ∷ 0x2C62 ∷ 12 ∷ 12 ∷ 12 ∷ 12 ∷ [])
    ∷ [])
unfolding told behind_of requested requesting_five
a_set_status_bit_stops_a_run = refl

-- ---- cell 63 names code 6, which the table lacks: nothing before it is undone

unfoldable to_lacking : Rack
to_lacking = rack (chained 7 to_five 0x0116) (five ∷ nine ∷ [])

a_lacking_code_ends_a_run :
    behind_of (run_of to_lacking)
    ≡ behind 0x0116 6 true (came 0 false)
    ((0x2862 ∷ 0x1111 ∷ 0x2222 ∷ 0x2800 ∷ 12 ∷ 12 ∷ [])
    ∷ (0x4C62 ∷ 12 ∷ 12 ∷ 12 ∷ 12 ∷ 12 ∷ [])
    ∷ (0x4862 ∷ 0x2C62 ∷ 12 ∷ 12 ∷ 12 ∷ 12 ∷ [])
    ∷ [])
unfolding told behind_of to_lacking
a_lacking_code_ends_a_run = refl

-- ---- cell 63 names the same control word, so that the count alone ends the run

-- block 2 of station 5 links to itself, and each message joins the queue
unfoldable looping_five : Card
looping_five =
    terminal_of 5 1 0 (put 1 3 (0x4002 ∷ []) (put 2 63 (0x4002 ∷ []) (memory_of 5 1 2 [])))

unfoldable looping : Rack
looping = rack (chained 5 to_five 0x00D0) (looping_five ∷ [])

a_loop_is_ended_by_its_count :
    behind_of (run_of looping)
    ≡ behind 0x00D0 0 true (came 0 false)
    ((0x2862 ∷ 0x1111 ∷ 0x2222 ∷ 0x2800 ∷ 12 ∷ 12 ∷ [])
    ∷ (0x4C62 ∷ 12 ∷ 12 ∷ 12 ∷ 12 ∷ 12 ∷ [])
    ∷ (0x4862 ∷ 0x2C62 ∷ 12 ∷ 12 ∷ 12 ∷ 12 ∷ [])
    ∷ [])
unfolding told behind_of looping looping_five
a_loop_is_ended_by_its_count = refl

five_messages_have_joined_the_queue :
    map (λ (terminal : Card). terminal.queue.ring.count) (run_of looping).terminals ≡ 5 ∷ []
unfolding told looping looping_five
five_messages_have_joined_the_queue = refl
