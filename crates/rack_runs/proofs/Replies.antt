-- What the bus makes of commands that do not fit: where one silence brings two replies they go out
-- by rising station, each with its own silence, and a reply behind the controller's end is carried
-- too. The terminals stand in the list by falling station. Assumes nothing.
use mathlib.Core.Path.{◌≡◌, refl}
use mathlib.Core.Bool.{true, false}
use mathlib.Core.List.{List, [], ◌∷◌, map}
use Prim.Native.Nat.{ℕ}
use Rattle.std.proofs.Common.{Option}
use Rattle.card.specs.Memory.{the_block}
use Rattle.queue.specs.Queue.{empty_queue}
use Rattle.terminal.specs.State.{Card, card, with_status, core_at_setup}
use Rattle.controller.specs.State.{came}
use Rattle.controller.specs.declared.state.Came.{Came}
use Rattle.rack.specs.Bus.{Rack, rack, message}
use Rattle.rack_runs.proofs.Telling.{
  cells_from,
  memory_of,
  five,
  nine,
  desk_of,
  clock,
  told,
}

-- the result of a message, the controller's cells from 0 to 6, the last command of each terminal
record Outcome : Type 0 where
  result : Option Came
  cells : List ℕ
  lasts : List ℕ

abbrev outcome : Option Came → List ℕ → List ℕ → Outcome
outcome result cells lasts = record { result = result; cells = cells; lasts = lasts }

unfoldable outcome_of : Rack → Outcome
outcome_of new =
    outcome new.desk.state.result (cells_from (the_block 3) 0 7 new.desk.ram)
    (map (λ (terminal : Card). terminal.core.last) new.terminals)

-- ---- two replies to one silence: reserved mode code 9 to station 9, and two words from station 5

abbrev both_reply : List Card → Rack
both_reply terminals = message clock (rack (desk_of 2 (0x4C09 ∷ 0x2C62 ∷ [])) terminals)

-- station 5 comes first, then station 9 with its message error; in another order, or without a
-- silence between them, the code would be 5 or 3
two_replies_go_out_by_rising_station :
    outcome_of (both_reply (nine ∷ five ∷ []))
    ≡ outcome (came 0 true)
    (0x4C09 ∷ 0x2C62 ∷ 0x2800 ∷ 0xAAAA ∷ 0xBBBB ∷ 0x4C00 ∷ 12 ∷ []) (0x4C09 ∷ 0x2C62 ∷ [])
unfolding told outcome_of
two_replies_go_out_by_rising_station = refl

the_order_of_the_list_is_of_no_account :
    outcome_of (both_reply (five ∷ nine ∷ []))
    ≡ outcome (came 0 true)
    (0x4C09 ∷ 0x2C62 ∷ 0x2800 ∷ 0xAAAA ∷ 0xBBBB ∷ 0x4C00 ∷ 12 ∷ []) (0x2C62 ∷ 0x4C09 ∷ [])
unfolding told outcome_of
the_order_of_the_list_is_of_no_account = refl

-- ---- a reply behind the controller's end: reserved mode code 9 to station 5, and "transmit status
-- word" to station 9, which remembers a strange status: it reads as "synchronize" to station 5

unfoldable strange_nine : Card
strange_nine =
    card (with_status 0x2C01 (core_at_setup 9 (the_block 7) 0)) empty_queue (memory_of 9 7 20 [])

abbrev behind_the_end : Rack
behind_the_end =
    message clock (rack (desk_of 2 (0x2C09 ∷ 0x4C02 ∷ [])) (strange_nine ∷ five ∷ []))

-- the reply of station 5 ends it, since the status of station 9 was due; then that of station 9
-- goes out, and is the last command of station 5
a_reply_behind_the_end_is_carried :
    outcome_of behind_the_end
    ≡ outcome (came 5 false) (0x2C09 ∷ 0x4C02 ∷ 12 ∷ 12 ∷ 12 ∷ 12 ∷ 12 ∷ [])
    (0x4C02 ∷ 0x2C01 ∷ [])
unfolding told strange_nine outcome_of
a_reply_behind_the_end_is_carried = refl

-- its own silence, the third, closes it: cells 58 to 61 of block 3 at station 5
it_has_its_own_silence :
    map (λ (terminal : Card). cells_from (the_block 3) 58 4 terminal.ram) behind_the_end.terminals
    ≡ (9 ∷ 9 ∷ 9 ∷ 9 ∷ []) ∷ (0 ∷ 0 ∷ 590 ∷ 90 ∷ []) ∷ []
unfolding told strange_nine outcome_of
it_has_its_own_silence = refl

-- ---- X where the commands are to one station: the controller does not wait for the last status

x_too_much_ends_with_code_0 :
    outcome_of (message clock (rack (desk_of 8 (0x2862 ∷ 0x1111 ∷ 0x2222 ∷ [])) (nine ∷ five ∷ [])))
    ≡ outcome (came 0 false) (0x2862 ∷ 0x1111 ∷ 0x2222 ∷ 12 ∷ 12 ∷ 12 ∷ 12 ∷ [])
    (0 ∷ 0x2862 ∷ [])
unfolding told outcome_of
x_too_much_ends_with_code_0 = refl

x_too_much_between_two_ends_with_code_0 :
    outcome_of (message clock (rack (desk_of 10 (0x2862 ∷ 0x4C62 ∷ [])) (nine ∷ five ∷ [])))
    ≡ outcome (came 0 false) (0x2862 ∷ 0x4C62 ∷ 0x4800 ∷ 0xCCCC ∷ 0xDDDD ∷ 12 ∷ 12 ∷ [])
    (0x4C62 ∷ 0x2862 ∷ [])
unfolding told outcome_of
x_too_much_between_two_ends_with_code_0 = refl
