-- What worked racks are told with: two terminals with other tables and other memories, a controller
-- with its words, stamps. Assumes nothing.
use mathlib.Core.List.{List, [], ◌∷◌}
use Prim.Native.Nat.{ℕ, ◌+◌, ◌-◌, ◌*◌}
use lib.ListN.{replicate, take, drop}
use lib.Seq.{sets}
use Rattle.card.specs.declared.place.Block.{Block}
use Rattle.card.specs.Memory.{card_words, the_block, the_cell, word_address}
use Rattle.queue.specs.Queue.{empty_queue}
use Rattle.terminal.specs.State.{Card, card, core_at_setup}
use Rattle.controller.specs.State.{desk_words, Desk, desk, at_setup}
use Rattle.rack.specs.Hearing.{Stamps}
use Rattle.rack.specs.Bus.{Rack, rack}
use Rattle.rack_runs.proofs.Machine.{machine}

-- memory with words from a block's cell on, and so many words from there
abbrev pub put : ℕ → ℕ → List ℕ → List ℕ → List ℕ
put block cell words ram = sets ram (word_address (the_block block) (the_cell cell)) words

abbrev pub cells_from : Block → ℕ → ℕ → List ℕ → List ℕ
cells_from block cell count ram = take count (drop (word_address block (the_cell cell)) ram)

-- ---- the terminals

-- filled with one word, a table in a block: receive by subaddress 3, mode codes, vector word and
-- transmit by subaddress 3 go by four blocks one after the other; the last two hold words to send
abbrev pub memory_of : ℕ → ℕ → ℕ → List ℕ → List ℕ
memory_of filling table first words =
    put table 3 (first ∷ [])
    (put table 31 ((first + 1) ∷ (first + 2) ∷ [])
    (put table 35 ((first + 3) ∷ [])
    (put (first + 2) 0 words (put (first + 3) 0 words (replicate card_words filling)))))

abbrev pub terminal_of : ℕ → ℕ → ℕ → List ℕ → Card
terminal_of station table flags ram =
    card (core_at_setup station (the_block table) flags) empty_queue ram

-- the table is block 1; blocks 2 to 5
unfoldable pub five : Card
five = terminal_of 5 1 1 (memory_of 5 1 2 (0xAAAA ∷ 0xBBBB ∷ []))

-- the table is block 7; blocks 20 to 23
unfoldable pub nine : Card
nine = terminal_of 9 7 1 (memory_of 9 7 20 (0xCCCC ∷ 0xDDDD ∷ []))

-- ---- the controller: its message is in block 3, on line A, and does not go on

abbrev pub desk_of : ℕ → List ℕ → Desk
desk_of code words = desk (at_setup (192 + code) 1) (put 3 0 words (replicate desk_words 12))

unfoldable pub two_stations : ℕ → List ℕ → Rack
two_stations code words = rack (desk_of code words) (five ∷ nine ∷ [])

-- ---- stamps: those of a later turn are higher

abbrev pub clock : ℕ → Stamps
clock more =
    record { word = λ place. 1000 - 100 * more + place; silence = 1000 - 100 * more + 90 }

-- ---- to unfold `told` is to unfold the machine and what tells its racks

unfoldable pub told : ℕ
unfolding machine five nine two_stations
told = 0
