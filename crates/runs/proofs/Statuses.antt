-- The remembered status has its station's address, at work on document 01's tray run; with less
-- asked it is false. Assumes nothing.
use mathlib.Core.Path.{◌≡◌, refl}
use mathlib.Core.Bool.{true, false}
use mathlib.Core.List.{[], ◌∷◌}
use Prim.Native.Nat.{ℕ, ◌<◌}
use native.Mathlib.Omega.{arith}
use lib.ListN.{replicate}
use Rattle.bus.specs.declared.status.Status.{Status}
use Rattle.bus.specs.Command.{address_of}
use Rattle.bus.specs.Status.{status_word, caught_status}
use Rattle.bus.proofs.StatusLaws.{status_address}
use Rattle.card.specs.declared.place.Block.{Block}
use Rattle.card.specs.Memory.{the_block}
use Rattle.queue.specs.Queue.{empty_queue}
use Rattle.terminal.specs.State.{Card, card, with_status, core_at_setup}
use Rattle.terminal.specs.Event.{Event, read_queue}
use Rattle.terminal.specs.Machine.{step, run}
use Rattle.terminal_laws.specs.OwnStatus.{OwnStatus}
use Rattle.terminal_laws.proofs.StatusLaws.{own_at_setup, own_status_run}
use Rattle.runs.proofs.Telling.{runs, command_a, receive, word1, quiet, at_setup}

-- ---- a status word

-- station 5, every flag, broadcast
all_bits_of_station_5 : address_of (status_word (caught_status 5 false 0xF862 62 true false)) ≡ 5
unfolding caught_status
all_bits_of_station_5 = status_address (caught_status 5 false 0xF862 62 true false) (omega arith)

-- five bits do not hold 37: its address is 5
station_37_would_differ : ((status : Status) → address_of (status_word status) ≡ status.station) → ⊥
unfolding status_word caught_status
station_37_would_differ claim =
    let differs : ◌≡◌ {A = ℕ} 5 37 = claim (caught_status 37 false 0xF862 0 false false) in
    omega arith

-- ---- through a run

-- a receive message breaks off, and its status is asked for
the_run_keeps_the_address :
    OwnStatus (run (receive ∷ word1 ∷ quiet ∷ command_a 0x2C02 0x70 ∷ []) at_setup).core
unfolding runs
the_run_keeps_the_address =
    own_status_run at_setup (omega arith) (own_at_setup 5 (the_block 1) 0 (omega arith))
    (receive ∷ word1 ∷ quiet ∷ command_a 0x2C02 0x70 ∷ [])

-- setup gives station 37 the status of station 5
station_37_has_none_at_setup :
    ((station : ℕ) (table : Block) (flags : ℕ) → OwnStatus (core_at_setup station table flags)) → ⊥
unfolding runs
station_37_has_none_at_setup claim =
    let differs : ◌≡◌ {A = ℕ} 5 37 = claim 37 (the_block 1) 0 in
    omega arith

-- by what is asked of the card
abbrev Keeps : (Card → Type 0) → Type 0
Keeps Asked = (old : Card) → Asked old → (event : Event) → OwnStatus (step event old).card.core

-- whatever status is remembered
a_strange_status_would_stay : Keeps (λ old. old.core.station < 32) → ⊥
unfolding runs
a_strange_status_would_stay claim =
    let differs : ◌≡◌ {A = ℕ} 6 5 =
    claim
    (card (with_status 0x3000 (core_at_setup 5 (the_block 1) 0)) empty_queue (replicate 256 0))
    (omega arith) read_queue in
    omega arith

-- whatever the station: a broadcast makes the status anew, with 5 for 37
station_37_would_lose_its_address : Keeps (λ old. OwnStatus old.core) → ⊥
unfolding runs
station_37_would_lose_its_address claim =
    let differs : ◌≡◌ {A = ℕ} 5 37 =
    claim
    (card (with_status 75776 (core_at_setup 37 (the_block 1) 1)) empty_queue (replicate 256 0))
    refl (command_a 0xF862 0x28) in
    omega arith
