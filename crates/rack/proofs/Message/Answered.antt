-- The answer on the bus: of the terminals one took a command and replies; what it says, and that
-- the controller holds it behind the words given. Assumes nothing.
use Rattle.std.proofs.Common.{None}
use mathlib.Core.Path.{◌≡◌, ap, subst, ◌∙◌}
use mathlib.Core.Bool.{Bool, false, ◌||◌}
use mathlib.Core.List.{List, [], ◌∷◌}
use Prim.Native.Nat.{ℕ, suc, ◌+◌, ◌≤◌, ◌<◌}
use native.Mathlib.Omega.{arith}
use lib.ListN.{length, get_or}
use Rattle.bus.specs.Limits.{last_station}
use Rattle.bus.specs.Command.{address_of, is_broadcast}
use Rattle.card.specs.declared.place.Block.{Block}
use Rattle.card.specs.Memory.{block_cells, the_cell, word_address, cell_at, with_cells}
use Rattle.card.proofs.CellLaws.{cell_of_with_cells}
use Rattle.message.specs.Asked.{asked_of}
use Rattle.terminal.specs.State.{Card}
use Rattle.terminal.specs.Event.{Outcome}
use Rattle.exchange.specs.declared.order.Order.{Order}
use Rattle.exchange.specs.declared.state.Stage.TheVariants.{Reply}
use Rattle.exchange.specs.Order.{format_for}
use Rattle.exchange.specs.Judge.{exchange_of, is_marked}
use Rattle.controller.specs.Control.{block_in}
use Rattle.controller.specs.State.{Desk}
use Rattle.controller.specs.Heard.{ended}
use Rattle.rack.specs.Segment.{segment, Spoken, Said}
use Rattle.rack.specs.Hearing.{Stamps, turn_of}
use Rattle.rack.specs.Bus.{with_reply, placed, replies_to}
use Rattle.rack.specs.Terminals.{Each}
use Rattle.rack.specs.Asked.{IsIdle, opened_for}
use Rattle.rack.proofs.Terminal.Took.{Took, sent_by}
use Rattle.rack.proofs.Terminal.Own.{idle_station}
use Rattle.rack.proofs.Desk.Starting.{open_desk}
use Rattle.rack.proofs.Desk.Words.{back_at}
use Rattle.rack.proofs.Lists.Speaker.{Speaker}

module _ (line : Bool) (stamps : Stamps) (spoken : Spoken) where
  abbrev after : Card → Outcome
  after terminal = turn_of line stamps spoken terminal

  -- the terminal of the command's address says its status, and the cells of its block as they are
  -- then; no other terminal has that address
  pub record Answered (command : ℕ) (terminals : List Card) : Type 0 where
    pub speaker : Card
    pub status : ℕ
    pub reply : List ℕ
    pub heard : replies_to line stamps spoken terminals
        ≡ Said (address_of command) (segment status None reply) ∷ []
    pub home : address_of status ≡ address_of command
    pub low : address_of command ≤ last_station
    pub long : length reply ≡ (asked_of command).sends
    pub shows : (cell : ℕ) → cell < (asked_of command).sends
        → get_or reply cell 0
        ≡ cell_at (after speaker).card.ram (opened_for command speaker).block (the_cell cell)
    pub only : Each (λ terminal. terminal.core.station ≡ address_of command
        → terminal ≡ speaker) terminals

  -- idle, and the command taken where it is to that station
  abbrev pub TookAtHome : ℕ → List ℕ → Card → Type 0
  TookAtHome command words terminal =
      IsIdle terminal
      × (terminal.core.station ≡ address_of command → Took command words terminal (after terminal))

  pub answer_of : (command : ℕ) (words : List ℕ) {terminals : List Card}
      → is_broadcast command ≡ false
      → Speaker line stamps spoken (TookAtHome command words) (address_of command) terminals
      → Answered command terminals
  unfolding placed
  answer_of command words to_one found =
      let speaker : Card = found.speaker in
      let took : Took command words speaker (after speaker) = found.holds.1 found.is in
      let status : ℕ = (after speaker).card.core.status in
      let reply : List ℕ = sent_by command speaker (after speaker).card in
      record {
        speaker = speaker;
        status = status;
        reply = reply;
        heard = found.heard
            ∙ ap (λ (any : Spoken). with_reply any []) (took.said to_one)
            ∙ ap (λ (station : ℕ). Said station (segment status None reply) ∷ []) found.is;
        home = took.idle.status ∙ took.station ∙ found.is;
        low =
            subst (λ (station : ℕ). station ≤ last_station) found.is
            (idle_station speaker found.holds.0);
        long = took.sent_long;
        shows = took.sent;
        only = found.only;
      }

-- ---- at the controller

-- the controller's memory with a reply, and the controller when that has ended its message
abbrev pub with_answer : Order → Desk → ℕ → List ℕ → List ℕ
with_answer order old status reply =
    with_cells old.ram (block_in old.state.control) (format_for order).given (status ∷ reply)

abbrev pub answered_desk : Order → Desk → ℕ → List ℕ → Desk
answered_desk order old status reply =
    let marked : Bool = false || is_marked status in
    (ended 0 marked
    (back_at (open_desk order old) order (exchange_of Reply (length reply) marked)
    (with_answer order old status reply))
    ).desk

-- the controller holds the words of an answer one cell behind its status
pub answer_held : (ram : List ℕ) (block : Block) (cell status : ℕ) (reply : List ℕ) (place : ℕ)
    → place < length reply → cell + 1 + length reply ≤ block_cells
    → word_address block (the_cell block_cells) ≤ length ram
    → cell_at (with_cells ram block cell (status ∷ reply)) block (the_cell (cell + 1 + place))
    ≡ get_or reply place 0
answer_held ram block cell status reply place inside few in_memory =
    let next : cell + 1 + place ≡ cell + suc place = omega arith in
    ap (λ (any : ℕ). cell_at (with_cells ram block cell (status ∷ reply)) block (the_cell any)) next
    ∙ cell_of_with_cells (status ∷ reply) ram block cell (suc place) (omega arith) (omega arith)
    (omega arith)
