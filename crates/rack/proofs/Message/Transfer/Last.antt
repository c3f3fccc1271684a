-- The receiver's reply: behind the words of a transfer without X the terminal of the first command
-- says its status, and no other terminal says anything. Assumes nothing.
use Rattle.std.proofs.Common.{None}
use mathlib.Core.Path.{◌≡◌, ap, sym, subst, ◌∙◌}
use mathlib.Core.Bool.{Bool, true, false}
use mathlib.Core.List.{List, [], ◌∷◌}
use Prim.Native.Nat.{ℕ, ◌≤◌}
use native.Mathlib.Omega.{arith}
use lib.ListN.{drop_of_length-le}
use Rattle.bus.specs.Limits.{last_station}
use Rattle.bus.specs.Command.{address_of, is_broadcast}
use Rattle.message.specs.Asked.{asked_by, asked_of}
use Rattle.terminal.specs.State.{Card}
use Rattle.terminal.specs.Event.{Outcome}
use Rattle.exchange.specs.declared.order.Order.{Order}
use Rattle.controller.specs.Control.{line_in}
use Rattle.rack.specs.Segment.{segment, Spoken, Said}
use Rattle.rack.specs.Hearing.{Stamps, turn_of, said_after}
use Rattle.rack.specs.Bus.{Rack, turn_all, with_reply, placed, replies_to}
use Rattle.rack.specs.Terminals.{Each}
use Rattle.rack.specs.Asked.{IsIdle, is_own}
use Rattle.rack.proofs.Terminal.Took.{sent_by}
use Rattle.rack.proofs.Terminal.Own.{idle_station, own_at_home, own_is_home}
use Rattle.rack.proofs.Terminal.Quiet.{quiet_says_nothing}
use Rattle.rack.proofs.Lists.Each.{
  each_so,
  each_both,
  each_after,
  KeepsStation,
  different_after,
  on_bus_after,
}
use Rattle.rack.proofs.Lists.Speaker.{SilentElsewhere, Speaker, find_speaker}
use Rattle.rack.proofs.Message.Carry.{first_turn, second_turn}
use Rattle.rack.proofs.Message.Transfer.Begun.{begun_station}
use Rattle.rack.proofs.Message.Transfer.Done.{Done, sent, received, stayed}
use Rattle.rack.proofs.Message.Transfer.Commands.{said_first, FirstTurn}
use Rattle.rack.proofs.Message.Transfer.Words.{said_second, SecondTurn}
use Rattle.rack.proofs.Message.Transfer.Same.{behind_second}

-- the only reply to the words
pub record LastReply (order : Order) (clock : ℕ → Stamps) (old : Rack)
    (first : FirstTurn order clock old) : Type 0 where
  pub last : ℕ
  pub heard : replies_to (line_in old.desk.state.control) (clock second_turn)
      (said_second order clock old first)
      (turn_all (line_in old.desk.state.control) (clock first_turn) (said_first order)
      old.terminals)
      ≡ Said (address_of order.first) (segment last None []) ∷ []
  pub home : address_of last ≡ address_of order.first
  pub low : address_of order.first ≤ last_station

module _ (order : Order) (clock : ℕ → Stamps) (old : Rack) (first : FirstTurn order clock old)
    (second : SecondTurn order clock old first) (to_one : is_broadcast order.first ≡ false) where
  abbrev line : Bool
  line = line_in old.desk.state.control

  abbrev behind_first : Card → Outcome
  behind_first terminal = turn_of line (clock first_turn) (said_first order) terminal

  abbrev behind_words : Card → Outcome
  behind_words = behind_second order clock old first

  -- what a terminal behind the commands says to the words, if it is to receive them
  record Replies (terminal : Card) : Type 0 where
    last : ℕ
    says : said_after
        (turn_of line (clock second_turn) (said_second order clock old first) terminal)
        ≡ Said terminal.core.station (segment last None [])
    home : address_of last ≡ terminal.core.station
    low : terminal.core.station ≤ last_station

  sends_none : (asked_of order.first).sends ≡ 0
  unfolding asked_by
  sends_none = rw first.fit.receives

  module _ (terminal : Card) (idle : IsIdle terminal)
      (keeps : KeepsStation line (clock first_turn) (said_first order) terminal) where
    replies : Done line (clock first_turn) (clock second_turn) order.first order.second
        first.got.status first.got.reply terminal
        → (behind_first terminal).card.core.station ≡ address_of order.first
        → Replies (behind_first terminal).card
    replies (sent own took quiet) home =
        absurd (first.fit.other_station
        (sym (own_is_home order.second terminal first.fit.to_one own) ∙ sym keeps ∙ home))
    replies (received strange own took) home =
        let last : ℕ = (behind_words terminal).card.core.status in
        record {
          last = last;
          says =
              took.said to_one
              ∙ ap (λ (words : List ℕ). Said terminal.core.station (segment last None words))
              (drop_of_length-le (sent_by order.first terminal (behind_words terminal).card)
              {i = 0} (omega (arith, took.sent_long, sends_none)))
              ∙ ap (λ (station : ℕ). Said station (segment last None [])) (sym keeps);
          home = took.idle.status ∙ took.station ∙ sym keeps;
          low =
              subst (λ (station : ℕ). station ≤ last_station) (sym keeps)
              (idle_station terminal idle);
        }
    replies (stayed strange strange_first quiet) home =
        let never : is_own order.first terminal ≡ true =
        own_at_home order.first terminal to_one (sym keeps ∙ home) in
        cc

    elsewhere : Done line (clock first_turn) (clock second_turn) order.first order.second
        first.got.status first.got.reply terminal
        → SilentElsewhere line (clock second_turn) (said_second order clock old first)
        (address_of order.first) (behind_first terminal).card
    elsewhere (sent own took quiet) other =
        ap (λ (any : Outcome). said_after any) quiet
        ∙ quiet_says_nothing (behind_first terminal).card
    elsewhere (received strange own took) other =
        absurd (other (keeps ∙ own_is_home order.first terminal to_one own))
    elsewhere (stayed strange strange_first quiet) other =
        ap (λ (any : Outcome). said_after any) quiet ∙ quiet_says_nothing terminal

  -- ---- of all terminals

  each_keeps : Each (KeepsStation line (clock first_turn) (said_first order)) old.terminals
  each_keeps =
      each_so (λ terminal both.
      begun_station line (clock first_turn) order.first order.second terminal both.1)
      first.terminals

  found : Speaker line (clock second_turn) (said_second order clock old first)
      (λ terminal. terminal.core.station ≡ address_of order.first → Replies terminal)
      (address_of order.first)
      (turn_all line (clock first_turn) (said_first order) old.terminals)
  found =
      let known = each_both second.terminals each_keeps in
      find_speaker line (clock second_turn) (said_second order clock old first)
      (address_of order.first)
      (each_after line (clock first_turn) (said_first order)
      (each_so (λ terminal both. replies terminal both.0.0 both.1 both.0.1) known))
      (each_after line (clock first_turn) (said_first order)
      (each_so (λ terminal both. elsewhere terminal both.0.0 both.1 both.0.1) known))
      (different_after line (clock first_turn) (said_first order) each_keeps first.different)
      (on_bus_after line (clock first_turn) (said_first order) (address_of order.first) each_keeps
      (first.addressed to_one))

  pub last_reply : LastReply order clock old first
  unfolding placed
  last_reply =
      let reply : Replies found.speaker = found.holds found.is in
      record {
        last = reply.last;
        heard =
            found.heard
            ∙ ap (λ (any : Spoken). with_reply any []) reply.says
            ∙ ap (λ (station : ℕ). Said station (segment reply.last None []) ∷ [])
            found.is;
        home = reply.home ∙ found.is;
        low = subst (λ (station : ℕ). station ≤ last_station) found.is reply.low;
      }
