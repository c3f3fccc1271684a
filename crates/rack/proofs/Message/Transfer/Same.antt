-- The words of a transfer: those that are carried stand in the controller's cells behind commands
-- and status; the transmitter's cells and the receivers' hold the same. Assumes nothing.
use mathlib.Core.Path.{◌≡◌, ap, sym, subst, ◌∙◌}
use mathlib.Core.Bool.{Bool}
use mathlib.Core.List.{List}
use Prim.Native.Nat.{ℕ, ◌+◌, ◌<◌}
use native.Mathlib.Omega.{arith}
use lib.ListN.{get_or}
use Rattle.bus.specs.Command.{address_of, words_of}
use Rattle.card.specs.declared.place.Block.{Block}
use Rattle.card.specs.Memory.{the_cell, cell_at}
use Rattle.terminal.specs.State.{Card}
use Rattle.terminal.specs.Event.{Outcome}
use Rattle.formats.specs.declared.row.Format.{Format}
use Rattle.formats.specs.Row.{data_cell, data_words}
use Rattle.exchange.specs.declared.order.Order.{Order}
use Rattle.exchange.specs.Order.{format_for}
use Rattle.exchange.proofs.OrderLaws.{last_at_most}
use Rattle.controller.specs.Control.{block_in, line_in}
use Rattle.rack.specs.Hearing.{Stamps, turn_of}
use Rattle.rack.specs.Bus.{Rack, turn_all}
use Rattle.rack.specs.Terminals.{EachOf}
use Rattle.rack.specs.Asked.{IsIdle, taken}
use Rattle.rack.specs.Changed.{ChangesOnly}
use Rattle.rack.specs.SameWords.{SameWords, Served}
use Rattle.rack.proofs.Terminal.Took.{Took}
use Rattle.rack.proofs.Terminal.Own.{own_is_home}
use Rattle.rack.proofs.Desk.Starting.{desk_block_in_memory}
use Rattle.rack.proofs.Lists.Each.{each_so, each_both, each_of_two}
use Rattle.rack.proofs.Message.Carry.{first_turn, second_turn}
use Rattle.rack.proofs.Message.Answered.{with_answer, answer_held}
use Rattle.rack.proofs.Message.Transfer.Done.{
  after_both,
  Done,
  sent,
  received,
  stayed,
}
use Rattle.rack.proofs.Message.Transfer.Commands.{said_first, FirstTurn}
use Rattle.rack.proofs.Message.Transfer.Words.{said_second, SecondTurn}

module _ (order : Order) (clock : ℕ → Stamps) (old : Rack) (first : FirstTurn order clock old) where
  abbrev line : Bool
  line = line_in old.desk.state.control

  abbrev block : Block
  block = block_in old.desk.state.control

  abbrev status : ℕ
  status = first.got.status

  abbrev reply : List ℕ
  reply = first.got.reply

  abbrev behind_first : Card → Outcome
  behind_first terminal = turn_of line (clock first_turn) (said_first order) terminal

  abbrev pub behind_second : Card → Outcome
  behind_second =
      after_both line (clock first_turn) (clock second_turn) order.first order.second status
      reply

  -- the carried words stand in a memory of the controller
  abbrev pub Carries : List ℕ → Type 0
  Carries ram =
      (cell : ℕ) → cell < words_of order.second
      → cell_at ram block (the_cell (data_cell order.row + cell)) ≡ get_or reply cell 0

  module _ (second : SecondTurn order clock old first) where
    pub answer_carries : Carries (with_answer order old.desk status reply)
    answer_carries cell below =
        let full = second.full in
        let given : (format_for order).given ≡ 2 =
        ap (λ (any : Format). any.given) first.two.format in
        let back : (format_for order).reply ≡ words_of order.second =
        ap (λ (any : Format). any.reply) first.two.format in
        let at : data_cell order.row + cell ≡ (format_for order).given + 1 + cell =
        omega (arith, first.two.at_3) in
        ap (λ (any : ℕ). cell_at (with_answer order old.desk status reply) block (the_cell any)) at
        ∙ answer_held old.desk.ram block (format_for order).given status reply cell
        (omega arith) (omega (arith, last_at_most order))
        (desk_block_in_memory old.desk first.starts)

    module _ (ram : List ℕ) (carries : Carries ram) where
      below_count : (cell : ℕ) → cell < data_words (format_for order)
          → cell < words_of order.second
      below_count cell below =
          let count : data_words (format_for order) ≡ 0 + words_of order.second =
          ap (λ (any : Format). data_words any) first.two.format in
          omega arith

      -- the transmitter's cells, which its reply shows
      same_sent : SameWords order old.desk ram order.second first.got.speaker
          (behind_first first.got.speaker).card
      same_sent cell below =
          let inside = below_count cell below in
          sym (carries cell inside
          ∙ first.got.shows cell (omega (arith, first.columns.second_sends)))

      -- a receiver's cells, which took the reply
      same_received : (terminal : Card)
          → Took order.first reply terminal (behind_second terminal)
          → SameWords order old.desk ram order.first terminal (behind_second terminal).card
      same_received terminal took cell below =
          let inside = below_count cell below in
          took.stored cell (omega (arith, second.full)) ∙ sym (carries cell inside)

      serve : (terminal : Card)
          → (terminal.core.station ≡ address_of order.second → terminal ≡ first.got.speaker)
          → Done line (clock first_turn) (clock second_turn) order.first order.second status
          reply terminal
          → Served order old.desk ram (taken order terminal) terminal
          (behind_second terminal).card
      serve terminal only (sent own took quiet) =
          let is : terminal ≡ first.got.speaker =
          only (own_is_home order.second terminal first.fit.to_one own) in
          rw (first.two.takes terminal, own)
          (subst (λ (any : Outcome).
          IsIdle any.card
          × SameWords order old.desk ram order.second terminal any.card
          × ChangesOnly order.second terminal any.card)
          (sym quiet) (
            took.idle,
            subst (λ (any : Card).
                SameWords order old.desk ram order.second any (behind_first any).card)
                (sym is) same_sent,
            took.kept,
          ))
      serve terminal only (received strange own took) =
          rw (first.two.takes terminal, strange, own)
          (took.idle, same_received terminal took, took.kept)
      serve terminal only (stayed strange strange_first quiet) =
          rw (first.two.takes terminal, strange, strange_first)
          (ap (λ (any : Outcome). any.card) quiet)

      pub all_served : EachOf (λ before after.
          Served order old.desk ram (taken order before) before after)
          old.terminals
          (turn_all line (clock second_turn) (said_second order clock old first)
          (turn_all line (clock first_turn) (said_first order) old.terminals))
      all_served =
          each_of_two line (clock first_turn) (clock second_turn) (said_first order)
          (said_second order clock old first)
          (each_so (λ terminal both. serve terminal both.0 both.1.1)
          (each_both first.got.only second.terminals))
