-- A transfer without X: the last status stands behind the words, and the same words are at both
-- ends. Assumes nothing.
use mathlib.Core.Path.{◌≡◌, refl, ap, sym, subst, ◌∙◌}
use mathlib.Core.Bool.{false}
use mathlib.Core.List.{List, ◌∷◌}
use Prim.Native.Nat.{ℕ, ◌+◌}
use native.Mathlib.Omega.{arith}
use Rattle.bus.specs.Command.{words_of}
use Rattle.card.specs.declared.place.Block.{Block}
use Rattle.card.specs.Memory.{the_cell}
use Rattle.card.proofs.MemoryLaws.{length_with_cell}
use Rattle.card.proofs.CellLaws.{cell_beside, length_with_cells}
use Rattle.formats.specs.declared.row.Format.{Format}
use Rattle.formats.specs.Row.{data_cell, last_cell}
use Rattle.exchange.specs.declared.order.Order.{Order}
use Rattle.exchange.specs.Order.{format_for}
use Rattle.controller.specs.Control.{block_in}
use Rattle.controller.specs.State.{with_message}
use Rattle.controller.specs.Heard.{ended}
use Rattle.rack.specs.Hearing.{Stamps}
use Rattle.rack.specs.Bus.{Rack, message}
use Rattle.rack.specs.SameWords.{Promised}
use Rattle.rack.proofs.Message.Answered.{with_answer}
use Rattle.rack.proofs.Message.Transfer.Commands.{FirstTurn}
use Rattle.rack.proofs.Message.Transfer.Words.{SecondTurn}
use Rattle.rack.proofs.Message.Transfer.Same.{Carries, answer_carries, all_served}
use Rattle.rack.proofs.Message.Transfer.Last.{LastReply}
use Rattle.rack.proofs.Message.Transfer.Over.{with_both_answers, message_ends}

module _ (order : Order) (clock : ℕ → Stamps) (old : Rack) (first : FirstTurn order clock old)
    (second : SecondTurn order clock old first) (third : LastReply order clock old first)
    (to_one : order.broadcast ≡ false) where
  abbrev block : Block
  block = block_in old.desk.state.control

  abbrev status : ℕ
  status = first.got.status

  abbrev reply : List ℕ
  reply = first.got.reply

  abbrev filled : List ℕ
  filled = with_both_answers order old.desk status reply third.last

  filled_carries : Carries order clock old first filled
  filled_carries cell below =
      let at : last_cell (format_for order) ≡ 2 + 1 + words_of order.second =
      ap (λ (any : Format). last_cell any) first.two.format in
      cell_beside (with_answer order old.desk status reply) block
      (the_cell (last_cell (format_for order))) third.last (the_cell (data_cell order.row + cell))
      (λ same. omega (arith, first.two.at_3))
      ∙ answer_carries order clock old first second cell below

  pub promised_to_one : Promised order old (message clock old)
  unfolding ended with_message
  promised_to_one =
      subst (λ (any : Rack). Promised order old any)
      (sym (message_ends order clock old first second third to_one))
      (record {
        over = refl;
        code = refl;
        long =
            length_with_cell (with_answer order old.desk status reply) block
            (the_cell (last_cell (format_for order))) third.last
            ∙ length_with_cells (status ∷ reply) old.desk.ram block (format_for order).given;
        terminals =
            all_served order clock old first second filled filled_carries;
      })
