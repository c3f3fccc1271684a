-- A message of one command without X: controller and terminal hold the same words, whether these go
-- with the command or with the reply. Assumes nothing.
use mathlib.Core.Path.{◌≡◌, refl, ap, sym, subst, ◌∙◌}
use mathlib.Core.Bool.{true}
use mathlib.Core.List.{List, ◌∷◌}
use Prim.Native.Nat.{ℕ, ◌+◌}
use native.Mathlib.Omega.{arith}
use Rattle.bus.specs.Command.{address_of}
use Rattle.card.specs.declared.place.Block.{Block}
use Rattle.card.specs.Memory.{the_cell, cell_at}
use Rattle.card.proofs.CellLaws.{length_with_cells, cell_before_cells}
use Rattle.terminal.specs.State.{Card}
use Rattle.formats.specs.Row.{data_cell}
use Rattle.exchange.specs.declared.order.Order.{Order}
use Rattle.exchange.specs.Order.{format_for}
use Rattle.exchange.proofs.OrderLaws.{last_at_most}
use Rattle.controller.specs.Control.{block_in, line_in}
use Rattle.controller.specs.State.{with_message}
use Rattle.controller.specs.Heard.{ended}
use Rattle.rack.specs.Hearing.{Stamps}
use Rattle.rack.specs.Bus.{Rack, message}
use Rattle.rack.specs.Asked.{is_own}
use Rattle.rack.specs.SameWords.{Promised}
use Rattle.rack.proofs.Terminal.Own.{own_is_home}
use Rattle.rack.proofs.Desk.Starting.{desk_block_in_memory}
use Rattle.rack.proofs.Lists.Each.{each_so}
use Rattle.rack.proofs.Message.Carry.{first_turn}
use Rattle.rack.proofs.Message.Answered.{with_answer, Answered, answer_held}
use Rattle.rack.proofs.Message.Alone.Columns.{Moves, nothing, behind_command, behind_status}
use Rattle.rack.proofs.Message.Alone.Given.{said_first, FirstTurn}
use Rattle.rack.proofs.Message.Alone.Same.{
  TookFirst,
  SameFirst,
  KeepsGiven,
  same_behind_command,
  all_served,
}
use Rattle.rack.proofs.Message.Alone.Reply.{Replied}

module _ (order : Order) (clock : ℕ → Stamps) (old : Rack) (first : FirstTurn order clock old)
    (replied : Replied order clock old) where
  abbrev block : Block
  block = block_in old.desk.state.control

  abbrev command : ℕ
  command = order.first

  abbrev got : Answered (line_in old.desk.state.control) (clock first_turn)
      (said_first order old) order.first old.terminals
  got = replied.got

  abbrev filled : List ℕ
  filled = with_answer order old.desk got.status got.reply

  filled_keeps : KeepsGiven order clock old filled
  filled_keeps cell below =
      cell_before_cells (got.status ∷ got.reply) old.desk.ram block (format_for order).given
      cell below

  -- data behind the status: the speaker's cells are the controller's
  same_behind_status : (format_for order).behind ≡ 0 → data_cell order.row ≡ 2
      → SameFirst order clock old filled got.speaker
  same_behind_status none_given at-2 cell below =
      let given = first.alone.given in
      let at : (format_for order).given + 1 + cell ≡ data_cell order.row + cell =
      omega (arith, none_given, at-2) in
      sym (ap (λ (any : ℕ). cell_at filled block (the_cell any)) (sym at)
      ∙ answer_held old.desk.ram block (format_for order).given got.status got.reply cell
      (omega (arith, replied.full, none_given))
      (omega (arith, replied.full, last_at_most order))
      (desk_block_in_memory old.desk first.starts)
      ∙ got.shows cell (omega (arith, none_given, first.columns.reply)))

  same : Moves order → (terminal : Card)
      → (terminal.core.station ≡ address_of command → terminal ≡ got.speaker)
      → is_own command terminal ≡ true → TookFirst order clock old terminal
      → SameFirst order clock old filled terminal
  same (nothing none) terminal only own done = λ cell below. absurd (omega (arith, none))
  same (behind_command none_back at_1) terminal only own done =
      same_behind_command order clock old first filled filled_keeps none_back at_1 terminal done
  same (behind_status none_given at-2 answers) terminal only own done =
      subst (λ (any : Card). SameFirst order clock old filled any)
      (sym (only (own_is_home command terminal replied.to_one own)))
      (same_behind_status none_given at-2)

  pub promised_to_one : Promised order old (message clock old)
  unfolding ended with_message
  promised_to_one =
      subst (λ (any : Rack). Promised order old any) (sym replied.ends)
      (record {
        over = refl;
        code = refl;
        long =
            length_with_cells (got.status ∷ got.reply) old.desk.ram block
            (format_for order).given;
        terminals =
            all_served order clock old first filled
            (each_so (λ terminal only own done. same first.alone.moves terminal only own done)
            got.only);
      })
