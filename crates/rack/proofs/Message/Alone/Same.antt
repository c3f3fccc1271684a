-- The data of a message of one command where they stand behind the command: the terminal stores
-- what the controller's block holds. Each terminal is served if the words are the same wherever the
-- command is taken. Assumes nothing.
use mathlib.Core.Path.{◌≡◌, ap, sym, ◌∙◌}
use mathlib.Core.Bool.{Bool, true}
use mathlib.Core.List.{List}
use Prim.Native.Nat.{ℕ, ◌+◌, ◌-◌, ◌<◌}
use native.Mathlib.Omega.{arith}
use Rattle.card.specs.declared.place.Block.{Block}
use Rattle.card.specs.Memory.{the_cell, cell_at}
use Rattle.terminal.specs.State.{Card}
use Rattle.terminal.specs.Event.{Outcome}
use Rattle.formats.specs.Row.{data_cell}
use Rattle.exchange.specs.declared.order.Order.{Order}
use Rattle.exchange.specs.Order.{format_for}
use Rattle.controller.specs.Control.{block_in, line_in}
use Rattle.rack.specs.Hearing.{Stamps, turn_of}
use Rattle.rack.specs.Bus.{Rack, turn_all}
use Rattle.rack.specs.Terminals.{Each, EachOf}
use Rattle.rack.specs.Asked.{is_own, taken}
use Rattle.rack.specs.SameWords.{SameWords, Served}
use Rattle.rack.proofs.Terminal.Took.{Took}
use Rattle.rack.proofs.Desk.Giving.{data_given, data_given_long, data_given_cell}
use Rattle.rack.proofs.Lists.Each.{each_so, each_both, each_of_after}
use Rattle.rack.proofs.Message.Carry.{first_turn}
use Rattle.rack.proofs.Message.Alone.Turned.{Turned, took, stays}
use Rattle.rack.proofs.Message.Alone.Given.{said_first, FirstTurn}

module _ (order : Order) (clock : ℕ → Stamps) (old : Rack) where
  abbrev line : Bool
  line = line_in old.desk.state.control

  abbrev block : Block
  block = block_in old.desk.state.control

  -- a terminal behind the words given
  abbrev pub behind_first : Card → Outcome
  behind_first terminal = turn_of line (clock first_turn) (said_first order old) terminal

  abbrev pub TookFirst : Card → Type 0
  TookFirst terminal =
      Took order.first (data_given order old.desk) terminal (behind_first terminal)

  -- the same words there as in a memory of the controller
  abbrev pub SameFirst : List ℕ → Card → Type 0
  SameFirst ram terminal =
      SameWords order old.desk ram order.first terminal (behind_first terminal).card

  -- the words given are kept in it
  abbrev pub KeepsGiven : List ℕ → Type 0
  KeepsGiven ram =
      (cell : ℕ) → cell < (format_for order).given
      → cell_at ram block (the_cell cell) ≡ cell_at old.desk.ram block (the_cell cell)

  module _ (first : FirstTurn order clock old) (ram : List ℕ) where
    pub same_behind_command : KeepsGiven ram → (format_for order).reply ≡ 0
        → data_cell order.row ≡ 1 → (terminal : Card) → TookFirst terminal
        → SameFirst ram terminal
    same_behind_command kept none_back at_1 terminal done cell below =
        let given = first.alone.given in
        let inside : cell < (format_for order).behind = omega (arith, none_back) in
        let long = data_given_long order old.desk first.starts in
        let from : ℕ = (format_for order).given - (format_for order).behind + cell in
        let same : from ≡ data_cell order.row + cell = omega (arith, given, at_1) in
        done.stored cell (omega (arith, long))
        ∙ data_given_cell order old.desk first.starts cell inside
        ∙ sym (kept from (omega (arith, given)))
        ∙ ap (λ (any : ℕ). cell_at ram block (the_cell any)) same

    -- the same words, if the command is taken
    abbrev pub SameWhereTaken : Card → Type 0
    SameWhereTaken terminal =
        is_own order.first terminal ≡ true → TookFirst terminal → SameFirst ram terminal

    serve : (terminal : Card) → SameWhereTaken terminal
        → Turned line (clock first_turn) order.first (data_given order old.desk) terminal
        → Served order old.desk ram (taken order terminal) terminal (behind_first terminal).card
    serve terminal same (took own done) =
        rw (first.alone.takes terminal, own) (done.idle, same own done, done.kept)
    serve terminal same (stays strange quiet) =
        rw (first.alone.takes terminal, strange) (ap (λ (any : Outcome). any.card) quiet)

    pub all_served : Each SameWhereTaken old.terminals
        → EachOf (λ before after.
        Served order old.desk ram (taken order before) before after)
        old.terminals
        (turn_all line (clock first_turn) (said_first order old) old.terminals)
    all_served same =
        each_of_after line (clock first_turn) (said_first order old)
        (each_so (λ terminal both. serve terminal both.0 both.1.1)
        (each_both same first.terminals))
