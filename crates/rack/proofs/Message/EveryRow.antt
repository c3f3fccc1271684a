-- Every row of the table, with X and without: what is asked of a message brings what is promised,
-- and so in a run, however many messages. Assumes nothing.
use mathlib.Core.Path.{◌≡◌, refl, ◌∙◌}
use mathlib.Core.Logic.{◌≢◌}
use mathlib.Core.Bool.{Bool, true, false}
use Prim.Native.Nat.{ℕ, zero, suc}
use Rattle.formats.specs.declared.row.Row.{Row}
use Rattle.formats.specs.declared.row.Row.TheVariants.{
  ToTerminal,
  FromTerminal,
  Between,
  ModeAlone,
  ModeWithWord,
  ModeForWord,
}
use Rattle.exchange.specs.declared.order.Order.{Order}
use Rattle.rack.specs.Hearing.{Stamps}
use Rattle.rack.specs.Bus.{Rack, message}
use Rattle.rack.specs.Asked.{Asked}
use Rattle.rack.specs.SameWords.{Promised, AskedEach, PromisedEach}
use Rattle.rack.proofs.Message.Carry.{nothing_begins}
use Rattle.rack.proofs.Message.Alone.Given.{FirstTurn as AloneTurn, first_turn_lem as alone_turn}
use Rattle.rack.proofs.Message.Alone.ToAll as alone_to_all
use Rattle.rack.proofs.Message.Alone.Reply.{replied}
use Rattle.rack.proofs.Message.Alone.ToOne as alone_to_one
use Rattle.rack.proofs.Message.Transfer.Commands.{FirstTurn, first_turn_lem}
use Rattle.rack.proofs.Message.Transfer.Words.{SecondTurn, second_turn_lem}
use Rattle.rack.proofs.Message.Transfer.ToAll as transfer_to_all
use Rattle.rack.proofs.Message.Transfer.Last.{last_reply}
use Rattle.rack.proofs.Message.Transfer.ToOne as transfer_to_one

module _ (order : Order) (clock : ℕ → Stamps) (old : Rack) (asked : Asked order old) where
  -- rows of one command
  alone : order.row ≢ Between → Promised order old (message clock old)
  alone other =
      let first : AloneTurn order clock old = alone_turn order clock old asked other in
      by_x first order.broadcast refl
    where
      by_x : AloneTurn order clock old → (all : Bool) → order.broadcast ≡ all
          → Promised order old (message clock old)
      by_x first true to_all_lem = alone_to_all.promised_to_all order clock old first to_all_lem
      by_x first false to_one =
          alone_to_one.promised_to_one order clock old first
          (replied order clock old first to_one)

  -- the row of two
  transfer : order.row ≡ Between → Promised order old (message clock old)
  transfer is = by_x (first_turn_lem order clock old asked is) order.broadcast refl
    where
      by_x : FirstTurn order clock old → (all : Bool) → order.broadcast ≡ all
          → Promised order old (message clock old)
      by_x first true to_all_lem =
          transfer_to_all.promised_to_all order clock old first
          (second_turn_lem order clock old first) to_all_lem
      by_x first false to_one =
          let second : SecondTurn order clock old first = second_turn_lem order clock old first in
          transfer_to_one.promised_to_one order clock old first second
          (last_reply order clock old first second (first.broadcast ∙ to_one)) to_one

  pub message_promised : Promised order old (message clock old)
  message_promised = by_row order.row refl
    where
      by_row : (row : Row) → order.row ≡ row → Promised order old (message clock old)
      by_row ToTerminal is = alone (λ same. cc)
      by_row FromTerminal is = alone (λ same. cc)
      by_row Between is = transfer is
      by_row ModeAlone is = alone (λ same. cc)
      by_row ModeWithWord is = alone (λ same. cc)
      by_row ModeForWord is = alone (λ same. cc)

pub run_promised : (count : ℕ) (clocks : ℕ → ℕ → Stamps) (old : Rack)
    → AskedEach count clocks old → PromisedEach count clocks old
unfolding AskedEach PromisedEach
run_promised zero clocks old asked = tt
run_promised (suc more) clocks old asked = (
  λ order starts. message_promised order (clocks more) old (asked.0 order starts),
  nothing_begins (clocks more) old,
  run_promised more clocks (message (clocks more) old) asked.1,
)
