-- What is asked of a start and of terminals, from tests that the checker computes; and what is
-- promised of one terminal. Assumes nothing.
use Rattle.std.proofs.Common.{None}
use mathlib.Core.Path.{◌≡◌, ap}
use mathlib.Core.Logic.{◌≢◌}
use mathlib.Core.Bool.{Bool, true, false, cond}
use mathlib.Core.List.{List, [], ◌∷◌}
use Prim.Native.Nat.{ℕ}
use lib.Dec.{eqb}
use lib.ListN.{length}
use borrow.Author.Tests.{eqb-false}
use Rattle.bus.specs.Command.{address_of, is_broadcast}
use Rattle.card.specs.declared.place.Block.{Block}
use Rattle.card.specs.Memory.{card_words, the_block}
use Rattle.terminal.specs.State.{Card}
use Rattle.terminal.specs.Fitness.{fit_card}
use Rattle.formats.specs.declared.row.Row.{Row}
use Rattle.formats.specs.Code.{format, coded_by}
use Rattle.controller.specs.Control.{code_in}
use Rattle.controller.specs.State.{Desk}
use Rattle.controller.specs.Start.{may_start, order_in, starting, start_step}
use Rattle.controller.specs.Actions.{whole_desk, start_action}
use Rattle.rack.specs.Terminals.{Each, EachOf, Different}
use Rattle.rack.specs.Asked.{IsIdle, opened_for, Ready, Addressed}

-- ---- what is asked

-- a whole memory, a message that may start, a code of the table
pub starts_by : (row : Row) (broadcast : Bool) (old : Desk) → whole_desk old ≡ true
    → may_start old.state ≡ true → coded_by (code_in old.state.control) ≡ format row broadcast
    → start_action old ≡ starting (order_in row broadcast old) old
unfolding start_action start_step
starts_by row broadcast old whole may_start_lem coded = rw (whole, may_start_lem, coded)

pub idle_by : {terminal : Card} → length terminal.ram ≡ card_words → fit_card terminal ≡ true
    → terminal.core.message ≡ None → address_of terminal.core.status ≡ terminal.core.station
    → IsIdle terminal
idle_by whole fit idle status =
    record {
      rest = record { whole_and_fit = record { whole_memory = whole; fit = fit }; idle = idle };
      status = status;
    }

pub ready_by : {line : Bool} {command : ℕ} {terminal : Card}
    → (opened_for command terminal).busy ≡ false
    → eqb (opened_for command terminal).block.0 (opened_for command terminal).table.0 ≡ false
    → cond line terminal.core.shut.b terminal.core.shut.a ≡ false
    → Ready line command terminal
ready_by {command = command} {terminal = terminal} not_busy apart not_shut =
    record {
      not_busy = not_busy;
      not_table = λ has still same.
          eqb-false (opened_for command terminal).block.0 (opened_for command terminal).table.0
          apart (ap (λ (any : Block). any.0) same);
      not_shut = λ one. not_shut;
    }

-- two blocks differ where their numbers do
pub differ : (one other : ℕ) → eqb one other ≡ false → the_block one ≢ the_block other
differ one other apart same = eqb-false one other apart (ap (λ (any : Block). any.0) same)

pub one_is_different : {one : Card} → Different (one ∷ [])
one_is_different = Different.each Each.nobody Different.nobody

pub two_are_different : {one other : Card}
    → eqb other.core.station one.core.station ≡ false → Different (one ∷ other ∷ [])
two_are_different {one} {other} apart =
    Different.each
    (Each.each (eqb-false other.core.station one.core.station apart) Each.nobody)
    one_is_different

-- a broadcast addresses no station
pub to_all_lem : {terminals : List Card} (command : ℕ) → is_broadcast command ≡ true
    → Addressed command terminals
to_all_lem command broadcast one = cc

-- ---- what is promised of the first of the terminals, and of the others

pub first_of : {Holds : Card → Card → Type 0} {old new : Card} {olds news : List Card}
    → EachOf Holds (old ∷ olds) (new ∷ news) → Holds old new
first_of (EachOf.each first others) = first

pub others_of : {Holds : Card → Card → Type 0} {old new : Card} {olds news : List Card}
    → EachOf Holds (old ∷ olds) (new ∷ news) → EachOf Holds olds news
others_of (EachOf.each first others) = others
