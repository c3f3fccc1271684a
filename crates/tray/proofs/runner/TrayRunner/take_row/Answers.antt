-- `tray::runner::TrayRunner::take_row` meets its contract: a row of data words is as many turns.
-- Assumes nothing.
use Rattle.std.proofs.Common.{rules}
use Rattle.tray.proofs.RowTurns.{none_taken, row_taken_lem}
use Rattle.tray.proofs.runner.TrayRunner.take_row.Goals as goal

pub returns-then-taken-eq0 : goal.returns-then-taken-eq0
returns-then-taken-eq0 c = search (rules, none_taken) depth 9

pub returns : goal.returns
returns c =
    row_taken_lem _ _ _ _ _ _ _ _ _ _ c.in-Some.is c.wants.ensures c.take-taken.ensures
    c.if-taken-eq0.false c.pass.new.self (search rules)
