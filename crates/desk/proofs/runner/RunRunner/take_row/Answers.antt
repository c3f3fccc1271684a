-- `desk::runner::RunRunner::take_row` meets its contract: a row of data words is as many turns.
-- Assumes nothing.
use Rattle.std.proofs.Common.{rules}
use Rattle.desk.proofs.RowTurns.{none_taken, words_fit, row_taken_lem}
use Rattle.desk.proofs.runner.RunRunner.take_row.Goals as goal

pub returns-then-taken-eq0 : goal.returns-then-taken-eq0
returns-then-taken-eq0 c = search (rules, none_taken) depth 9

pub overflow_add-wanted : goal.overflow_add-wanted
overflow_add-wanted c =
    let fits =
    words_fit c.args.self.now _ _ _ _ _ _ _ _ _ c.words_wanted.ensures c.in-Some.is
    c.take-taken.ensures c.if-taken-eq0.false in
    search rules

pub returns : goal.returns
returns c =
    row_taken_lem _ _ _ _ _ _ _ _ _ _ c.words_wanted.ensures c.in-Some.is c.take-taken.ensures
    c.if-taken-eq0.false c.pass.new.self (search rules)
