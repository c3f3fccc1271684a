-- `actions::Terminal::move_table` meets its contract: refused, or taken. Assumes nothing.
use Rattle.std.proofs.lemmas.Result.{err_from_is_err_and}
use Rattle.refusals.specs.declared.Refusal.TheVariants.{TableBlock}
use Rattle.card.specs.Memory.{the_block}
use Rattle.terminal.specs.Event.{move_table}
use Rattle.terminal.specs.Machine.{step, move_table_step}
use Rattle.actions.specs.Actions.{move_table_action}
use Rattle.actions.proofs.ActionLaws.{alone_refused, alone_took}
use Rattle.actions.proofs.Terminal.move_table.Goals as goal

pub returns-in_err-refusal : goal.returns-in_err-refusal
unfolding move_table_action
returns-in_err-refusal c =
    let error = err_from_is_err_and c.from_residual.result c.from_residual.ensures.1 in
    rw (error.1, error.2)
    (alone_refused _ _ TableBlock _ (move_table (the_block c.args.table)) _
    c.in_err-refusal.ensures)

pub returns : goal.returns
unfolding move_table_action move_table_step step
returns c =
    alone_took _ _ TableBlock _ (move_table (the_block c.args.table)) _ c.in_ok-refusal.ensures
    (rw c.move_table.ensures)
