-- `actions::Terminal::host_write` meets its contract: refused, or taken. Assumes nothing.
use Rattle.std.proofs.lemmas.Result.{err_from_is_err_and}
use Rattle.actions.specs.Actions.{host_write_action}
use Rattle.actions.proofs.ActionLaws.{host_refused, host_took}
use Rattle.actions.proofs.Terminal.host_write.Goals as goal

pub returns-in_err-memory_refusal : goal.returns-in_err-memory_refusal
unfolding host_write_action
returns-in_err-memory_refusal c =
    let error = err_from_is_err_and c.from_residual.result c.from_residual.ensures.1 in
    rw (error.1, error.2) (host_refused _ _ _ _ _ c.in_err-memory_refusal.ensures)

pub returns : goal.returns
unfolding host_write_action
returns c =
    host_took _ _ _ _ _ _ c.in_ok-memory_refusal.ensures c.write.ensures
