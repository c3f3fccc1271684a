-- `actions::Terminal::silence` meets its contract: refused, or taken. Assumes nothing.
use Rattle.std.proofs.lemmas.Result.{err_from_is_err_and}
use Rattle.actions.specs.Actions.{silence_action}
use Rattle.actions.proofs.ActionLaws.{memory_refused, memory_took, silence_took}
use Rattle.actions.proofs.Terminal.silence.Goals as goal

pub returns-in_err-memory_refusal : goal.returns-in_err-memory_refusal
unfolding silence_action
returns-in_err-memory_refusal c =
    let error = err_from_is_err_and c.from_residual.result c.from_residual.ensures.1 in
    rw (error.1, error.2) (memory_refused _ _ _ _ _ c.in_err-memory_refusal.ensures)

pub returns : goal.returns
unfolding silence_action
returns c =
    memory_took _ _ _ _ _ c.in_ok-memory_refusal.ensures
    (silence_took _ _ _ _ _ _ c.silence.ensures)
