-- `actions::Terminal::setup` meets its contract: refused, or begun. Assumes nothing.
use Rattle.std.proofs.lemmas.Result.{err_from_is_err_and}
use Rattle.actions.proofs.ActionLaws.{setup_refused, setup_done}
use Rattle.actions.proofs.Terminal.setup.Goals as goal

pub returns-in_err-setup_refusal : goal.returns-in_err-setup_refusal
returns-in_err-setup_refusal c =
    let error = err_from_is_err_and c.from_residual.result c.from_residual.ensures.1 in
    rw (error.1, error.2) (setup_refused _ _ _ _ c.in_err-setup_refusal.ensures)

pub returns : goal.returns
returns c = rw c.at_setup.ensures (setup_done _ _ _ c.in_ok-setup_refusal.ensures)
