-- `actions::Terminal::set_flags` meets its contract: refused, or taken. Assumes nothing.
use Rattle.std.proofs.lemmas.Result.{err_from_is_err_and}
use Rattle.refusals.specs.declared.Refusal.TheVariants.{Value}
use Rattle.terminal.specs.Event.{set_flags}
use Rattle.terminal.specs.Machine.{step, set_flags_step}
use Rattle.actions.specs.Actions.{set_flags_action}
use Rattle.actions.proofs.ActionLaws.{alone_refused, alone_took}
use Rattle.actions.proofs.Terminal.set_flags.Goals as goal

pub returns-in_err-refusal : goal.returns-in_err-refusal
unfolding set_flags_action
returns-in_err-refusal c =
    let error = err_from_is_err_and c.from_residual.result c.from_residual.ensures.1 in
    rw (error.1, error.2)
    (alone_refused _ _ Value _ (set_flags c.args.flags) _ c.in_err-refusal.ensures)

pub returns : goal.returns
unfolding set_flags_action set_flags_step step
returns c =
    alone_took _ _ Value _ (set_flags c.args.flags) _ c.in_ok-refusal.ensures
    (rw c.set_flags.ensures)
