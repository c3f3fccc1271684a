-- `desk::runner::RunRunner::take_field` meets its contract: a law for each reading. Assumes
-- nothing.
use Rattle.std.proofs.Common.{rules, Ok, Err, sym, ap, ◌∙◌}
use Rattle.std.proofs.lemmas.Result.{err_from_is_err_and}
use Rattle.desk.proofs.TakenLaws.{reads_on}
use Rattle.desk.proofs.TurnLaws.{field_taken, deed_refused, end_met, refusal_met}
use Rattle.desk.proofs.runner.RunRunner.take_field.Goals as goal

pub returns-in_err-taken : goal.returns-in_err-taken
returns-in_err-taken c = search (rules, refusal_met) depth 9

pub returns-in_default : goal.returns-in_default
returns-in_default c =
    end_met _ _ _ _ _ _ c.read_field.ensures
    (c.in_ok-taken.was ∙ ap (λ any. Ok any) c.in_default.is)

pub do_field-requires : goal.do_field-requires
do_field-requires c =
    (reads_on _ _ _ _ _ _ c.read_field.ensures c.in_ok-taken.was c.in-Some.is).words

pub returns-in_err-answer : goal.returns-in_err-answer
returns-in_err-answer c =
    let told =
    err_from_is_err_and c.from_residual-in_err-answer.result
    c.from_residual-in_err-answer.ensures.1 in
    rw told.1
    (deed_refused c.args.self.now _ _ _ _ _ c.read_field.ensures c.in-Some.taken
    (c.in_ok-taken.was ∙ ap (λ any. Ok any) c.in-Some.is) _ _ _ c.do_field.ensures told.0
    (c.in_err-answer.was ∙ ap (λ any. Err any) (sym told.2)))

pub overflow_sub-taken : goal.overflow_sub-taken
overflow_sub-taken c =
    (reads_on _ _ _ _ _ _ c.read_field.ensures c.in_ok-taken.was c.in-Some.is).further

pub returns : goal.returns
returns c =
    field_taken c.args.self.now _ _ _ _ _ c.read_field.ensures c.in-Some.taken
    (c.in_ok-taken.was ∙ ap (λ any. Ok any) c.in-Some.is) _ _ _ c.do_field.ensures
    c.in_ok-answer.answer _ c.pass.new.self c.in_ok-answer.was c.put_answer.ensures (search rules)
