-- `tray::runner::TrayRunner::take_field` meets its contract: a law for each reading. Assumes
-- nothing.
use Rattle.std.proofs.Common.{rules}
use Rattle.tray.proofs.TurnLaws.{reads_on, meeting, field_taken}
use Rattle.tray.proofs.runner.TrayRunner.take_field.Goals as goal

pub happen-answer-requires : goal.happen-answer-requires
happen-answer-requires c =
    (reads_on _ _ _ _ _ _ c.read_field.ensures c.in-Ok-Some.is c.in-Ok-Some.field-0-is).words

pub overflow_sub-taken : goal.overflow_sub-taken
overflow_sub-taken c =
    (reads_on _ _ _ _ _ _ c.read_field.ensures c.in-Ok-Some.is c.in-Ok-Some.field-0-is).further

pub returns-in-Ok-Some : goal.returns-in-Ok-Some
returns-in-Ok-Some c =
    field_taken _ _ _ _ _ _ c.read_field.ensures _ _ c.in-Ok-Some.is c.in-Ok-Some.field-0-is
    _ _ _ _ _ c.happen-answer.ensures c.put_answer.ensures c.pass.new.self (search rules)

pub returns-in-Ok-None : goal.returns-in-Ok-None
returns-in-Ok-None c = search (rules, meeting) depth 9

pub returns-in-Err : goal.returns-in-Err
returns-in-Err c = search (rules, meeting) depth 9
