-- `recording::reading::field_there` meets its contract: a law for each answer of the reader.
-- Assumes nothing.
use Rattle.std.proofs.Common.{◌≡◌, Err, rules}
use Rattle.rules.proofs.Cases.{turned, answers}
use Rattle.recording.proofs.ReadingLaws.{
  read_unknown,
  read_no_length,
  read_other_length,
  read_no_value,
  read_out_of_turn,
  read_refused,
  read_taken,
}
use Rattle.recording.proofs.reading.field_there.Goals as goal

pub returns-in_default : goal.returns-in_default
returns-in_default c = search (rules, turned, answers, read_unknown)

pub returns-then-left-lt3 : goal.returns-then-left-lt3
returns-then-left-lt3 c = search (rules, turned, answers, read_no_length)

pub returns-then-not-length_fits : goal.returns-then-not-length_fits
returns-then-not-length_fits c = search (rules, turned, answers, read_other_length)

pub returns-then-left-size : goal.returns-then-left-size
returns-then-left-size c = search (rules, turned, answers, read_no_value)

pub returns-then-not-is_due : goal.returns-then-not-is_due
returns-then-not-is_due c = search (rules, turned, answers, read_out_of_turn)

pub returns-in_err-in_order : goal.returns-in_err-in_order
returns-in_err-in_order c =
    let is : c.from_residual.result ≡ Err c.in_err-in_order.field-0.0 = search rules in
    rw is (search (rules, turned, answers, c.in_err-in_order.ensures, read_refused))

pub returns : goal.returns
returns c = search (rules, turned, answers, read_taken)
