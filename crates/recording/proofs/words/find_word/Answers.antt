-- `recording::words::find_word` meets its contract: a law for each way that it takes. Assumes
-- nothing.
use Rattle.std.proofs.Common.{rules}
use Rattle.recording.proofs.FoundLaws.{finding}
use Rattle.recording.proofs.words.find_word.Goals as goal

pub returns-in_err-get : goal.returns-in_err-get
returns-in_err-get c = search (rules, finding, c.in_err-get.ensures) depth 9

pub returns-in_default : goal.returns-in_default
returns-in_default c = search (rules, finding, c.in_ok-get.ensures) depth 9

pub returns : goal.returns
returns c = search (rules, finding, c.in_ok-get.ensures) depth 9
