-- `message::judge::on_silence` meets its contract, by the cases of its test. Assumes nothing.
use Rattle.rules.proofs.Cases.{cases}
use Rattle.message.specs.Silence.{on_silence}
use Rattle.message.proofs.judge.on_silence.Goals as goal

pub returns-then-line-message : goal.returns-then-line-message
unfolding on_silence
returns-then-line-message c = search cases depth 9

pub returns : goal.returns
unfolding on_silence
returns c = search cases depth 9
