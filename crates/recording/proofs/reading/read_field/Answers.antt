-- `recording::reading::read_field` meets its contract: where nothing is left, by the law of the
-- end. Assumes nothing.
use Rattle.recording.proofs.ReadingLaws.{read_end}
use Rattle.recording.proofs.reading.read_field.Goals as goal

pub returns-then-bytes-place : goal.returns-then-bytes-place
returns-then-bytes-place c = search read_end
