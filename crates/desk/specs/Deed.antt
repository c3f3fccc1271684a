-- What a field does. Definitions only. Assumes nothing.
use Rattle.std.specs.Prelude.{ℕ, List, [], ◌==◌, Option, Some, None}
use Rattle.std.proofs.lemmas.List.Edits.{sets}
use Rattle.bus.specs.Word.{word_of}
use Rattle.recording.specs.Value.{Valued, valued_at}
use Rattle.recording.specs.Value as shared
use Rattle.lines.specs.Lines.{given_line, result_line}
use Rattle.controller.specs.declared.state.Came.{Came}
use Rattle.controller.specs.declared.start.Given.{Given}
use Rattle.controller.specs.State.{Desk, desk, at_setup}
use Rattle.controller.specs.Start.{Started, start_step}
use Rattle.controller.specs.Heard.{Heard, word_step, silence_step}
use Rattle.controller.specs.Given.{given_part}
use Rattle.desk.specs.declared.field.Field.{Field}
use Rattle.desk.specs.declared.field.Field.TheVariants.{Setup, Start, Shared}
use Rattle.desk.specs.declared.deed.Answer.{Answer}
use Rattle.desk.specs.declared.deed.Answer.TheVariants.{Gave, Ended}

-- what a field leaves: the number of a refusal, 0 for none; what comes of it; the desk
pub record Done : Type 0 where
  pub refusal : ℕ
  pub answer : Answer
  pub desk : Desk

abbrev pub done : ℕ → Answer → Desk → Done
done refusal answer new = record { refusal = refusal; answer = answer; desk = new }

-- nothing comes of it
abbrev pub quietly : Desk → Done
quietly new = done 0 (Ended None) new

-- ---- a start, a word and a silence, as the controller has them

abbrev pub start_done : Started → Done
start_done started = done started.refusal (Gave started.given) started.desk

abbrev pub heard_done : Heard → Done
heard_done heard = done 0 (Ended heard.result) heard.desk

-- document 01's fields; those whose tags are unknown here do nothing
unfoldable pub shared_deed : Valued → Desk → Done
shared_deed (shared.setup station table flags) old = quietly old
shared_deed (shared.word marks value time) old =
    heard_done (word_step (word_of marks value time) old)
shared_deed (shared.silence line time) old = heard_done (silence_step (line == 1) old)
shared_deed shared.read_queue old = quietly old
shared_deed (shared.host_write address words) old =
    quietly (desk old.state (sets old.ram address words))
shared_deed (shared.move_table table) old = quietly old
shared_deed (shared.set_flags flags) old = quietly old

unfoldable pub deed_of : List ℕ → Field → Desk → Done
deed_of bytes (Setup control count) old = quietly (desk (at_setup control count) old.ram)
deed_of bytes Start old = start_done (start_step old)
deed_of bytes (Shared field) old = shared_deed (valued_at bytes field) old

-- ---- the line that is printed: of the words given, or of the result

abbrev pub given_text : List ℕ → Option Given → List ℕ
given_text ram None = []
given_text ram (Some given) = given_line (given_part ram given.block given.count)

abbrev pub result_text : Option Came → List ℕ
result_text None = []
result_text (Some came) = result_line came.code came.mark

abbrev pub answer_line : List ℕ → Answer → List ℕ
answer_line ram (Gave given) = given_text ram given
answer_line ram (Ended result) = result_text result
