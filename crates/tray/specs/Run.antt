-- A tray run: the fields of a recording one by one over the terminal, and the lines that are
-- printed. Definitions only. Assumes nothing.
use Rattle.std.specs.Prelude.{ℕ, ◌+◌, ◌-◌, List, [], ◌∷◌, replicate}
use Rattle.bus.specs.Limits.{all_stations}
use Rattle.card.specs.Memory.{card_words, the_block}
use Rattle.queue.specs.Queue.{empty_queue}
use Rattle.terminal.specs.declared.state.Reply.{Reply}
use Rattle.terminal.specs.declared.state.Answer.{Answer}
use Rattle.terminal.specs.declared.state.Answer.TheVariants.{Replied, QueueWord}
use Rattle.terminal.specs.State.{Card, card, core_at_setup}
use Rattle.terminal.specs.Reply.{reply_words}
use Rattle.terminal.specs.Event.{Shown}
use Rattle.recording.specs.declared.field.Field.{Field}
use Rattle.recording.specs.declared.seen.Seen.{Seen}
use Rattle.recording.specs.Seen.{nothing_seen, seen_after}
use Rattle.recording.specs.Reading.{Reading, Taken, End, Refused, read_at}
use Rattle.recording.specs.Value.{valued_at}
use Rattle.lines.specs.Lines.{status_line, queue_line}
use Rattle.pieces.specs.LastLine.{counted}
use Rattle.pieces.specs.Course.{Met, taken, at_end, refused, Course}
use Rattle.pieces.specs.Whole as pieces
use Rattle.tray.specs.Happening.{happening_of, happened}

-- how far a run has come: what the reader has seen, the terminal and the card memory, how many
-- fields were taken, and where in the recording the next one begins
pub record Tray : Type 0 where
  pub seen : Seen
  pub card : Card
  pub fields : ℕ
  pub offset : ℕ

-- before the first field, over a memory: the terminal is of no station
unfoldable pub tray_over : List ℕ → Tray
tray_over ram =
    record {
      seen = nothing_seen;
      card = card (core_at_setup all_stations (the_block 0) 0) empty_queue ram;
      fields = 0;
      offset = 0;
    }

-- a tray run: RAM starts zero
unfoldable pub tray_at_start : Tray
unfolding tray_over
tray_at_start = tray_over (replicate card_words 0)

-- ---- lines

-- the line of a reply's values: nothing of none; else of the status and the words sent
abbrev pub values_line : List ℕ → List ℕ
values_line [] = []
values_line (status ∷ words) = status_line status words

-- what is printed of a reply
abbrev pub reply_line : List ℕ → Reply → List ℕ
reply_line ram reply = values_line (reply_words ram reply)

-- of an answer: that of a reply, or the word of a queue read
abbrev pub answer_line : List ℕ → Answer → List ℕ
answer_line ram (Replied reply) = reply_line ram reply
answer_line ram (QueueWord word) = queue_line word

-- what an outcome prints, the words sent being those in the RAM
abbrev pub shown_line : Shown → List ℕ
shown_line new = answer_line new.card.ram new.answer

-- ---- the run

-- a field of these bytes is taken, and the next begins so many bytes further on
unfoldable pub taking : List ℕ → Field → ℕ → Tray → Tray
taking bytes field size old =
    record {
      seen = seen_after field old.seen;
      card = (happened (happening_of (valued_at bytes field)) old.card).card;
      fields = counted (old.fields + 1);
      offset = counted (old.offset + size);
    }

-- what the field prints
unfoldable pub taking_line : List ℕ → Field → Tray → List ℕ
taking_line bytes field old = shown_line (happened (happening_of (valued_at bytes field)) old.card)

-- what a reading at a place is to the run: a field that is taken, the end, or a refusal
unfoldable pub met_by : Reading → List ℕ → ℕ → Tray → Met Tray
met_by (Taken field next) bytes at old =
    taken next (taking_line bytes field old) (taking bytes field (next - at) old)
met_by End bytes at old = at_end
met_by (Refused number place) bytes at old = refused number

-- the course of a tray run: the reader goes by what it has seen
unfoldable pub tray_course : Course Tray
tray_course =
    record {
      fields = λ old. old.fields;
      offset = λ old. old.offset;
      meets = λ old bytes at. met_by (read_at bytes at old.seen) bytes at old;
    }

-- what a run makes of the bytes of a recording: the text that it prints, and how far it has come
-- then
abbrev pub Whole : Type 0
Whole = pieces.Whole Tray

-- of the bytes that are left, field by field
abbrev pub whole_from : Tray → List ℕ → Whole
whole_from old bytes = pieces.whole_from tray_course old bytes

-- what the program prints of a recording
unfoldable pub printed : List ℕ → List ℕ
printed bytes = (whole_from tray_at_start bytes).text
