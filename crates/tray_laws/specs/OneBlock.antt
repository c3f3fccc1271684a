-- One broken message costs one block, over recordings: bytes that a program is given, the lines
-- that it prints, and the queue and the memory that it leaves. What is asked of the terminal, and
-- which cells are excepted, is in the terminal's `OneBlock`. Definitions only. Assumes nothing.
use Rattle.std.specs.Prelude.{◌≡◌, Bool, true, List, [], ◌∷◌, ◌++◌, ℕ, ◌+◌, length, Option, Some}
use Rattle.bus.specs.declared.kind.Kind.TheVariants.{ModeStatus, ModeLast}
use Rattle.bus.specs.declared.word.Word.{Word}
use Rattle.bus.specs.Kind.{kind_of}
use Rattle.bus.specs.Status.{without_error}
use Rattle.card.specs.declared.place.Block.{Block}
use Rattle.card.specs.Memory.{the_block}
use Rattle.queue.specs.Queue.{empty_queue}
use Rattle.message.specs.declared.state.OpenMessage.{OpenMessage}
use Rattle.terminal.specs.State.{Card, card, core_at_setup}
use Rattle.terminal.specs.Event.{Event, word, seen}
use Rattle.terminal.specs.Machine.{step, run}
use Rattle.terminal_laws.specs.OneBlock.{still_before, Alike, SameAfter, ThatBlock, BrokenMessage}
use Rattle.recording.specs.Seen.{nothing_seen, setup_seen}
use Rattle.lines.specs.Lines.{status_line, end_line}
use Rattle.tray.specs.Happening.{Happening, setup, event}
use Rattle.pieces.specs.LastLine.{counted}
use Rattle.pieces.specs.Whole.{whole}
use Rattle.tray.specs.Run.{shown_line, tray_over, whole_from}
use Rattle.tray_laws.specs.Told.{Tells, CutTelling}

-- ---- what recordings tell

-- fields that tell events
unfoldable pub events : List Event → List Happening
events [] = []
events (told ∷ more) = event told ∷ events more

-- events up to the end of a stretch: the earlier ones, a command, and the stretch
abbrev pub up_to : List Event → Word → List Event → List Event
up_to earlier heard stretch = earlier ++ word heard ∷ stretch

-- ---- lines

-- the line of an event: that of a reply or of a queue read, or none
abbrev pub line_of : Event → Card → List ℕ
line_of told old = shown_line (seen (step told old))

-- the lines of some events
unfoldable pub lines_of : List Event → Card → List ℕ
lines_of [] old = []
lines_of (told ∷ more) old = line_of told old ++ lines_of more (step told old).card

-- every line is the same, but for the message error bit in the S line of a reply to "transmit
-- status word" or "transmit last command"
pub data SameLine : Bool → Option OpenMessage → List ℕ → List ℕ → Type 0 where
  same : {before : Bool} {message : Option OpenMessage} {line : List ℕ}
      → SameLine before message line line
  status_but_error : {message : OpenMessage} (status other : ℕ)
      → kind_of message.command ≡ ModeStatus → without_error status ≡ without_error other
      → SameLine true (Some message) (status_line status []) (status_line other [])
  last_but_error : {message : OpenMessage} (status other last : ℕ)
      → kind_of message.command ≡ ModeLast → without_error status ≡ without_error other
      → SameLine true (Some message)
      (status_line status (last ∷ [])) (status_line other (last ∷ []))

-- .. and so for each later field; the exception ends where another command opens a message
unfoldable pub LaterLines : Bool → List Event → Card → Card → Type 0
LaterLines before [] here there = Unit {0}
LaterLines before (told ∷ more) here there =
    SameLine before here.core.message (line_of told here) (line_of told there)
    × LaterLines (still_before before (step told here).opened) more
    (step told here).card (step told there).card

-- ---- runs of recordings, over any memory: the program's is all zeros

module _ (ram : List ℕ) (station table flags : ℕ) where
  -- the card that the setup and some events leave
  unfoldable pub card_after : List Event → Card
  card_after told = run told (card (core_at_setup station (the_block table) flags) empty_queue ram)

  -- the lines of events up to the end of a stretch, those of the events after it, and END with the
  -- number of fields: the setup, and one for each event
  abbrev pub text_of : List Event → List Event → List ℕ
  text_of sooner later =
      lines_of sooner (card_after [])
      ++ (lines_of later (card_after sooner)
      ++ end_line (counted (1 + length (sooner ++ later))))

  -- a run of the bytes prints that, and leaves the card that all these events leave
  abbrev pub RunsTo : List ℕ → List Event → List Event → Type 0
  RunsTo bytes sooner later =
      whole_from (tray_over ram) bytes
      ≡ whole (text_of sooner later)
      (record {
        seen = setup_seen;
        card = card_after (sooner ++ later);
        fields = counted (1 + length (sooner ++ later));
        offset = counted (length bytes);
      })

  -- the one spent block: that of the message that the command opened
  abbrev pub SpentBlock : List Event → Word → Block → Type 0
  SpentBlock earlier heard = ThatBlock (card_after (up_to earlier heard [])).core.message

  module _ (one two : List ℕ) (earlier : List Event) (heard : Word)
      (told_one told_two later : List Event) where
    -- all that is asked: the reader accepts both recordings; they tell the same setup and events, a
    -- command, one stretch or the other, and then the same events; and what they tell is as the
    -- terminal's theorem asks
    pub record BrokenRecording : Type 0 where
      pub one_accepted : Tells nothing_seen one
          (setup station table flags ∷ events (up_to earlier heard told_one ++ later))
      pub two_accepted : Tells nothing_seen two
          (setup station table flags ∷ events (up_to earlier heard told_two ++ later))
      pub broken : BrokenMessage (card_after earlier) heard told_one told_two later

    -- the claim
    pub record SameRecordings : Type 0 where
      -- what a run makes of each
      pub run_one : RunsTo one (up_to earlier heard told_one) later
      pub run_two : RunsTo two (up_to earlier heard told_two) later
      -- the lines of the later events are the same
      pub lines : LaterLines true later
          (card_after (up_to earlier heard told_one)) (card_after (up_to earlier heard told_two))
      -- so are queue and memory after each of them, but for the spent block's cells
      pub held : SameAfter (SpentBlock earlier heard) later
          (card_after (up_to earlier heard told_one)) (card_after (up_to earlier heard told_two))
      -- .. and as the two runs leave them
      pub at_end : Alike (SpentBlock earlier heard)
          (whole_from (tray_over ram) one).run.card (whole_from (tray_over ram) two).run.card

  -- the same at the end of a later field: both recordings are cut there, and the claim is made of
  -- the parts before
  pub record SameUpTo (one two : List ℕ) (earlier : List Event) (heard : Word)
      (told_one told_two now rest : List Event) : Type 0 where
    pub cut_one : CutTelling nothing_seen one
        (setup station table flags ∷ events (up_to earlier heard told_one ++ now)) (events rest)
    pub cut_two : CutTelling nothing_seen two
        (setup station table flags ∷ events (up_to earlier heard told_two ++ now)) (events rest)
    pub same : SameRecordings cut_one.front cut_two.front earlier heard told_one told_two now
