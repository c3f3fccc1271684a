-- What a terminal and the controller make of a segment and of the silence behind it, by their own
-- steps. Definitions only. Assumes nothing.
use Rattle.std.specs.Prelude.{Bool, List, [], ◌∷◌, ℕ, None}
use Rattle.bus.specs.declared.word.Word.{Word}
use Rattle.terminal.specs.declared.state.Answer.{Answer}
use Rattle.terminal.specs.declared.state.Answer.TheVariants.{Replied, QueueWord}
use Rattle.terminal.specs.State.{Card}
use Rattle.terminal.specs.Reply.{reply_words}
use Rattle.terminal.specs.Event.{word, silence, Outcome}
use Rattle.terminal.specs.Machine.{step}
use Rattle.controller.specs.State.{Desk}
use Rattle.controller.specs.Heard.{words_step, silence_step}
use Rattle.rack.specs.Segment.{segment, Spoken, Nothing, Said, at_station, at_desk}

-- the stamps of a turn: of each word by its place, and of the silence
pub record Stamps : Type 0 where
  pub word : ℕ → ℕ
  pub silence : ℕ

-- ---- a terminal

-- word after word
unfoldable pub hears : List Word → Card → Card
hears [] old = old
hears (heard ∷ words) old = hears words (step (word heard) old).card

-- the segment, unless it is its own, and the silence
unfoldable pub turn_of : Bool → Stamps → Spoken → Card → Outcome
turn_of line stamps spoken old =
    step (silence line stamps.silence)
    (hears (at_station line stamps.word spoken old.core.station) old)

-- the values of a reply as a segment: status first
abbrev pub said_by : ℕ → List ℕ → Spoken
said_by station [] = Nothing
said_by station (status ∷ words) = Said station (segment status None words)

-- what a terminal says of an answer
unfoldable pub said_in : Answer → Card → Spoken
said_in (Replied reply) new = said_by new.core.station (reply_words new.ram reply)
said_in (QueueWord value) new = Nothing

-- what it says behind a turn
abbrev pub said_after : Outcome → Spoken
said_after outcome = said_in outcome.answer outcome.card

-- ---- the controller

unfoldable pub desk_turn : Bool → Stamps → Spoken → Desk → Desk
desk_turn line stamps spoken old =
    (silence_step line (words_step (at_desk line stamps.word spoken) old)).desk
