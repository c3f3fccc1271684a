-- The sound bus: a segment and the silence behind it is a turn; the replies that the silence brings
-- are the next segments, one after the other; and so on until the controller's message has ended
-- and no reply waits. Definitions only. Assumes nothing.
use Rattle.std.specs.Prelude.{
  Bool,
  true,
  false,
  cond,
  ◌&&◌,
  List,
  [],
  ◌∷◌,
  ◌++◌,
  ℕ,
  zero,
  suc,
  ◌-◌,
  ltb,
  get_or,
  drop,
  Option,
  Some,
  None,
}
use Rattle.terminal.specs.State.{Card}
use Rattle.formats.specs.declared.row.Row.{Row}
use Rattle.formats.specs.declared.row.Row.TheVariants.{
  ToTerminal,
  FromTerminal,
  Between,
  ModeAlone,
  ModeWithWord,
  ModeForWord,
}
use Rattle.exchange.specs.declared.order.Order.{Order}
use Rattle.exchange.specs.Order.{format_for}
use Rattle.controller.specs.declared.state.OpenMessage.{OpenMessage}
use Rattle.controller.specs.declared.start.Given.{Given as GivenWords}
use Rattle.controller.specs.Control.{line_in}
use Rattle.controller.specs.State.{Desk, is_idle}
use Rattle.controller.specs.Start.{Started}
use Rattle.controller.specs.Given.{given_part}
use Rattle.controller.specs.Actions.{start_action}
use Rattle.rack.specs.Segment.{Segment, segment, Spoken, Nothing, Given, Said}
use Rattle.rack.specs.Hearing.{Stamps, turn_of, said_after, desk_turn}

pub record Rack : Type 0 where
  pub desk : Desk
  pub terminals : List Card

abbrev pub rack : Desk → List Card → Rack
rack desk terminals = record { desk = desk; terminals = terminals }

-- ---- a turn

unfoldable pub turn_all : Bool → Stamps → Spoken → List Card → List Card
turn_all line stamps spoken [] = []
turn_all line stamps spoken (terminal ∷ terminals) =
    (turn_of line stamps spoken terminal).card ∷ turn_all line stamps spoken terminals

unfoldable pub turn : Bool → Stamps → Spoken → Rack → Rack
turn line stamps spoken old =
    rack (desk_turn line stamps spoken old.desk) (turn_all line stamps spoken old.terminals)

-- ---- the replies that it brings, by rising station

-- a reply among those of higher stations, and behind those of lower ones
abbrev pub comes_before : ℕ → Spoken → Bool
comes_before station Nothing = true
comes_before station (Given said) = true
comes_before station (Said other said) = ltb station other

unfoldable pub placed : ℕ → Segment → List Spoken → List Spoken
placed station said [] = Said station said ∷ []
placed station said (next ∷ later) =
    cond (comes_before station next)
    (Said station said ∷ next ∷ later)
    (next ∷ placed station said later)

abbrev pub with_reply : Spoken → List Spoken → List Spoken
with_reply Nothing others = others
with_reply (Given said) others = others
with_reply (Said station said) others = placed station said others

unfoldable pub replies_to : Bool → Stamps → Spoken → List Card → List Spoken
replies_to line stamps spoken [] = []
replies_to line stamps spoken (terminal ∷ terminals) =
    with_reply (said_after (turn_of line stamps spoken terminal))
    (replies_to line stamps spoken terminals)

-- ---- a message

-- what is said next, and what waits behind it; where no reply waits, the next silence follows
abbrev pub next_of : List Spoken → Spoken
next_of [] = Nothing
next_of (next ∷ later) = next

abbrev pub behind_next : List Spoken → List Spoken
behind_next [] = []
behind_next (next ∷ later) = later

abbrev pub is_none : List Spoken → Bool
is_none [] = true
is_none (next ∷ later) = false

-- turn after turn, so many at the most
unfoldable pub carry : ℕ → Bool → (ℕ → Stamps) → List Spoken → Rack → Rack
carry zero line clock waiting old = old
carry (suc more) line clock waiting old =
    let new : Rack = turn line (clock more) (next_of waiting) old in
    let replies : List Spoken =
    behind_next waiting ++ replies_to line (clock more) (next_of waiting) old.terminals in
    cond (is_idle new.desk.state.message && is_none replies) new
    (carry more line clock replies new)

-- more than any message takes where the stations differ and each status has its own address
abbrev pub most_turns : ℕ
most_turns = 8

-- commands, then data: only between two terminals is the second word a command
abbrev pub second_given : Row → ℕ → Option ℕ
second_given ToTerminal value = None
second_given FromTerminal value = None
second_given Between value = Some value
second_given ModeAlone value = None
second_given ModeWithWord value = None
second_given ModeForWord value = None

unfoldable pub segment_of : Order → List ℕ → Segment
segment_of order words =
    segment (get_or words 0 0) (second_given order.row (get_or words 1 0))
    (drop ((format_for order).given - (format_for order).behind) words)

-- what a start says, by what it gives and the message that it opens
abbrev pub said_at_start : Option GivenWords → Option OpenMessage → List ℕ → List Spoken
said_at_start None message ram = []
said_at_start (Some given) None ram = []
said_at_start (Some given) (Some message) ram =
    Given (segment_of message.order (given_part ram given.block given.count)) ∷ []

-- a message that is started is carried to its end; where none is, nothing changes
unfoldable pub begun : (ℕ → Stamps) → Started → Rack → Rack
begun clock started old =
    let said : List Spoken =
    said_at_start started.given started.desk.state.message old.desk.ram in
    cond (is_none said) old
    (carry most_turns (line_in old.desk.state.control) clock said
    (rack started.desk old.terminals))

unfoldable pub message : (ℕ → Stamps) → Rack → Rack
message clock old = begun clock (start_action old.desk) old

-- ---- a run: message after message, so many at the most

unfoldable pub messages : ℕ → (ℕ → ℕ → Stamps) → Rack → Rack
messages zero clocks old = old
messages (suc more) clocks old = messages more clocks (message (clocks more) old)
