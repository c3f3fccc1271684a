-- What a terminal has made of a command that it took, from idle to idle; and of the commands of a
-- transfer that it is to receive, whose words are still to come. Definitions only. Assumes nothing.
use Rattle.std.proofs.Common.{None}
use mathlib.Core.Path.{◌≡◌}
use mathlib.Core.Bool.{Bool, true, false}
use mathlib.Core.List.{List}
use Prim.Native.Nat.{ℕ, ◌<◌}
use lib.ListN.{length, get_or}
use Rattle.bus.specs.Command.{address_of, is_broadcast}
use Rattle.card.specs.Memory.{card_blocks, the_cell, cell_at}
use Rattle.card.specs.Sent.{sent_part}
use Rattle.message.specs.Asked.{asked_of}
use Rattle.terminal.specs.State.{Card}
use Rattle.terminal.specs.Event.{Outcome}
use Rattle.rack.specs.Segment.{segment, Nothing, Said}
use Rattle.rack.specs.Hearing.{Stamps, turn_of, said_after}
use Rattle.rack.specs.Asked.{IsIdle, opened_for}
use Rattle.rack.specs.Changed.{ChangesOnly}

-- a command whose reply is its status and words of its block, if it asks for any: it is legal, and
-- not the one that asks for the last command
pub record FitCommand (command : ℕ) : Type 0 where
  pub legal : (asked_of command).illegal ≡ false
  pub not_last : (asked_of command).last ≡ false

-- the words that it sends: of the block fixed at the opening, as many as the command asks
abbrev pub sent_by : ℕ → Card → Card → List ℕ
sent_by command old new =
    sent_part card_blocks new.ram (opened_for command old).block (asked_of command).sends

-- the command is taken: `words` are stored and the reply is given
pub record Took (command : ℕ) (words : List ℕ) (old : Card) (outcome : Outcome) : Type 0 where
  pub idle : IsIdle outcome.card
  pub station : outcome.card.core.station ≡ old.core.station
  pub stored : (cell : ℕ) → cell < length words
      → cell_at outcome.card.ram (opened_for command old).block (the_cell cell)
      ≡ get_or words cell 0
  pub kept : ChangesOnly command old outcome.card
  pub sent_long : length (sent_by command old outcome.card) ≡ (asked_of command).sends
  pub sent : (cell : ℕ) → cell < (asked_of command).sends
      → get_or (sent_by command old outcome.card) cell 0
      ≡ cell_at outcome.card.ram (opened_for command old).block (the_cell cell)
  pub silent : is_broadcast command ≡ true → said_after outcome ≡ Nothing
  pub said : is_broadcast command ≡ false
      → said_after outcome
      ≡ Said old.core.station
      (segment outcome.card.core.status None (sent_by command old outcome.card))

-- the commands of a transfer are heard and the words are to come: the other's status brings them
pub record Waits (line : Bool) (first second : ℕ) (old : Card) (outcome : Outcome)
    : Type 0 where
  pub silent : said_after outcome ≡ Nothing
  pub station : outcome.card.core.station ≡ old.core.station
  pub takes : (stamps : Stamps) (speaker status : ℕ) (words : List ℕ)
      → speaker ≡ address_of second → address_of status ≡ speaker
      → length words ≡ (asked_of first).takes
      → Took first words old
      (turn_of line stamps (Said speaker (segment status None words)) outcome.card)
