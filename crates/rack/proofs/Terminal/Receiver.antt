-- The receiver of a transfer at the two commands: it takes the second one and, behind the silence,
-- awaits the status of the other terminal. Assumes nothing.
use Rattle.std.proofs.Common.{Some}
use mathlib.Core.Path.{◌≡◌, ap, sym, ◌∙◌}
use mathlib.Core.Logic.{◌≢◌}
use mathlib.Core.Bool.{Bool, true, false}
use mathlib.Core.List.{[], ◌∷◌}
use Prim.Native.Nat.{ℕ}
use Rattle.bus.specs.Command.{address_of}
use Rattle.message.specs.declared.state.Stage.TheVariants.{SecondCommand, AwaitingStatus}
use Rattle.terminal.specs.State.{Card, with_status, with_last, with_message}
use Rattle.terminal.specs.Opening.{opened_message, opened_core, opening}
use Rattle.terminal.specs.Event.{word, silence, Outcome, quietly}
use Rattle.terminal.specs.Machine.{step}
use Rattle.rack.specs.Segment.{segment, Given, command_word, data_words, at_station}
use Rattle.rack.specs.Hearing.{Stamps, hears, turn_of}
use Rattle.rack.specs.Asked.{IsIdle, FitTransfer, is_own}
use Rattle.rack.proofs.Terminal.Own.{own_at_home}
use Rattle.rack.proofs.Terminal.Hear.{hears_then}
use Rattle.rack.proofs.Terminal.Opened.{message_of, opened_card, own_opens}
use Rattle.rack.proofs.Terminal.Second.{card_at, second_is_taken, opened_at_second}
use Rattle.rack.proofs.Terminal.Awaited.{status_is_awaited}

-- the card that awaits the status
abbrev pub awaiting : Bool → ℕ → ℕ → ℕ → Card → Card
awaiting line time first second old =
    card_at second AwaitingStatus (message_of line false first time old)
    (opened_card line false first time old)

module _ (first second : ℕ) (fit : FitTransfer first second) (old : Card)
    (strange : is_own second old ≡ false) where
  -- the other terminal has another station
  pub sender_is_other : address_of second ≢ old.core.station
  sender_is_other same =
      let never : is_own second old ≡ true = own_at_home second old fit.to_one (sym same) in
      cc

  module _ (line : Bool) (stamps : Stamps) where
    abbrev time : ℕ
    time = stamps.word 0

    -- the card where the first command is open, and where it has taken the second
    abbrev first_open : Card
    first_open = opened_card line false first time old

    abbrev both_heard : Card
    both_heard = card_at second SecondCommand (message_of line false first time old) first_open

    second_taken :
        step (word (command_word line true second (stamps.word 1))) first_open ≡ quietly both_heard
    unfolding opening opened_core opened_message with_message with_last with_status
    second_taken =
        second_is_taken (message_of line false first time old) first_open
        (opened_at_second line time first second old fit) second fit.asks fit.to_one
        sender_is_other fit.same_count (stamps.word 1)

    status_awaited : step (silence line stamps.silence) both_heard
        ≡ quietly (awaiting line time first second old)
    unfolding opened_message
    status_awaited =
        status_is_awaited (message_of line false first time old) first_open second
        stamps.silence

    pub receiver_awaits : IsIdle old → is_own first old ≡ true
        → turn_of line stamps (Given (segment first (Some second) [])) old
        ≡ quietly (awaiting line time first second old)
    unfolding turn_of at_station data_words hears
    receiver_awaits idle own =
        ap (λ (new : Card). step (silence line stamps.silence) new)
        (hears_then (command_word line false first time)
        (command_word line true second (stamps.word 1) ∷ []) old
        (own_opens line false first time old idle.rest.idle own)
        (ap (λ (outcome : Outcome). outcome.card) second_taken))
        ∙ status_awaited
