-- The two ends of a transfer: the transmitter replies behind the commands, the receiver waits there
-- and takes the words that come then. Assumes nothing.
use Rattle.std.proofs.Common.{None, Some}
use mathlib.Core.Path.{◌≡◌, ap, sym, subst, ◌∙◌}
use mathlib.Core.Bool.{Bool, true, false}
use mathlib.Core.List.{List, []}
use Prim.Native.Nat.{ℕ}
use lib.ListN.{length}
use Rattle.bus.specs.Command.{address_of}
use Rattle.message.specs.Asked.{asked_of}
use Rattle.terminal.specs.State.{Card, with_status, with_last, with_message}
use Rattle.terminal.specs.Opening.{opened_message, opened_core, opening}
use Rattle.terminal.specs.Event.{silence, Outcome, quietly}
use Rattle.terminal.specs.Machine.{step}
use Rattle.terminal_laws.proofs.RestLaws.{opened_block_in_memory}
use Rattle.rack.specs.Segment.{
  segment,
  Spoken,
  Given,
  Said,
  command_word,
  data_words,
  at_station,
}
use Rattle.rack.specs.Hearing.{Stamps, hears, turn_of, said_after}
use Rattle.rack.specs.Asked.{IsIdle, Ready, FitTransfer, is_own}
use Rattle.rack.proofs.Terminal.Took.{Took, Waits}
use Rattle.rack.proofs.Terminal.Hear.{turn_whole_and_fit, turn_own_status}
use Rattle.rack.proofs.Terminal.Quiet.{quiet_says_nothing}
use Rattle.rack.proofs.Terminal.Ended.{Ended}
use Rattle.rack.proofs.Terminal.Opened.{message_of, opened_card, took_at_end}
use Rattle.rack.proofs.Terminal.OneCommand.{opened_ends}
use Rattle.rack.proofs.Terminal.Columns.{TransferColumns, transfer_columns}
use Rattle.rack.proofs.Terminal.Awaited.{reply_ends}
use Rattle.rack.proofs.Terminal.Transmitter.{second_opens}
use Rattle.rack.proofs.Terminal.Receiver.{awaiting, sender_is_other, receiver_awaits}

-- the commands of a transfer
abbrev pub commands_of : ℕ → ℕ → Spoken
commands_of first second = Given (segment first (Some second) [])

module _ (line : Bool) (stamps : Stamps) (first second : ℕ) (fit : FitTransfer first second)
    (old : Card) (idle : IsIdle old) where
  abbrev time : ℕ
  time = stamps.word 0

  abbrev time' : ℕ
  time' = stamps.word 1

  abbrev behind_commands : Outcome
  behind_commands = turn_of line stamps (commands_of first second) old

  columns : TransferColumns first second
  columns = transfer_columns first second fit

  -- ---- the transmitter

  pub transmitter_took : is_own second old ≡ true → Ready line second old
      → Took second [] old (turn_of line stamps (commands_of first second) old)
  unfolding turn_of at_station data_words hears
  transmitter_took own ready =
      let sound = idle.rest.whole_and_fit in
      let spoken = commands_of first second in
      took_at_end line true second time' old [] behind_commands columns.second_fit ready
      (turn_whole_and_fit line stamps spoken old sound)
      (turn_own_status line stamps spoken old sound idle.status)
      (subst (λ (new : Card). Ended (message_of line true second time' old) []
      (opened_card line true second time' old) (step (silence line stamps.silence) new))
      (sym (second_opens line time time' first second fit old idle own))
      (opened_ends line true second time' old [] columns.second_fit
      (sym columns.second_takes) idle ready stamps.word 2 stamps.silence))

  -- ---- the receiver

  module _ (strange : is_own second old ≡ false) (own : is_own first old ≡ true)
      (ready : Ready line first old) where
    reply_taken : (later : Stamps) (speaker status : ℕ) (words : List ℕ)
        → speaker ≡ address_of second → address_of status ≡ speaker
        → length words ≡ (asked_of first).takes
        → Ended (message_of line false first time old) words (opened_card line false first time old)
        (turn_of line later (Said speaker (segment status None words))
        (awaiting line time first second old))
    unfolding opening opened_core opened_message with_message with_last with_status
    reply_taken later speaker status words is_sender is_status full =
        reply_ends (message_of line false first time old) (opened_card line false first time old)
        second ready.not_busy ready.not_table
        (opened_block_in_memory old idle.rest.whole_and_fit
        (command_word line false first time))
        words full later speaker status fit.to_one
        (sender_is_other first second fit old strange) is_sender is_status

    is_awaiting : behind_commands ≡ quietly (awaiting line time first second old)
    is_awaiting = receiver_awaits first second fit old strange line stamps idle own

    pub receiver_waits :
        Waits line first second old (turn_of line stamps (commands_of first second) old)
    unfolding opening opened_core with_message with_last with_status
    receiver_waits =
        let sound = idle.rest.whole_and_fit in
        let spoken = commands_of first second in
        record {
          silent =
              ap (λ (outcome : Outcome). said_after outcome) is_awaiting
              ∙ quiet_says_nothing (awaiting line time first second old);
          station = ap (λ (outcome : Outcome). outcome.card.core.station) is_awaiting;
          takes = λ later speaker status words is_sender is_status full.
              let reply = Said speaker (segment status None words) in
              let sound_then = turn_whole_and_fit line stamps spoken old sound in
              took_at_end line false first time old words
              (turn_of line later reply behind_commands.card) columns.first_fit ready
              (turn_whole_and_fit line later reply behind_commands.card sound_then)
              (turn_own_status line later reply behind_commands.card sound_then
              (turn_own_status line stamps spoken old sound idle.status))
              (subst (λ (outcome : Outcome). Ended (message_of line false first time old) words
              (opened_card line false first time old) (turn_of line later reply outcome.card))
              (sym is_awaiting)
              (reply_taken later speaker status words is_sender is_status full));
        }
