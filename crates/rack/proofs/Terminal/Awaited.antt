-- A data receive that has taken a second command awaits the status of the other terminal, takes it
-- and the words behind it, and ends as any other. Assumes nothing.
use Rattle.std.proofs.Common.{None, Some}
use mathlib.Core.Path.{◌≡◌, refl, ap, sym, subst, ◌∙◌}
use mathlib.Core.Logic.{◌≢◌}
use mathlib.Core.Bool.{false}
use mathlib.Core.List.{List}
use Prim.Native.Nat.{ℕ, ◌≤◌}
use lib.ListN.{length}
use borrow.Author.Tests.{eq-eqb, ne_eqb}
use Rattle.rules.proofs.Cases.{beq_same}
use Rattle.bus.specs.Command.{address_of, is_broadcast}
use Rattle.card.specs.Memory.{block_cells, the_cell, word_address}
use Rattle.message.specs.declared.judge.WordAct.TheVariants.{TakeStatus}
use Rattle.message.specs.declared.judge.SilenceAct.TheVariants.{AwaitStatus}
use Rattle.message.specs.declared.state.Stage.TheVariants.{Data, SecondCommand, AwaitingStatus}
use Rattle.message.specs.declared.state.OpenMessage.{OpenMessage}
use Rattle.message.specs.Message.{further}
use Rattle.message.specs.Asked.{asks}
use Rattle.message.specs.Words.{own_command, in_awaiting_status, on_word}
use Rattle.message.specs.Silence.{on_silence}
use Rattle.terminal.specs.State.{Card, with_message}
use Rattle.terminal.specs.Event.{word, silence, Outcome, quietly}
use Rattle.terminal.specs.WordStep.{word_done}
use Rattle.terminal.specs.SilenceStep.{silence_done}
use Rattle.terminal.specs.Machine.{step}
use Rattle.terminal_laws.specs.Written.{TableElsewhere}
use Rattle.terminal_laws.proofs.StepFrame.{word_step_lem, silence_step_lem}
use Rattle.rack.specs.Segment.{segment, Said, command_word, data_words, at_station}
use Rattle.rack.specs.Hearing.{Stamps, hears, turn_of}
use Rattle.rack.specs.Asked.{is_own}
use Rattle.rack.proofs.Terminal.Own.{strange_elsewhere}
use Rattle.rack.proofs.Terminal.Hear.{hears_then}
use Rattle.rack.proofs.Terminal.Taken.{AtItsData}
use Rattle.rack.proofs.Terminal.Ended.{Ended, words_then_silence}
use Rattle.rack.proofs.Terminal.Second.{card_at}

-- ---- the status

module _ (message : OpenMessage) (old : Card) (value : ℕ) where
  pub status_is_awaited : (time : ℕ)
      → step (silence message.line time) (card_at value SecondCommand message old)
      ≡ quietly (card_at value AwaitingStatus message old)
  unfolding silence_done on_silence further with_message
  status_is_awaited time =
      silence_step_lem (card_at value SecondCommand message old)
      (further SecondCommand (Some value) 0 message) refl message.line time
      {act = AwaitStatus} (rw (beq_same message.line))

  pub status_is_taken : (status time : ℕ) → address_of status ≡ address_of value
      → is_own status old ≡ false
      → step (word (command_word message.line false status time))
      (card_at value AwaitingStatus message old)
      ≡ quietly (card_at value Data message old)
  unfolding word_done on_word own_command in_awaiting_status further with_message
  status_is_taken status time same strange =
      word_step_lem (card_at value AwaitingStatus message old)
      (further AwaitingStatus (Some value) 0 message) refl
      (command_word message.line false status time) {act = TakeStatus}
      (rw (
        strange,
        beq_same message.line,
        eq-eqb (address_of status) (address_of value) same,
      ))

-- ---- the words behind it

module _ (message : OpenMessage) (old : Card) (value : ℕ) where
  -- what the end leaves does not hang on the second command
  ended_as_opened : (words : List ℕ) (outcome : Outcome)
      → Ended (further Data (Some value) 0 message) words (card_at value Data message old)
      outcome
      → Ended message words old outcome
  unfolding further with_message
  ended_as_opened words outcome ended =
      record {
        idle = ended.idle;
        station = ended.station;
        status = ended.status;
        stored = ended.stored;
        kept = ended.kept;
        silent = ended.silent;
        said = ended.said;
      }

  module _ (not_busy : message.busy ≡ false) (elsewhere : TableElsewhere (asks message) message)
      (in_memory : word_address message.block (the_cell block_cells) ≤ length old.ram)
      (words : List ℕ) (full : length words ≡ (asks message).takes) where
    at_data : AtItsData (further Data (Some value) 0 message) (card_at value Data message old)
    unfolding further with_message
    at_data = record { is_open = refl; in_data_lem = refl; none_yet = refl; not_busy = not_busy }

    words_end : (time : ℕ → ℕ) (place silence_time : ℕ)
        → Ended message words old
        (step (silence message.line silence_time)
        (hears (data_words message.line time place words) (card_at value Data message old)))
    unfolding further
    words_end time place silence_time =
        ended_as_opened words _
        (words_then_silence (further Data (Some value) 0 message)
        (card_at value Data message old) at_data words full elsewhere in_memory time place
        silence_time)

    -- the one who speaks has the address of the second command
    pub reply_ends : (stamps : Stamps) (speaker status : ℕ) → is_broadcast value ≡ false
        → address_of value ≢ old.core.station → speaker ≡ address_of value
        → address_of status ≡ speaker
        → Ended message words old
        (turn_of message.line stamps (Said speaker (segment status None words))
        (card_at value AwaitingStatus message old))
    unfolding turn_of at_station with_message
    reply_ends stamps speaker status to_one other is_sender is_status =
        let first = command_word message.line false status (stamps.word 0) in
        let behind = data_words message.line stamps.word 1 words in
        let same : address_of status ≡ address_of value = is_status ∙ is_sender in
        let strange : is_own status old ≡ false =
        strange_elsewhere status old (rw same to_one) (λ home. other (sym (home ∙ same))) in
        rw (ne_eqb speaker old.core.station (λ home. other (sym is_sender ∙ home)))
        (subst (λ (new : Card). Ended message words old
        (step (silence message.line stamps.silence) new))
        (sym (hears_then first behind (card_at value AwaitingStatus message old)
        (ap (λ (outcome : Outcome). outcome.card)
        (status_is_taken message old value status (stamps.word 0) same strange)) refl))
        (words_end stamps.word 1 stamps.silence))
