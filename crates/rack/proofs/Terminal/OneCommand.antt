-- A command that is given alone, with its data words behind it, is taken in one turn. Assumes
-- nothing.
use Rattle.std.proofs.Common.{None}
use mathlib.Core.Path.{◌≡◌, refl, sym, subst}
use mathlib.Core.Bool.{Bool, true, false}
use mathlib.Core.List.{List}
use Prim.Native.Nat.{ℕ}
use lib.ListN.{length}
use Rattle.message.specs.Asked.{asked_of}
use Rattle.terminal.specs.State.{Card, with_message, with_last, with_status}
use Rattle.terminal.specs.Opening.{opened_message, opened_core, opening}
use Rattle.terminal.specs.Event.{silence}
use Rattle.terminal.specs.Machine.{step}
use Rattle.terminal_laws.proofs.RestLaws.{opened_block_in_memory}
use Rattle.rack.specs.Segment.{segment, Given, command_word, data_words, at_station}
use Rattle.rack.specs.Hearing.{Stamps, hears, turn_of}
use Rattle.rack.specs.Asked.{IsIdle, Ready, is_own}
use Rattle.rack.proofs.Terminal.Took.{FitCommand, Took}
use Rattle.rack.proofs.Terminal.Hear.{hears_then, turn_whole_and_fit, turn_own_status}
use Rattle.rack.proofs.Terminal.Ended.{Ended, words_then_silence}
use Rattle.rack.proofs.Terminal.Opened.{
  message_of,
  opened_card,
  own_opens,
  opened_at_data,
  took_at_end,
}

-- where the message is opened, its words come, and the silence
pub opened_ends : (line joined : Bool) (command time : ℕ) (old : Card) (words : List ℕ)
    → FitCommand command → length words ≡ (asked_of command).takes
    → IsIdle old → Ready line command old → (times : ℕ → ℕ) (place silence_time : ℕ)
    → Ended (message_of line joined command time old) words
    (opened_card line joined command time old)
    (step (silence line silence_time)
    (hears (data_words line times place words) (opened_card line joined command time old)))
unfolding opening opened_core opened_message with_message with_last with_status
opened_ends line joined command time old words fit full idle ready times place silence_time =
    words_then_silence (message_of line joined command time old)
    (opened_card line joined command time old)
    (opened_at_data line joined command time old fit.legal ready.not_busy) words full
    ready.not_table
    (opened_block_in_memory old idle.rest.whole_and_fit (command_word line joined command time))
    times place silence_time

pub command_is_taken : (line : Bool) (stamps : Stamps) (command : ℕ) (words : List ℕ) (old : Card)
    → FitCommand command → length words ≡ (asked_of command).takes
    → IsIdle old → is_own command old ≡ true → Ready line command old
    → Took command words old (turn_of line stamps (Given (segment command None words)) old)
unfolding turn_of at_station
command_is_taken line stamps command words old fit full idle own ready =
    let sound = idle.rest.whole_and_fit in
    let time : ℕ = stamps.word 0 in
    let spoken = Given (segment command None words) in
    let behind = data_words line stamps.word 1 words in
    took_at_end line false command time old words (turn_of line stamps spoken old) fit ready
    (turn_whole_and_fit line stamps spoken old sound)
    (turn_own_status line stamps spoken old sound idle.status)
    (subst (λ (new : Card). Ended (message_of line false command time old) words
    (opened_card line false command time old) (step (silence line stamps.silence) new))
    (sym (hears_then (command_word line false command time) behind old
    (own_opens line false command time old idle.rest.idle own) refl))
    (opened_ends line false command time old words fit full idle ready stamps.word 1
    stamps.silence))
