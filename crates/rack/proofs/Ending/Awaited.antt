-- A terminal that awaits the status of another takes it, or closes: either way its message is then
-- in its data or none is open. Assumes nothing.
use Rattle.std.proofs.Common.{None, Some}
use Rattle.std.specs.Option.{unwrap_or}
use mathlib.Core.Path.{◌≡◌, refl, sym, subst}
use mathlib.Core.Bool.{Bool, true, false, beq}
use mathlib.Core.List.{List}
use Prim.Native.Nat.{ℕ}
use lib.Dec.{eqb}
use Rattle.rules.proofs.Cases.{beq_same}
use Rattle.rules.proofs.Choices.{by_test}
use Rattle.bus.specs.declared.word.Word.{Word}
use Rattle.bus.specs.Command.{address_of}
use Rattle.message.specs.declared.state.Stage.{Stage}
use Rattle.message.specs.declared.state.OpenMessage.{OpenMessage}
use Rattle.message.specs.Asked.{asks}
use Rattle.message.specs.Words.{own_command, in_awaiting_status, word_in_stage, on_word}
use Rattle.terminal.specs.State.{Card}
use Rattle.rack.specs.Segment.{segment, command_word, words_on}
use Rattle.rack.specs.Hearing.{hears}
use Rattle.rack.specs.Asked.{is_own}
use Rattle.rack.proofs.Ending.Stages.{OfCommand, Waiting}
use Rattle.rack.proofs.Ending.Met.{Met, Needs, word_met_lem, data_met}

module _ (line : Bool) (first status : ℕ) (message : OpenMessage)
    (waiting : Waiting first message.command message.stage) where
  abbrev heard : ℕ → Word
  heard time = command_word line false status time

  status_needs : (station flags time : ℕ) → message.line ≡ line
      → own_command station flags (heard time) ≡ false
      → Needs line (OfCommand first) message (heard time)
      (on_word station flags (asks message) message (heard time))
  unfolding on_word in_awaiting_status
  status_needs station flags time on_line strange =
      let same : beq line message.line ≡ true = rw on_line (beq_same line) in
      rw (strange, same)
      (subst (λ (stage : Stage). Needs line (OfCommand first) message (heard time)
      (word_in_stage stage station (asks message) message (heard time))) (sym waiting.awaits)
      (by_test (Needs line (OfCommand first) message (heard time))
      (eqb (address_of status) (address_of (unwrap_or message.second 0)))
      (λ _. record { is = waiting.is; plain = tt }) (λ _. tt)))

  pub reply_met : (words : List ℕ) (time : ℕ → ℕ) (now : Card)
      → now.core.message ≡ Some message → message.line ≡ line → is_own status now ≡ false
      → Met line (OfCommand first)
      (hears (words_on line time (segment status None words)) now)
  unfolding hears own_command
  reply_met words time now is on_line strange =
      data_met line (OfCommand first) words time 1 _
      (word_met_lem line (OfCommand first) message (heard (time 0)) now is on_line refl
      (status_needs now.core.station now.core.flags (time 0) on_line strange))
