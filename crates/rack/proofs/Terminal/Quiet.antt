-- A terminal with nothing open that hears no own command is as before and silent, whoever speaks.
-- Assumes nothing.
use Rattle.std.proofs.Common.{None, Option, Some}
use mathlib.Core.Path.{◌≡◌, refl, ap, sym, subst, ◌∙◌}
use mathlib.Core.Logic.{◌≢◌}
use mathlib.Core.Bool.{Bool, true, false}
use mathlib.Core.List.{List, [], ◌∷◌}
use Prim.Native.Nat.{ℕ, suc, ◌≤◌}
use native.Mathlib.Decide.{ℕ_discrete}
use borrow.Author.Tests.{ne_eqb, eq-eqb}
use Rattle.bus.specs.declared.word.Word.{Word}
use Rattle.bus.specs.Command.{address_of}
use Rattle.bus.specs.Limits.{last_station}
use Rattle.message.specs.Words.{own_command}
use Rattle.terminal.specs.State.{Card}
use Rattle.terminal.specs.Event.{word, silence, quietly}
use Rattle.terminal.specs.WordStep.{word_met, word_step}
use Rattle.terminal.specs.SilenceStep.{silence_met, silence_step}
use Rattle.terminal.specs.Machine.{step}
use Rattle.rack.specs.Segment.{
  Segment,
  segment,
  Nothing,
  Given,
  Said,
  command_word,
  data_word,
  data_words,
  behind_first,
  words_on,
  at_station,
}
use Rattle.rack.specs.Hearing.{Stamps, hears, turn_of, said_in, said_after}
use Rattle.rack.specs.Asked.{is_own}
use Rattle.rack.proofs.Terminal.Own.{status_is_strange}
use Rattle.rack.proofs.Terminal.Hear.{hears_quietly}
use Rattle.message.specs.declared.state.OpenMessage.{OpenMessage}

-- no word of the segment is an own command
abbrev pub SecondStrange : Option ℕ → Card → Type 0
SecondStrange None old = Unit {0}
SecondStrange (Some value) old = is_own value old ≡ false

pub record Strange (said : Segment) (old : Card) : Type 0 where
  pub first : is_own said.first old ≡ false
  pub second : SecondStrange said.second old

pub quiet_says_nothing : (old : Card) → said_after (quietly old) ≡ Nothing
unfolding said_in
quiet_says_nothing old = refl

-- ---- a word, and a silence

module _ (old : Card) (idle : old.core.message ≡ None) where
  quiet_silence : (line : Bool) (time : ℕ) → step (silence line time) old ≡ quietly old
  unfolding step silence_step
  quiet_silence line time = ap (λ (met : Option OpenMessage). silence_met met line time old) idle

  quiet_word : (heard : Word) → own_command old.core.station old.core.flags heard ≡ false
      → step (word heard) old ≡ quietly old
  unfolding step word_step
  quiet_word heard strange =
      ap (λ (met : Option OpenMessage). word_met met heard old) idle ∙ rw strange

  pub quiet_command : (line joined : Bool) (value time : ℕ) → is_own value old ≡ false
      → step (word (command_word line joined value time)) old ≡ quietly old
  unfolding own_command
  quiet_command line joined value time strange =
      quiet_word (command_word line joined value time) strange

  -- ---- the words of a segment

  quiet_data : (values : List ℕ) (line : Bool) (time : ℕ → ℕ) (place : ℕ)
      → hears (data_words line time place values) old ≡ old
  unfolding hears data_words own_command
  quiet_data [] line time place = refl
  quiet_data (value ∷ values) line time place =
      hears_quietly (data_word line value (time place)) (data_words line time (suc place) values)
      old
      (quiet_word (data_word line value (time place)) refl)
      (quiet_data values line time (suc place))

  quiet_behind : (second : Option ℕ) (values : List ℕ) (line : Bool) (time : ℕ → ℕ)
      → SecondStrange second old → hears (behind_first line time second values) old ≡ old
  quiet_behind None values line time strange = quiet_data values line time 1
  quiet_behind (Some value) values line time strange =
      hears_quietly (command_word line true value (time 1)) (data_words line time 2 values) old
      (quiet_command line true value (time 1) strange) (quiet_data values line time 2)

  quiet_segment : (said : Segment) (line : Bool) (stamps : Stamps) → Strange said old
      → step (silence line stamps.silence) (hears (words_on line stamps.word said) old)
      ≡ quietly old
  quiet_segment said line stamps strange =
      ap (λ (new : Card). step (silence line stamps.silence) new)
      (hears_quietly (command_word line false said.first (stamps.word 0))
      (behind_first line stamps.word said.second said.words) old
      (quiet_command line false said.first (stamps.word 0) strange.first)
      (quiet_behind said.second said.words line stamps.word strange.second))
      ∙ quiet_silence line stamps.silence

-- ---- a turn

module _ (line : Bool) (stamps : Stamps) (old : Card) (idle : old.core.message ≡ None) where
  pub quiet_at_nothing : turn_of line stamps Nothing old ≡ quietly old
  unfolding turn_of at_station hears
  quiet_at_nothing = quiet_silence old idle line stamps.silence

  pub quiet_at_given : (said : Segment) → Strange said old
      → turn_of line stamps (Given said) old ≡ quietly old
  unfolding turn_of at_station
  quiet_at_given said strange = quiet_segment old idle said line stamps strange

  -- its own segment it does not hear
  pub quiet_at_own : (said : Segment)
      → turn_of line stamps (Said old.core.station said) old ≡ quietly old
  unfolding turn_of at_station hears
  quiet_at_own said =
      rw (eq-eqb old.core.station old.core.station refl)
      (quiet_silence old idle line stamps.silence)

  pub quiet_at_other : (speaker : ℕ) (said : Segment) → speaker ≢ old.core.station
      → Strange said old → turn_of line stamps (Said speaker said) old ≡ quietly old
  unfolding turn_of at_station
  quiet_at_other speaker said other strange =
      rw (ne_eqb speaker old.core.station other)
      (quiet_segment old idle said line stamps strange)

  -- a reply of any terminal, its own or another's: the status has the address of the one who speaks
  pub quiet_at_reply : (speaker status : ℕ) (words : List ℕ) → address_of status ≡ speaker
      → speaker ≤ last_station
      → turn_of line stamps (Said speaker (segment status None words)) old ≡ quietly old
  quiet_at_reply speaker status words is low =
      let reply : Segment = segment status None words in
      elim (ℕ_discrete speaker old.core.station) [
        | yes same ↦
            subst (λ (any : ℕ). turn_of line stamps (Said any reply) old ≡ quietly old) (sym same)
            (quiet_at_own reply)
        | no other ↦
            quiet_at_other speaker reply other (record {
              first = status_is_strange speaker status old is low other;
              second = tt;
            })
      ]
