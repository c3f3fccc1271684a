-- The words of a segment, one after the other, are a run of the terminal; so what stays after every
-- run stays after every turn, whoever speaks. Assumes nothing.
use mathlib.Core.Path.{◌≡◌, refl, ap, sym, subst, ◌∙◌}
use mathlib.Core.Bool.{Bool}
use mathlib.Core.List.{List, [], ◌∷◌, map}
use Prim.Native.Nat.{◌<◌}
use native.Mathlib.Omega.{arith}
use Rattle.bus.specs.declared.word.Word.{Word}
use Rattle.terminal.specs.State.{Card}
use Rattle.terminal.specs.Event.{word, silence, Outcome, quietly}
use Rattle.terminal.specs.Machine.{step, run}
use Rattle.terminal_laws.specs.AtRest.{WholeAndFit}
use Rattle.terminal_laws.specs.OwnStatus.{OwnStatus}
use Rattle.terminal_laws.proofs.FitParts.{fit_card_parts, fit_core_parts}
use Rattle.terminal_laws.proofs.FitLaws.{FitEvent, AllFit}
use Rattle.terminal_laws.proofs.RestLaws.{whole_and_fit_stays, whole_and_fit_run}
use Rattle.terminal_laws.proofs.StatusLaws.{own_status_stays, own_status_run}
use Rattle.rack.specs.Segment.{Spoken, at_station}
use Rattle.rack.specs.Hearing.{Stamps, hears, turn_of}

-- ---- a word, then the others

module _ (heard : Word) (words : List Word) (old : Card) where
  pub hears_then : {new end : Card} → (step (word heard) old).card ≡ new → hears words new ≡ end
      → hears (heard ∷ words) old ≡ end
  unfolding hears
  hears_then one others = ap (λ (next : Card). hears words next) one ∙ others

  pub hears_quietly : step (word heard) old ≡ quietly old → hears words old ≡ old
      → hears (heard ∷ words) old ≡ old
  hears_quietly one others = hears_then (ap (λ (outcome : Outcome). outcome.card) one) others

-- ---- a turn is a run

pub hears_is_run : (words : List Word) (old : Card) → hears words old ≡ run (map word words) old
unfolding hears run
hears_is_run [] old = refl
hears_is_run (heard ∷ words) old = hears_is_run words (step (word heard) old).card

words_in_order : (words : List Word) → AllFit (map word words)
unfolding AllFit FitEvent
words_in_order [] = tt
words_in_order (heard ∷ words) = (tt, words_in_order words)

-- ---- what stays

station_fits : (old : Card) → WholeAndFit old → old.core.station < 32
station_fits old sound =
    omega (
      arith,
      (fit_core_parts old.core (fit_card_parts old sound.fit).core).station,
    )

module _ (words : List Word) (old : Card) (sound : WholeAndFit old) where
  pub hears_whole_and_fit : WholeAndFit (hears words old)
  hears_whole_and_fit =
      subst WholeAndFit (sym (hears_is_run words old))
      (whole_and_fit_run (map word words) old (words_in_order words) sound)

  hears_own_status : OwnStatus old.core → OwnStatus (hears words old).core
  hears_own_status own =
      subst (λ (new : Card). OwnStatus new.core) (sym (hears_is_run words old))
      (own_status_run old (station_fits old sound) own (map word words))

module _ (line : Bool) (stamps : Stamps) (spoken : Spoken) (old : Card) (sound : WholeAndFit old)
  where
    abbrev heard_by : List Word
    heard_by = at_station line stamps.word spoken old.core.station

    pub turn_whole_and_fit : WholeAndFit (turn_of line stamps spoken old).card
    unfolding turn_of FitEvent
    turn_whole_and_fit =
        whole_and_fit_stays (silence line stamps.silence) (hears heard_by old) tt
        (hears_whole_and_fit heard_by old sound)

    pub turn_own_status : OwnStatus old.core
        → OwnStatus (turn_of line stamps spoken old).card.core
    unfolding turn_of
    turn_own_status own =
        own_status_stays (hears heard_by old)
        (station_fits (hears heard_by old) (hears_whole_and_fit heard_by old sound))
        (hears_own_status heard_by old sound own) (silence line stamps.silence)
