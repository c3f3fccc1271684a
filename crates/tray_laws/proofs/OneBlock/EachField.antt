-- The theorem at the end of each later field: `one_block_each_field`. Two recordings that are cut
-- there are two such recordings, so that runs of them print and leave the same. Assumes nothing.
use mathlib.Core.Path.{sym, ap, subst, ◌∙◌}
use mathlib.Core.List.{List, [], ◌∷◌, ◌++◌, append_assoc}
use Prim.Native.Nat.{ℕ}
use Rattle.bus.specs.declared.word.Word.{Word}
use Rattle.card.specs.declared.place.Block.{Block}
use Rattle.terminal.specs.State.{Card}
use Rattle.terminal.specs.Event.{Event}
use Rattle.terminal.specs.Machine.{step}
use Rattle.terminal_laws.specs.OneBlock.{BothOver, closed, superseded, Spared, BrokenMessage}
use Rattle.recording.specs.Seen.{nothing_seen}
use Rattle.tray.specs.Happening.{Happening, setup}
use Rattle.tray_laws.specs.Told.{Tells, CutTelling}
use Rattle.tray_laws.specs.OneBlock.{events, up_to, card_after, BrokenRecording, SameUpTo}
use Rattle.tray_laws.proofs.ToldLaws.{cut_telling}
use Rattle.tray_laws.proofs.OneBlock.Printing.{events_of_append}
use Rattle.tray_laws.proofs.OneBlock.Theorem.{one_block_recordings}

-- ---- what is asked of all later events is asked of the first ones

both_over_sooner : {here there : Card} (told : Event) (now rest : List Event)
    → BothOver here there ((told ∷ now) ++ rest) → BothOver here there (told ∷ now)
both_over_sooner told now rest (closed idle idle') = closed idle idle'
both_over_sooner _ now rest (superseded command opens loose) = superseded command opens loose

spared_sooner : (Spent : Block → Type 0) (now rest : List Event) (old : Card)
    → Spared Spent (now ++ rest) old → Spared Spent now old
unfolding Spared
spared_sooner Spent [] rest old spared = tt
spared_sooner Spent (told ∷ now) rest old spared =
    (spared.0, spared.1, spared_sooner Spent now rest (step told old).card spared.2)

broken_sooner : (old : Card) (heard : Word) (one two : List Event) (told : Event)
    (now rest : List Event) → BrokenMessage old heard one two ((told ∷ now) ++ rest)
    → BrokenMessage old heard one two (told ∷ now)
broken_sooner old heard one two told now rest broken =
    record {
      receives = broken.receives;
      opens = broken.opens;
      calm_one = broken.calm_one;
      calm_two = broken.calm_two;
      both_over = both_over_sooner told now rest broken.both_over;
      spared = spared_sooner _ (told ∷ now) rest _ broken.spared;
    }

-- ---- at each field

-- a recording cut there
cut_there : {bytes : List ℕ} (station table flags : ℕ) (sooner now rest : List Event)
    → Tells nothing_seen bytes (setup station table flags ∷ events (sooner ++ (now ++ rest)))
    → CutTelling nothing_seen bytes (setup station table flags ∷ events (sooner ++ now))
    (events rest)
cut_there {bytes} station table flags sooner now rest tells =
    cut_telling (setup station table flags ∷ events (sooner ++ now)) (events rest)
    (subst (λ (told : List Happening). Tells nothing_seen bytes (setup station table flags ∷ told))
    (ap events (sym (append_assoc sooner now rest)) ∙ events_of_append (sooner ++ now) rest)
    tells)

module _ (ram : List ℕ) (station table flags : ℕ) (one two : List ℕ) (earlier : List Event)
    (heard : Word) (told_one told_two : List Event) (told : Event) (now rest : List Event) where
  pub one_block_each_field :
      BrokenRecording ram station table flags one two earlier heard told_one told_two
      ((told ∷ now) ++ rest)
      → SameUpTo ram station table flags one two earlier heard told_one told_two (told ∷ now) rest
  one_block_each_field recordings =
      let met = card_after ram station table flags earlier in
      let cut_one =
      cut_there station table flags (up_to earlier heard told_one) (told ∷ now) rest
      recordings.one_accepted in
      let cut_two =
      cut_there station table flags (up_to earlier heard told_two) (told ∷ now) rest
      recordings.two_accepted in
      record {
        cut_one = cut_one;
        cut_two = cut_two;
        same =
            one_block_recordings ram station table flags cut_one.front cut_two.front earlier
            heard told_one told_two (told ∷ now)
            (record {
              one_accepted = cut_one.front_tells;
              two_accepted = cut_two.front_tells;
              broken =
                  broken_sooner met heard told_one told_two told now rest recordings.broken;
            });
      }
