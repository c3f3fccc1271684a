-- The replies that a turn brings: none where each terminal is silent; where only the terminal of
-- one station may speak, that one's, and the terminal is found. Assumes nothing.
use mathlib.Core.Path.{◌≡◌, refl, sym, ◌∙◌}
use mathlib.Core.Logic.{◌≢◌}
use mathlib.Core.Bool.{Bool}
use mathlib.Core.List.{List, []}
use Prim.Native.Nat.{ℕ}
use Rattle.terminal.specs.State.{Card}
use Rattle.terminal.specs.Event.{Outcome}
use Rattle.rack.specs.Segment.{Spoken, Nothing}
use Rattle.rack.specs.Hearing.{Stamps, turn_of, said_after}
use Rattle.rack.specs.Bus.{with_reply, replies_to}
use Rattle.rack.specs.Terminals.{Each, Different, OnBus, here, there}
use Rattle.rack.proofs.Lists.Each.{each_so, each_both}

module _ (line : Bool) (stamps : Stamps) (spoken : Spoken) where
  abbrev after : Card → Outcome
  after terminal = turn_of line stamps spoken terminal

  pub none_replies : {terminals : List Card}
      → Each (λ terminal. said_after (after terminal) ≡ Nothing) terminals
      → replies_to line stamps spoken terminals ≡ []
  unfolding replies_to
  none_replies Each.nobody = refl
  none_replies (Each.each silent rest) = rw silent (none_replies rest)

  -- silent, unless of that station
  abbrev pub SilentElsewhere : ℕ → Card → Type 0
  SilentElsewhere station terminal =
      terminal.core.station ≢ station → said_after (after terminal) ≡ Nothing

  -- the terminal of a station: what it says is the only reply
  pub record Speaker (Holds : Card → Type 0) (station : ℕ) (terminals : List Card) : Type 0 where
    pub speaker : Card
    pub holds : Holds speaker
    pub is : speaker.core.station ≡ station
    pub heard : replies_to line stamps spoken terminals ≡ with_reply (said_after (after speaker)) []
    pub only : Each (λ terminal. terminal.core.station ≡ station → terminal ≡ speaker) terminals

  pub find_speaker : (station : ℕ) {Holds : Card → Type 0} {terminals : List Card}
      → Each Holds terminals → Each (SilentElsewhere station) terminals → Different terminals
      → OnBus station terminals → Speaker Holds station terminals
  unfolding replies_to
  find_speaker station Each.nobody silence different on_bus = elim on_bus [ ]
  find_speaker station (Each.each {terminal} {terminals} holds hold) (Each.each silent silence)
      (Different.each apart different) (here is) =
      let others : Each (λ other. other.core.station ≢ station) terminals =
      each_so (λ other other_apart same. other_apart (same ∙ sym is)) apart in
      record {
        speaker = terminal;
        holds = holds;
        is = is;
        heard =
            rw (none_replies
            (each_so (λ other both. both.0 both.1) (each_both silence others)));
        only = Each.each (λ _. refl)
            (each_so (λ other other_apart same. absurd (other_apart same)) others);
      }
  find_speaker station (Each.each {terminal} {terminals} holds hold) (Each.each silent silence)
      (Different.each apart different) (there on_bus) =
      let found = find_speaker station (each_both hold apart) silence different on_bus in
      let other : terminal.core.station ≢ station =
      λ same. found.holds.1 (found.is ∙ sym same) in
      record {
        speaker = found.speaker;
        holds = found.holds.0;
        is = found.is;
        heard = rw (silent other) found.heard;
        only = Each.each (λ same. absurd (other same)) found.only;
      }
