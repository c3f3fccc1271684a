-- Where the outcome of each later event is the same, the cards at the end are alike: `left_alike`.
-- Assumes nothing.
use mathlib.Core.Bool.{Bool}
use mathlib.Core.List.{List, [], ◌∷◌}
use Rattle.card.specs.declared.place.Block.{Block}
use Rattle.terminal.specs.State.{Card}
use Rattle.terminal.specs.Event.{Event, word}
use Rattle.terminal.specs.Machine.{step, run}
use Rattle.terminal_laws.specs.OneBlock.{
  still_before,
  Alike,
  Later,
  SameAfter,
  BothOver,
  closed,
  superseded,
}

module _ (Spent : Block → Type 0) where
  -- cards that are alike before the later events are alike after them
  alike_after : (before : Bool) (later : List Event) (here there : Card)
      → Later Spent before later here there → Alike Spent here there
      → Alike Spent (run later here) (run later there)
  unfolding Later run
  alike_after before [] here there same_later alike = alike
  alike_after before (told ∷ later) here there same_later alike =
      alike_after (still_before before (step told here).opened) later
      (step told here).card (step told there).card same_later.1 same_later.0.cards

  -- before them they are where both messages have closed; else there is a later event, and after
  -- the first of them they are
  pub left_alike : (later : List Event) (here there : Card)
      → BothOver here there later → SameAfter Spent later here there
      → Alike Spent (run later here) (run later there)
  unfolding Later run
  left_alike later here there (closed idle idle') same_after =
      alike_after _ later here there same_after.later (same_after.at_once idle idle')
  left_alike _ here there (superseded {after = later} command opens loose) same_after =
      alike_after _ later (step (word command) here).card (step (word command) there).card
      same_after.later.1 same_after.later.0.cards
