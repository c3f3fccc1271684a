-- What holds of each terminal, and a turn of all of them: stations stay different and on the bus.
-- Assumes nothing.
use mathlib.Core.Path.{◌≡◌, refl, ap, sym, ◌∙◌}
use mathlib.Core.Bool.{Bool}
use mathlib.Core.List.{List, ◌∷◌}
use Prim.Native.Nat.{ℕ}
use Rattle.terminal.specs.State.{Card}
use Rattle.terminal.specs.Event.{Outcome, quietly}
use Rattle.rack.specs.Segment.{Spoken}
use Rattle.rack.specs.Hearing.{Stamps, turn_of}
use Rattle.rack.specs.Bus.{turn_all}
use Rattle.rack.specs.Terminals.{Each, EachOf, Different, OnBus, here, there}

pub each_so : {Holds So : Card → Type 0} {terminals : List Card}
    → ((terminal : Card) → Holds terminal → So terminal)
    → Each Holds terminals → Each So terminals
each_so so Each.nobody = Each.nobody
each_so so (Each.each {terminal} holds rest) = Each.each (so terminal holds) (each_so so rest)

pub each_both : {Holds Also : Card → Type 0} {terminals : List Card}
    → Each Holds terminals → Each Also terminals
    → Each (λ terminal. Holds terminal × Also terminal) terminals
each_both Each.nobody Each.nobody = Each.nobody
each_both (Each.each holds rest) (Each.each also others) =
    Each.each (holds, also) (each_both rest others)

-- ---- a turn of all

module _ (line : Bool) (stamps : Stamps) (spoken : Spoken) where
  abbrev after : Card → Outcome
  after terminal = turn_of line stamps spoken terminal

  pub each_after : {Holds : Card → Type 0} {terminals : List Card}
      → Each (λ terminal. Holds (after terminal).card) terminals
      → Each Holds (turn_all line stamps spoken terminals)
  unfolding turn_all
  each_after Each.nobody = Each.nobody
  each_after (Each.each holds rest) = Each.each holds (each_after rest)

  pub each_of_after : {Holds : Card → Card → Type 0} {terminals : List Card}
      → Each (λ terminal. Holds terminal (after terminal).card) terminals
      → EachOf Holds terminals (turn_all line stamps spoken terminals)
  unfolding turn_all
  each_of_after Each.nobody = EachOf.nobody
  each_of_after (Each.each holds rest) = EachOf.each holds (each_of_after rest)

  -- all are as before
  pub all_quiet : {terminals : List Card}
      → Each (λ terminal. after terminal ≡ quietly terminal) terminals
      → turn_all line stamps spoken terminals ≡ terminals
  unfolding turn_all
  all_quiet Each.nobody = refl
  all_quiet (Each.each {terminal} {terminals} quiet rest) =
      ap (λ (any : Outcome). any.card ∷ turn_all line stamps spoken terminals) quiet
      ∙ ap (λ (others : List Card). terminal ∷ others) (all_quiet rest)

  -- ---- a terminal keeps its station

  abbrev pub KeepsStation : Card → Type 0
  KeepsStation terminal = (after terminal).card.core.station ≡ terminal.core.station

  pub different_after : {terminals : List Card} → Each KeepsStation terminals
      → Different terminals → Different (turn_all line stamps spoken terminals)
  unfolding turn_all
  different_after Each.nobody Different.nobody = Different.nobody
  different_after (Each.each keeps rest) (Different.each apart different) =
      Different.each
      (each_after
      (each_so (λ other both same. both.1 (sym both.0 ∙ same ∙ keeps)) (each_both rest apart)))
      (different_after rest different)

  pub on_bus_after : (station : ℕ) {terminals : List Card} → Each KeepsStation terminals
      → OnBus station terminals → OnBus station (turn_all line stamps spoken terminals)
  unfolding turn_all
  on_bus_after station Each.nobody on_bus = elim on_bus [ ]
  on_bus_after station (Each.each keeps rest) (here is) = here (keeps ∙ is)
  on_bus_after station (Each.each keeps rest) (there on_bus) =
      there (on_bus_after station rest on_bus)

-- two turns
pub each_of_two : (line : Bool) (stamps later : Stamps) (spoken then : Spoken)
    {Holds : Card → Card → Type 0} {terminals : List Card}
    → Each (λ terminal. Holds terminal
    (turn_of line later then (turn_of line stamps spoken terminal).card).card) terminals
    → EachOf Holds terminals (turn_all line later then (turn_all line stamps spoken terminals))
unfolding turn_all
each_of_two line stamps later spoken then Each.nobody = EachOf.nobody
each_of_two line stamps later spoken then (Each.each holds rest) =
    EachOf.each holds (each_of_two line stamps later spoken then rest)
