-- The numbers of the refusals: document 01's table, and document 02's. Definitions only.
-- Assumes nothing.
use Rattle.std.specs.Prelude.{ℕ, Option, Some, None, Result, Ok, Err}
use Rattle.refusals.specs.declared.Refusal.{Refusal}
use Rattle.refusals.specs.declared.Refusal.TheVariants.{
  Memory,
  Station,
  TableBlock,
  State,
  Cut,
  Tag,
  Length,
  Value,
  Order,
  Room,
  Format,
}

abbrev pub number_of : Refusal → ℕ
number_of Memory = 1
number_of Station = 2
number_of TableBlock = 3
number_of State = 4
number_of Cut = 5
number_of Tag = 6
number_of Length = 7
number_of Value = 8
number_of Order = 9
number_of Room = 10
number_of Format = 14

-- 0 where nothing is refused
abbrev pub refusal_in : Option Refusal → ℕ
refusal_in None = 0
refusal_in (Some refusal) = number_of refusal

-- 0 where there is an outcome
abbrev pub refused : {A : Type 0} → Result A Refusal → ℕ
refused (Ok outcome) = 0
refused (Err refusal) = number_of refusal

-- nothing where it is refused
abbrev pub outcome_in : {A : Type 0} → Result (Option A) Refusal → Option A
outcome_in (Ok outcome) = outcome
outcome_in (Err refusal) = None
