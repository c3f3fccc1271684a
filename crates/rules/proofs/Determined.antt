-- What it means that a contract allows one outcome alone. It is said of the contract as Rattle
-- reads it (a function's generated `Reads.Post`), so nothing is copied from the source.
-- Assumes nothing.
use mathlib.Core.Path.{◌≡◌, sym, ◌∙◌}
use mathlib.Core.List.{List}
use Prim.Native.Nat.{ℕ}
use borrow.Fn.Kinds.{ParamKind, ResultKind, Out, Dens, res_t, ended_of}
use denote.Triple.Clauses.{AtExit}
use contract.Lifetimes.{Lfts}

module _ (n : ℕ) (ps : List (ParamKind n)) (r : ResultKind n) (post : Out n ps r) where
  -- for each choice of arguments, any two outcomes that the contract allows look the same, where
  -- `seen` says what a caller sees of a result and of the parameters at exit
  abbrev pub DeterminedAs : (A : Type 0)
      → ((κs : Lfts n) → (res_t r κs).Denot → AtExit (ended_of n ps r) κs → A) → Type 0
  DeterminedAs A seen =
      (κs : Lfts n) (arguments : Dens κs ps)
      (result result' : (res_t r κs).Denot) (exit exit' : AtExit (ended_of n ps r) κs)
      → post κs arguments result exit → post κs arguments result' exit'
      → seen κs result exit ≡ seen κs result' exit'

  -- the same of a function that is lent nothing: a caller sees the result
  abbrev pub Determined : Type 0
  Determined =
      (κs : Lfts n) (arguments : Dens κs ps)
      (result result' : (res_t r κs).Denot) (exit exit' : AtExit (ended_of n ps r) κs)
      → post κs arguments result exit → post κs arguments result' exit' → result ≡ result'

-- two values that are what a definition gives are the same: how an equation determines
pub same : {A : Type 0} {defined one other : A} → one ≡ defined → other ≡ defined → one ≡ other
same is is' = is ∙ sym is'
