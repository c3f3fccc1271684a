-- The claim that both ends hold the same, by what is asked, so that one thing can be left out at a
-- time; with all of it, it is the theorem. Assumes nothing.
use Rattle.std.proofs.Common.{None, Option, Some}
use mathlib.Core.Path.{◌≡◌}
use mathlib.Core.Bool.{Bool}
use mathlib.Core.List.{List, [], ◌∷◌}
use Prim.Native.Nat.{ℕ}
use Rattle.std.proofs.Common.{Option, Some, None}
use Rattle.terminal.specs.State.{Card}
use Rattle.exchange.specs.declared.order.Order.{Order}
use Rattle.controller.specs.Control.{line_in}
use Rattle.controller.specs.State.{Desk}
use Rattle.controller.specs.Start.{starting}
use Rattle.controller.specs.Actions.{start_action}
use Rattle.rack.specs.Hearing.{Stamps}
use Rattle.rack.specs.Bus.{Rack, rack, message}
use Rattle.rack.specs.Terminals.{Each, Different}
use Rattle.rack.specs.Asked.{IsIdle, Ready, ReadyFor, taken, FitOrder, AllAddressed}
use Rattle.rack.specs.SameWords.{Promised, BothEndsHoldTheSame}

-- ---- what is asked, each of six things by itself

abbrev pub Starts : Order → Desk → Type 0
Starts order desk = start_action desk ≡ starting order desk

abbrev pub AllThere : Order → List Card → Type 0
AllThere order terminals = AllAddressed order.row order.first order.second terminals

-- of a terminal that takes a command
abbrev pub WhereTaken : (Bool → ℕ → Card → Type 0) → Bool → Option ℕ → Card → Type 0
WhereTaken Prepared line None terminal = Unit {0}
WhereTaken Prepared line (Some command) terminal = Prepared line command terminal

pub record AskedBy (Begins : Order → Desk → Type 0) (Fit : Order → Type 0)
    (There : Order → List Card → Type 0) (Apart : List Card → Type 0) (Rests : Card → Type 0)
    (Prepared : Bool → ℕ → Card → Type 0) (order : Order) (old : Rack) : Type 0 where
  pub begins : Begins order old.desk
  pub fit : Fit order
  pub there : There order old.terminals
  pub apart : Apart old.terminals
  pub rests : Each Rests old.terminals
  pub prepared : Each (λ terminal. WhereTaken Prepared (line_in old.desk.state.control)
      (taken order terminal) terminal) old.terminals

abbrev pub Claim : (Order → Desk → Type 0) → (Order → Type 0) → (Order → List Card → Type 0)
    → (List Card → Type 0) → (Card → Type 0) → (Bool → ℕ → Card → Type 0) → Type 0
Claim Begins Fit There Apart Rests Prepared =
    (order : Order) (clock : ℕ → Stamps) (old : Rack)
    → AskedBy Begins Fit There Apart Rests Prepared order old
    → Promised order old (message clock old)

-- of one terminal
module _ {Begins : Order → Desk → Type 0} {Fit : Order → Type 0}
    {There : Order → List Card → Type 0} {Apart : List Card → Type 0} {Rests : Card → Type 0}
    {Prepared : Bool → ℕ → Card → Type 0} where
  pub asked_of_one : (order : Order) (desk : Desk) (terminal : Card)
      → Begins order desk → Fit order → There order (terminal ∷ []) → Apart (terminal ∷ [])
      → Rests terminal
      → WhereTaken Prepared (line_in desk.state.control) (taken order terminal) terminal
      → AskedBy Begins Fit There Apart Rests Prepared order (rack desk (terminal ∷ []))
  asked_of_one order desk terminal begins fit there apart rests prepared =
      record {
        begins = begins;
        fit = fit;
        there = there;
        apart = apart;
        rests = Each.each rests Each.nobody;
        prepared = Each.each prepared Each.nobody;
      }

  -- of two
  pub asked_of_two : (order : Order) (desk : Desk) (terminal other : Card)
      → Begins order desk → Fit order → There order (terminal ∷ other ∷ [])
      → Apart (terminal ∷ other ∷ []) → Rests terminal → Rests other
      → WhereTaken Prepared (line_in desk.state.control) (taken order terminal) terminal
      → WhereTaken Prepared (line_in desk.state.control) (taken order other) other
      → AskedBy Begins Fit There Apart Rests Prepared order (rack desk (terminal ∷ other ∷ []))
  asked_of_two order desk terminal other begins fit there apart rests also prepared ready =
      record {
        begins = begins;
        fit = fit;
        there = there;
        apart = apart;
        rests = Each.each rests (Each.each also Each.nobody);
        prepared = Each.each prepared (Each.each ready Each.nobody);
      }

-- ---- with all of it, this is the theorem

each_so : {Holds Also : Card → Type 0} → ((terminal : Card) → Holds terminal → Also terminal)
    → {terminals : List Card} → Each Holds terminals → Each Also terminals
each_so so Each.nobody = Each.nobody
each_so so (Each.each first others) = Each.each (so _ first) (each_so so others)

ready_is_prepared : (line : Bool) (command : Option ℕ) (terminal : Card)
    → WhereTaken Ready line command terminal → ReadyFor line command terminal
ready_is_prepared line None terminal prepared = tt
ready_is_prepared line (Some command) terminal prepared = prepared

prepared_is_ready : (line : Bool) (command : Option ℕ) (terminal : Card)
    → ReadyFor line command terminal → WhereTaken Ready line command terminal
prepared_is_ready line None terminal ready = tt
prepared_is_ready line (Some command) terminal ready = ready

the_theorem_is_the_claim : BothEndsHoldTheSame
    → Claim Starts FitOrder AllThere Different IsIdle Ready
the_theorem_is_the_claim theorem order clock old asked =
    theorem order clock old
    (record {
      starts = asked.begins;
      fit = asked.fit;
      addressed = asked.there;
      different = asked.apart;
      idle = asked.rests;
      ready =
          each_so (λ terminal. ready_is_prepared (line_in old.desk.state.control)
          (taken order terminal) terminal) asked.prepared;
    })

the_claim_is_the_theorem : Claim Starts FitOrder AllThere Different IsIdle Ready
    → BothEndsHoldTheSame
the_claim_is_the_theorem claim order clock old asked =
    claim order clock old
    (record {
      begins = asked.starts;
      fit = asked.fit;
      there = asked.addressed;
      apart = asked.different;
      rests = asked.idle;
      prepared =
          each_so (λ terminal. prepared_is_ready (line_in old.desk.state.control)
          (taken order terminal) terminal) asked.ready;
    })
