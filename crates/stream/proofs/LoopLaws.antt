-- The loop of a program: turn after turn, over whatever steady course. Assumes nothing.
use mathlib.Core.Path.{◌≡◌, refl, subst, ◌∙◌}
use mathlib.Core.Bool.{Bool, true, false}
use mathlib.Core.List.{List, []}
use Prim.Native.Nat.{ℕ, suc, ◌+◌, ◌≤◌}
use lib.ListN.{length}
use Rattle.std.specs.Prelude.{Option, Result, Ok, Err}
use Rattle.std.proofs.Math.Numerals.{add-one}
use Rattle.rules.proofs.Clash.{clash}
use Rattle.pieces.specs.Course.{Course}
use Rattle.pieces.specs.Steady.{Steady}
use Rattle.stream.specs.Progress.{buffer_bytes, starts}
use Rattle.stream.specs.Came.{all_turns, Came, spent}
use Rattle.stream.specs.Known.{PrintsKnown}
use Rattle.stream.specs.AsCoded.Turns.{Left, nothing_left, Turned}
use Rattle.stream.proofs.KnownLaws.{consumes_nothing, appends_nothing}
use Rattle.stream.proofs.ProgressLaws.{few_turns}
use Rattle.stream.proofs.TurnLaws.{Known, Reached, Ended, After, after_turn}

-- so far a steady course has come, whose fields are no longer than the window
pub record Runs {Run : Type 0} (course : Course Run) (start : Run) (before : Known) (turns : ℕ)
    (new : Run) (left : Left) (known : Known) (out : List ℕ) : Type 0 where
  pub out_size : length out ≡ buffer_bytes
  pub reached_lem : (longest : ℕ) → Steady course longest → longest ≤ buffer_bytes
      → Reached course start before turns new left known

module _ {Run : Type 0} (course : Course Run) (start : Run) (before : Known) where
  pub runs_at_start : (out : List ℕ) → length out ≡ buffer_bytes
      → Runs course start before 0 start nothing_left before out
  runs_at_start out size =
      record {
        out_size = size;
        reached_lem =
            λ longest steady short. record {
              input = [];
              text = [];
              progressed = starts;
              read = consumes_nothing before.given;
              at_end = λ ended. absurd (clash (cc));
              wrote = appends_nothing before.held;
            };
      }

  module _ {Error : Type 0} {turns : ℕ} {old new : Run} {left left' : Left} {known : Known}
      {out : List ℕ} (so_far : Runs course start before turns old left known out) (known' : Known)
      (told : Result Bool Error)
      (turned_lem : Turned course old left out new left' known.given known'.given known.held
      known'.held told) where
    -- what a turn leads to
    runs_to : {told' : Result Bool Error} → told ≡ told' → (longest : ℕ) → Steady course longest
        → longest ≤ buffer_bytes → After course start before (suc turns) new left' known' told'
    runs_to is_told longest steady short =
        subst (After course start before (suc turns) new left' known') is_told
        (after_turn course steady short out so_far.out_size
        (so_far.reached_lem longest steady short) turned_lem)

    pub runs_on : (out' : List ℕ) → length out' ≡ length out → told ≡ Ok false
        → Runs course start before (turns + 1) new left' known' out'
    runs_on out' same is_told =
        rw add-one record {
          out_size = same ∙ so_far.out_size;
          reached_lem = runs_to is_told;
        }

    pub runs_whole : told ≡ Ok true → (longest : ℕ) → Steady course longest
        → longest ≤ buffer_bytes → Ended course start before new known'
    runs_whole is_told = runs_to is_told

    pub runs_off : (error : Error) → told ≡ Err error → (longest : ℕ) → Steady course longest
        → longest ≤ buffer_bytes → Came course start new false
    runs_off error is_told = runs_to is_told

  -- no turn is left
  pub runs_out : {turns : ℕ} {new : Run} {left : Left} {known : Known} {out : List ℕ}
      → Runs course start before turns new left known out → turns ≡ all_turns
      → (longest : ℕ) → Steady course longest → longest ≤ buffer_bytes → Came course start new false
  runs_out so_far all longest steady short =
      let reached = so_far.reached_lem longest steady short in
      let progressed = rw all at reached.progressed in
      spent _ progressed (few_turns course steady progressed) refl

-- ---- where it began

module _ {Run : Type 0} {course : Course Run} {start start' new : Run} {whole : Bool}
    (same : start ≡ start') where
  pub came_from : Came course start new whole → Came course start' new whole
  came_from = subst (λ (any : Run). Came course any new whole) same

  pub known_from : {given held held' : Option (List ℕ)}
      → PrintsKnown course start new whole given held held'
      → PrintsKnown course start' new whole given held held'
  known_from {given} {held} {held'} =
      subst (λ (any : Run). PrintsKnown course any new whole given held held') same
