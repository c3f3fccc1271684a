-- What a whole run has printed and left, what every run keeps, and how much was read where no turn
-- is left. Assumes nothing.
use mathlib.Core.Path.{◌≡◌, refl, sym, subst}
use mathlib.Core.Bool.{Bool, true}
use mathlib.Core.List.{List, ◌++◌}
use Prim.Native.Nat.{ℕ, ◌≤◌}
use native.Mathlib.Omega.{arith}
use lib.ListN.{length}
use Rattle.rules.proofs.Clash.{clash}
use Rattle.pieces.specs.declared.stop.Stop.TheVariants.{Over}
use Rattle.pieces.specs.Course.{Course}
use Rattle.pieces.specs.Whole.{whole, whole_from}
use Rattle.pieces.specs.Steady.{Steady, KeptBy}
use Rattle.pieces.specs.AsCoded.Pieces.{lines_put, Finished}
use Rattle.pieces.proofs.PieceLaws.{finished_prints}
use Rattle.pieces.proofs.KeptLaws.{call_kept, streamed_kept}
use Rattle.stream.specs.Progress.{Far, Progressed}
use Rattle.stream.specs.Came.{
  LastCall,
  the_call,
  all_turns,
  Came,
  finished,
  broken_off,
  unread,
  spent,
}
use Rattle.stream.proofs.ProgressLaws.{progressed_streamed, few_turns}

-- a run is finished that has printed and left what the definition makes of its input
pub record PrintedWhole {Run : Type 0} (course : Course Run) (start new : Run) : Type 0 where
  pub input : List ℕ
  pub text : List ℕ
  pub is_finished : Finished course start input text new
  pub as_defined : whole text new ≡ whole_from course start input

module _ {Run : Type 0} (course : Course Run) {longest : ℕ} (steady : Steady course longest)
    {start new : Run} where
  -- a run whose last call is over is finished
  is_finished : (last : LastCall course start new) → (the_call last).stop ≡ Over
      → Finished course start last.before.input
      (last.before.text ++ lines_put (the_call last)) new
  is_finished last is_over =
      record {
        ended = last.before.ended;
        before = last.before.text;
        old = last.before.run;
        window = last.before.window;
        out = last.out;
        streamed = progressed_streamed course steady last.progressed;
        is_over = is_over;
        is_text = refl;
        is_new = last.is_new;
      }

  -- a whole run has printed what the definition makes of its input, and left what it leaves
  pub whole_run_prints : Came course start new true → PrintedWhole course start new
  whole_run_prints came = by_end true refl came where
    by_end : (told : Bool) → told ≡ true → Came course start new told
        → PrintedWhole course start new
    by_end _ is (finished last is_over) =
        let done = is_finished last is_over in
        record {
          input = last.before.input;
          text = last.before.text ++ lines_put (the_call last);
          is_finished = done;
          as_defined = finished_prints course steady start _ _ new done;
        }
    by_end _ is (broken_off _ _) = absurd (clash (cc))
    by_end _ is (unread _ _) = absurd (clash (cc))
    by_end _ is (spent _ _ _ _) = absurd (clash (cc))

  -- ---- what every field keeps, every run keeps

  module _ (Claim : Run → Type 0) (kept : KeptBy course Claim) (at_start : Claim start) where
    last_kept : LastCall course start new → Claim new
    last_kept last =
        subst Claim (sym last.is_new)
        (call_kept course Claim kept last.before.window last.before.ended
        last.before.run last.out
        (streamed_kept course Claim kept at_start
        (progressed_streamed course steady last.progressed)))

    pub came_kept : {told : Bool} → Came course start new told → Claim new
    came_kept (finished last _) = last_kept last
    came_kept (broken_off last _) = last_kept last
    came_kept (unread last _) = last_kept last
    came_kept (spent far so_far _ is_new) =
        subst Claim (sym is_new)
        (streamed_kept course Claim kept at_start (progressed_streamed course steady so_far))

-- ---- where no turn is left

-- so many bytes were read: 2^63 - 1
pub spent_has_read : {Run : Type 0} (course : Course Run) {longest : ℕ} → Steady course longest
    → {start : Run} (far : Far Run) → Progressed course start all_turns far
    → 9223372036854775807 ≤ length far.input
spent_has_read course steady far so_far = omega (arith, few_turns course steady so_far)
