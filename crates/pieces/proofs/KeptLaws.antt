-- A claim that every field keeps is kept by a call over a window, `call_kept`, and so wherever a
-- program has come that reads a recording in pieces: `streamed_kept`, and at the end
-- `finished_kept`. Assumes nothing.
use mathlib.Core.Path.{◌≡◌, sym, subst}
use mathlib.Core.Bool.{Bool}
use mathlib.Core.List.{List}
use Prim.Native.Nat.{ℕ}
use Rattle.pieces.specs.Course.{Met, taken, at_end, refused, Course}
use Rattle.pieces.specs.Steady.{KeptBy}
use Rattle.pieces.specs.AsCoded.Window.{Passed, passing, window_run}
use Rattle.pieces.specs.AsCoded.Pieces.{Streamed, begins, reads, ends, calls, Finished}
use Rattle.pieces.proofs.TurnLaws.{call_keeps, by_turn}

module _ {Run : Type 0} (course : Course Run) (Claim : Run → Type 0) (kept : KeptBy course Claim)
  where
    -- ---- a call over a window

    pub call_kept : (window : List ℕ) (last : Bool) (old : Run) (out : List ℕ) → Claim old
        → Claim (window_run course old window last out).run
    unfolding passing
    call_kept window last =
        call_keeps course window last Holds
        (λ old is holds.
        by_turn course window last Holds old (λ _. holds) (λ met is' _. go old holds met is'))
      where
        Holds : Passed Run → Type 0
        Holds new = Claim new.run

        go : (old : Passed Run) → Holds old → (met : Met Run)
            → course.meets old.run window old.at ≡ met
            → Holds (passing course met last old)
        go old holds (taken next line new) is =
            kept old.run window old.at next line new is holds
        go old holds at_end is = holds
        go old holds (refused number) is = holds

    -- ---- a recording that is read in pieces

    pub streamed_kept : {start : Run} {ended : Bool} {input text : List ℕ} {new : Run}
        {window : List ℕ} → Claim start → Streamed course start ended input text new window
        → Claim new
    streamed_kept holds begins = holds
    streamed_kept holds (reads piece so_far) = streamed_kept holds so_far
    streamed_kept holds (ends so_far) = streamed_kept holds so_far
    streamed_kept holds (calls {ended = ended} {old = old} {window = window} out so_far other) =
        call_kept window ended old out (streamed_kept holds so_far)

    -- .. and where a call ends the run
    pub finished_kept : {start : Run} {input text : List ℕ} {new : Run} → Claim start
        → Finished course start input text new → Claim new
    finished_kept holds done =
        subst Claim (sym done.is_new)
        (call_kept done.window done.ended done.old done.out
        (streamed_kept holds done.streamed))
