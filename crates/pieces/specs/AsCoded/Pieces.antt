-- A recording that comes in pieces, as a program reads it: calls over a window, whose bytes that
-- are left stand before the next piece, and the text that the calls print. Definitions only.
-- Assumes nothing.
use Rattle.std.specs.Prelude.{◌≡◌, ◌≢◌, Bool, true, false, List, [], ◌++◌, ℕ, take, drop}
use Rattle.pieces.specs.declared.stop.Stop.TheVariants.{Over}
use Rattle.pieces.specs.Course.{Course}
use Rattle.pieces.specs.AsCoded.Window.{Passed, window_run}

-- what a call prints
abbrev pub lines_put : {Run : Type 0} → Passed Run → List ℕ
lines_put call = take call.put call.out

-- `Streamed course start ended input text old window`: from `start` on a program has read this
-- input, which has ended or not, and has printed this text; it has come as far as `old`, and these
-- bytes are left in its window
pub data Streamed {Run : Type 0} (course : Course Run) (start : Run)
    : Bool → List ℕ → List ℕ → Run → List ℕ → Type 0 where
  begins : Streamed course start false [] [] start []
  -- it reads a piece
  reads : {input text : List ℕ} {old : Run} {window : List ℕ} (piece : List ℕ)
      → Streamed course start false input text old window
      → Streamed course start false (input ++ piece) text old (window ++ piece)
  -- it finds the end of the input
  ends : {input text : List ℕ} {old : Run} {window : List ℕ}
      → Streamed course start false input text old window
      → Streamed course start true input text old window
  -- a call prints lines, into a buffer of any length, and takes the fields before a place
  calls : {ended : Bool} {input text : List ℕ} {old : Run} {window : List ℕ} (out : List ℕ)
      → Streamed course start ended input text old window
      → (window_run course old window ended out).stop ≢ Over
      → Streamed course start ended input
      (text ++ lines_put (window_run course old window ended out))
      (window_run course old window ended out).run
      (drop (window_run course old window ended out).at window)

-- and then a call ends the run
pub record Finished {Run : Type 0} (course : Course Run) (start : Run) (input text : List ℕ)
    (new : Run) : Type 0 where
  pub ended : Bool
  pub before : List ℕ
  pub old : Run
  pub window : List ℕ
  pub out : List ℕ
  pub streamed : Streamed course start ended input before old window
  pub is_over : (window_run course old window ended out).stop ≡ Over
  pub is_text : text ≡ before ++ lines_put (window_run course old window ended out)
  pub is_new : new ≡ (window_run course old window ended out).run
