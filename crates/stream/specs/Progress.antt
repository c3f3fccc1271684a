-- How far a program has come that reads a recording in pieces, turn by turn. A turn is a call and,
-- where the call needs bytes, a read. Every turn takes a field or reads a byte, but for the one
-- that finds the end of the input. Definitions only. Assumes nothing.
use Rattle.std.specs.Prelude.{
  ◌≡◌,
  Bool,
  true,
  false,
  List,
  [],
  ◌++◌,
  ℕ,
  suc,
  ◌+◌,
  ◌-◌,
  ◌<◌,
  length,
  drop,
}
use Rattle.pieces.specs.declared.stop.Stop.TheVariants.{Hungry, Full}
use Rattle.pieces.specs.Course.{Course}
use Rattle.pieces.specs.AsCoded.Window.{Passed, window_run}
use Rattle.pieces.specs.AsCoded.Pieces.{lines_put}

-- the window has so many bytes, and so has the buffer for the lines
abbrev pub buffer_bytes : ℕ
buffer_bytes = 65536

-- whether the input has ended, what of it was read, what was printed, how far the run has come, and
-- the bytes that are left in the window
pub record Far (Run : Type 0) : Type 0 where
  pub ended : Bool
  pub input : List ℕ
  pub text : List ℕ
  pub run : Run
  pub window : List ℕ

-- nothing was read yet
abbrev pub far_at_start : {Run : Type 0} → Run → Far Run
far_at_start start = record { ended = false; input = []; text = []; run = start; window = [] }

-- the call that comes next, with a buffer for its lines
abbrev pub call_at : {Run : Type 0} → Course Run → Far Run → List ℕ → Passed Run
call_at course far out = window_run course far.run far.window far.ended out

-- it prints its lines, and the bytes of the fields that it took are gone
abbrev pub after_call : {Run : Type 0} → Course Run → Far Run → List ℕ → Far Run
after_call course far out =
    record {
      ended = far.ended;
      input = far.input;
      text = far.text ++ lines_put (call_at course far out);
      run = (call_at course far out).run;
      window = drop (call_at course far out).at far.window;
    }

-- a piece is read behind the bytes that are left
abbrev pub with_piece : {Run : Type 0} → Far Run → List ℕ → Far Run
with_piece far piece =
    record {
      ended = false;
      input = far.input ++ piece;
      text = far.text;
      run = far.run;
      window = far.window ++ piece;
    }

-- no more bytes come
abbrev pub at_end : {Run : Type 0} → Far Run → Far Run
at_end far =
    record {
      ended = true;
      input = far.input;
      text = far.text;
      run = far.run;
      window = far.window;
    }

-- `Progressed course start turns far`: from `start` on a program has come so far, in so many turns
pub data Progressed {Run : Type 0} (course : Course Run) (start : Run) : ℕ → Far Run → Type 0 where
  starts : Progressed course start 0 (far_at_start start)
  -- a call took a field or more, and then had no room for another line
  takes : {turns : ℕ} {far : Far Run} (out : List ℕ) → Progressed course start turns far
      → (call_at course far out).stop ≡ Full → 0 < (call_at course far out).at
      → Progressed course start (suc turns) (after_call course far out)
  -- a call needed bytes, and a read brought some
  feeds : {turns : ℕ} {far : Far Run} (out piece : List ℕ) → Progressed course start turns far
      → (call_at course far out).stop ≡ Hungry → 0 < length piece
      → Progressed course start (suc turns) (with_piece (after_call course far out) piece)
  -- a call needed bytes, and none came although the window had room: the input has ended
  finds_end : {turns : ℕ} {far : Far Run} (out : List ℕ) → Progressed course start turns far
      → (call_at course far out).stop ≡ Hungry
      → length (after_call course far out).window < buffer_bytes
      → Progressed course start (suc turns) (at_end (after_call course far out))

-- ---- how many turns so much progress allows

-- the bytes of the fields that were taken: those that were read and are not left
abbrev pub bytes_taken : {Run : Type 0} → Far Run → ℕ
bytes_taken far = length far.input - length far.window

-- a turn for each byte read and for each byte of a field taken, and one that finds the end
abbrev pub turns_for : {Run : Type 0} → Far Run → ℕ
turns_for far = length far.input + bytes_taken far + 1
