-- A turn of a program that reads a recording in pieces and writes its lines. Definitions only.
-- Assumes nothing.
use Rattle.std.specs.Prelude.{
  ◌≡◌,
  ◌≢◌,
  Bool,
  true,
  false,
  List,
  [],
  ◌∷◌,
  ◌++◌,
  ℕ,
  ◌≤◌,
  ◌<◌,
  length,
  drop,
  Result,
  Ok,
  IsErr,
  OnOk,
  Option,
}
use Rattle.std.specs.Io.KnownBytes.{Consumes, Appends, IsAtEnd}
use Rattle.pieces.specs.declared.stop.Stop.TheVariants.{Hungry, Over}
use Rattle.pieces.specs.Course.{Course}
use Rattle.pieces.specs.AsCoded.Window.{Passed, window_run}
use Rattle.pieces.specs.AsCoded.Pieces.{lines_put}
use Rattle.stream.specs.Progress.{buffer_bytes}

-- what is left of the input in the window, and whether no more comes
pub record Left : Type 0 where
  pub bytes : List ℕ
  pub ended : Bool

abbrev pub nothing_left : Left
nothing_left = record { bytes = []; ended = false }

-- the bytes before a place are taken
abbrev pub behind : ℕ → Left → Left
behind at old = record { bytes = drop at old.bytes; ended = old.ended }

-- a piece is read behind the bytes that are there; one of no bytes is the end of the input
abbrev pub is_nothing : List ℕ → Bool
is_nothing [] = true
is_nothing (byte ∷ more) = false

abbrev pub with_piece : List ℕ → Left → Left
with_piece piece old = record { bytes = old.bytes ++ piece; ended = is_nothing piece }

-- what the input has yet to give, where that is known, gives the piece; it gives nothing only where
-- nothing is left, if there was room to read into
pub record ReadOn (old new : Left) (given given' : Option (List ℕ)) : Type 0 where
  pub piece : List ℕ
  pub is_new : new ≡ with_piece piece old
  pub is_given : Consumes given given' piece
  pub at_end : piece ≡ [] → length old.bytes < buffer_bytes → IsAtEnd given'

-- ---- what a call leaves to do

-- the bytes of the fields that it took are gone in each case
pub data Settled {Run Error : Type 0} (call : Passed Run) (old new : Left)
    (given given' : Option (List ℕ)) (told : Result Bool Error) : Type 0 where
  -- its lines were not all taken, be they the last of the run: nothing is read
  breaks_off : call.put ≢ 0 → new ≡ behind call.at old → given' ≡ given → IsErr told
      → Settled call old new given given' told
  -- it needed bytes, and a read failed, or there was no room for one
  unread : call.stop ≡ Hungry → new ≡ behind call.at old → IsErr told
      → Settled call old new given given' told
  -- the run is over
  ends : call.stop ≡ Over → new ≡ behind call.at old → given' ≡ given → told ≡ Ok true
      → Settled call old new given given' told
  -- it had no room for more
  stays : call.stop ≢ Over → call.stop ≢ Hungry → new ≡ behind call.at old → given' ≡ given
      → told ≡ Ok false → Settled call old new given given' told
  -- it needed bytes, there was room, and a piece was read
  reads : {after : Left} → call.stop ≡ Hungry → after ≡ behind call.at old
      → length after.bytes < buffer_bytes → ReadOn after new given given' → told ≡ Ok false
      → Settled call old new given given' told

-- a turn is a call, and what it leaves to do; unless it fails, what the output holds, where that is
-- known, has grown by the lines of the call
pub record Turned {Run Error : Type 0} (course : Course Run) (old : Run) (left : Left)
    (out : List ℕ) (new : Run) (left' : Left) (given given' held held' : Option (List ℕ))
    (told : Result Bool Error) : Type 0 where
  pub few : length left.bytes ≤ buffer_bytes
  pub is_new : new ≡ (window_run course old left.bytes left.ended out).run
  pub written : OnOk told
      (Appends held held' (lines_put (window_run course old left.bytes left.ended out)))
  pub settled : Settled (window_run course old left.bytes left.ended out) left left' given given'
      told
