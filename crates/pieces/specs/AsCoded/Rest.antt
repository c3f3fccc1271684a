-- What is left of a window. Definitions only. Assumes nothing.
use Rattle.std.specs.Prelude.{cond, List, ℕ, ◌-◌, leb, length}
use Rattle.std.proofs.lemmas.List.Edits.{sets}
use Rattle.std.proofs.Math.Seq.{slice}
use Rattle.lines.specs.Written.{Put, put}

-- its bytes from a place to an end move to the front, and so many they are; an end past the window
-- names none
unfoldable pub kept_rest : List ℕ → ℕ → ℕ → Put
kept_rest window at end =
    cond (leb end (length window))
    (put (end - at) (sets window 0 (slice at end window)))
    (put 0 window)
