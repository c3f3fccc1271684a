-- What a run has written where the bytes of its input are known, as those of a buffer in memory
-- are: of standard input they are not. Definitions only. Assumes nothing.
use Rattle.std.specs.Prelude.{◌≡◌, Bool, true, List, ℕ, Option, IfSome}
use Rattle.std.specs.Io.KnownBytes.{Appends}
use Rattle.pieces.specs.Course.{Course}
use Rattle.pieces.specs.Whole.{whole_from}

-- what the output holds, where that is known, has grown by the text of all these bytes, and the run
-- has come to where they lead
pub record PrintedAll {Run : Type 0} (course : Course Run) (start new : Run)
    (held held' : Option (List ℕ)) (bytes : List ℕ) : Type 0 where
  pub is_text : Appends held held' (whole_from course start bytes).text
  pub is_new : new ≡ (whole_from course start bytes).run

-- a whole run has done so with all that its input had to give
pub record PrintsKnown {Run : Type 0} (course : Course Run) (start new : Run) (whole : Bool)
    (given held held' : Option (List ℕ)) : Type 0 where
  pub printed : whole ≡ true → IfSome given (PrintedAll course start new held held')
