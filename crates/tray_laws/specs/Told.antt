-- What the fields of accepted bytes tell. Definitions only. Assumes nothing.
use Rattle.std.specs.Prelude.{◌≡◌, List, ◌++◌, ℕ}
use Rattle.recording.specs.declared.seen.Seen.{Seen}
use Rattle.recording.specs.Value.{Valued}
use Rattle.recording.specs.Accepted.{seen_after_all, Accepted}
use Rattle.tray.specs.Happening.{Happening, happenings}

-- the reader, which has seen so much, accepts the bytes, and this is what their fields tell
pub record Tells (seen : Seen) (bytes : List ℕ) (told : List Happening) : Type 0 where
  pub fields : List Valued
  pub accepted : Accepted seen bytes fields
  pub are : happenings fields ≡ told

-- the claim of `cut_telling`: bytes cut in two at the end of a field, and what each part tells
pub record CutTelling (seen : Seen) (bytes : List ℕ) (first second : List Happening) : Type 0 where
  pub front : List ℕ
  pub back : List ℕ
  pub parts : bytes ≡ front ++ back
  pub front_tells : Tells seen front first
  pub back_tells : Tells (seen_after_all front_tells.fields seen) back second

-- the claim of `continues_telling`: what is told begins with `first`, and the rest of it is told by
-- the bytes behind
pub record ContinuesTelling {seen : Seen} {front : List ℕ} (back : List ℕ) {first : List Happening}
    (beginning : Tells seen front first) (told : List Happening) : Type 0 where
  pub second : List Happening
  pub are : told ≡ first ++ second
  pub back_tells : Tells (seen_after_all beginning.fields seen) back second
