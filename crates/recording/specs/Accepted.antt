-- What the reader takes of a recording, field by field, and recordings that it takes whole.
-- Definitions only. Assumes nothing.
use Rattle.std.specs.Prelude.{◌≡◌, List, [], ◌∷◌, ◌++◌, ℕ, drop}
use Rattle.recording.specs.declared.field.Field.{Field}
use Rattle.recording.specs.declared.seen.Seen.{Seen}
use Rattle.recording.specs.Seen.{seen_after}
use Rattle.recording.specs.Reading.{Taken, read_at}
use Rattle.recording.specs.Value.{Valued, valued_at, field_of}

-- `TakesFields seen bytes fields left`: the reader, which has seen so much, takes these fields of
-- the bytes, one by one; then it stands before the bytes that are left
pub data TakesFields : Seen → List ℕ → List Valued → List ℕ → Type 0 where
  no_more : {seen : Seen} {bytes : List ℕ} → TakesFields seen bytes [] bytes
  a_field : {seen : Seen} {bytes left : List ℕ} {field : Field} {next : ℕ} {rest : List Valued}
      → read_at bytes 0 seen ≡ Taken field next
      → TakesFields (seen_after field seen) (drop next bytes) rest left
      → TakesFields seen bytes (valued_at bytes field ∷ rest) left

-- what it has seen after them
unfoldable pub seen_after_all : List Valued → Seen → Seen
seen_after_all [] seen = seen
seen_after_all (field ∷ rest) seen = seen_after_all rest (seen_after (field_of field) seen)

-- the reader takes them all, to the end of the bytes
abbrev pub Accepted : Seen → List ℕ → List Valued → Type 0
Accepted seen bytes fields = TakesFields seen bytes fields []

-- the claim of `cut_at_field`: accepted bytes cut in two at the end of a field, each accepted
pub record Cut (seen : Seen) (bytes : List ℕ) (first second : List Valued) : Type 0 where
  pub front : List ℕ
  pub back : List ℕ
  pub parts : bytes ≡ front ++ back
  pub front_accepted : Accepted seen front first
  pub back_accepted : Accepted (seen_after_all first seen) back second

-- the claim of `same_beginning`: the fields begin with `first`, and the others are those of the
-- bytes behind
pub record Continues (seen : Seen) (back : List ℕ) (first fields : List Valued) : Type 0 where
  pub second : List Valued
  pub are : fields ≡ first ++ second
  pub back_accepted : Accepted (seen_after_all first seen) back second
