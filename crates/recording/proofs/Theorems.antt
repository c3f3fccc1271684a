-- The theorems over the reader, each by its statement. The words are those of `specs/`; the proofs
-- stand in the files that are cited. Assumes nothing.
use mathlib.Core.Path.{◌≡◌}
use mathlib.Core.Bool.{true}
use mathlib.Core.List.{List, ◌++◌}
use Prim.Native.Nat.{ℕ, ◌+◌, ◌≤◌, ◌<◌}
use lib.ListN.{length}
use Rattle.recording.specs.declared.field.Field.{Field}
use Rattle.recording.specs.declared.seen.Seen.{Seen}
use Rattle.recording.specs.Bytes.{byte_at}
use Rattle.recording.specs.Seen.{seen_after}
use Rattle.recording.specs.Reading.{Taken, read_at}
use Rattle.recording.specs.Value.{Valued}
use Rattle.recording.specs.Accepted.{Accepted, Cut, Continues}
use Rattle.recording.specs.AsCoded.Pieces.{is_settled}
use Rattle.recording.proofs.TakenLaws.{Tells, Within}
use Rattle.recording.proofs.OfBytes.{NotThree}
use Rattle.recording.proofs.InOrder.{InOrder}
use Rattle.recording.proofs.TakenLaws as taken
use Rattle.recording.proofs.OfBytes as of_bytes
use Rattle.recording.proofs.InOrder as order
use Rattle.recording.proofs.MoreBytes as more
use Rattle.recording.proofs.AcceptedLaws as accepted
use Rattle.recording.proofs.CutLaws as cut

-- what a reading tells: a field passed every test, the end is the end of the bytes, and a refusal
-- names the field that it stands at by one of document 01's numbers
reading_tells : (bytes : List ℕ) (place : ℕ) (seen : Seen)
    → Tells bytes place seen (read_at bytes place seen)
reading_tells = taken.reading_tells

-- a field that is taken lies within the bytes, has a byte at least and 133 at the most
taken_within : (bytes : List ℕ) (place : ℕ) (seen : Seen) {field : Field} {next : ℕ}
    → read_at bytes place seen ≡ Taken field next → Within bytes place next
taken_within = taken.taken_within

-- .. leaves a reader that has seen a setup
setup_seen_after : (bytes : List ℕ) (place : ℕ) (seen : Seen) {field : Field} {next : ℕ}
    → read_at bytes place seen ≡ Taken field next → (seen_after field seen).setup ≡ true
setup_seen_after = taken.setup_seen_after

-- .. and is in order
taken_in_order : (bytes : List ℕ) (place : ℕ) (seen : Seen) {field : Field} {next : ℕ}
    → read_at bytes place seen ≡ Taken field next → InOrder place next field
taken_in_order = order.taken_in_order

-- of bytes the reader never gives refusal 3
no_block_above_255 : (bytes : List ℕ) → ((place : ℕ) → byte_at bytes place < 256)
    → (place : ℕ) (seen : Seen) → NotThree (read_at bytes place seen)
no_block_above_255 = of_bytes.no_block_above_255

-- 133 bytes settle a reading, and no bytes that come behind change one that is settled
settled_by_133 : (bytes : List ℕ) (place : ℕ) (seen : Seen) → place + 133 ≤ length bytes
    → is_settled (read_at bytes place seen) ≡ true
settled_by_133 = more.settled_by_133

settled_stays : (front back : List ℕ) (place : ℕ) (seen : Seen)
    → is_settled (read_at front place seen) ≡ true
    → read_at (front ++ back) place seen ≡ read_at front place seen
settled_stays = more.settled_stays

-- what the reader accepts can be cut at the end of every field, and bytes that begin alike, up to
-- the end of a field, begin with the same fields
cut_at_field : {seen : Seen} {bytes : List ℕ} (first second : List Valued)
    → Accepted seen bytes (first ++ second) → Cut seen bytes first second
cut_at_field = cut.cut_at_field

same_beginning : {seen : Seen} (front back : List ℕ) {first fields : List Valued}
    → Accepted seen front first → Accepted seen (front ++ back) fields
    → Continues seen back first fields
same_beginning = accepted.same_beginning
