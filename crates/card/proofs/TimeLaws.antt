-- The law of `specs/Time.antt`, in document 01's words: the elapsed time, added to the earlier
-- stamp, gives the later modulo 4,294,967,296. Assumes nothing.
use Rattle.std.proofs.Common.{◌≡◌, ℕ, ◌+◌, ◌%◌, ◌<◌, arith}
use Rattle.card.specs.Time.{elapsed}

pub elapsed_added : (opening closing : ℕ) → opening < 4294967296 → closing < 4294967296
    → (opening + elapsed opening closing) % 4294967296 ≡ closing
elapsed_added opening closing fits fits' = omega arith
