-- `vectors::main` meets its contract. How long the text is, is said by a law: found by `search`, it
-- would be counted byte by byte. Assumes nothing.
use Rattle.std.proofs.Common.{ℕ, sym}
use lib.ListN.{length-replicate}
use Rattle.vectors.proofs.main.Goals as goal

pub slice_bounds-text-end : goal.slice_bounds-text-end
slice_bounds-text-end c = sym (length-replicate {A = ℕ} 524288 0)
