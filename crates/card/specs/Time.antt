-- Elapsed time. Definitions only. Assumes nothing.
use Rattle.std.specs.Prelude.{ℕ, ◌+◌, ◌-◌, ◌%◌, min}

-- the number that, added to the earlier stamp, gives the later modulo 4,294,967,296
abbrev pub elapsed : ℕ → ℕ → ℕ
elapsed opening closing = (closing + (4294967296 - opening)) % 4294967296

-- ticks from opening to closing, 65,535 if more
abbrev pub ticks_of : ℕ → ℕ → ℕ
ticks_of opening closing = min (elapsed opening closing) 65535
