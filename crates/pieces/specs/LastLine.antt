-- The last line of a run, and the two numbers that it names. Definitions only. Assumes nothing.
use Rattle.std.specs.Prelude.{cond, List, ℕ, ◌%◌, ◌^◌, eqb}
use Rattle.lines.specs.Lines.{end_line, refusal_line}

-- counts of fields and offsets have 64 bits
abbrev pub counted : ℕ → ℕ
counted number = number % 2 ^ 64

-- END with the fields taken, or the number of the refusal with the offset of its field; number 0 is
-- no refusal
unfoldable pub last_line : ℕ → ℕ → ℕ → List ℕ
last_line number fields offset =
    cond (eqb number 0) (end_line fields) (refusal_line number offset)
