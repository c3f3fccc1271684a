-- Document 001's table of message formats, row by row. Definitions only. Assumes nothing.
use Rattle.std.specs.Prelude.{Bool, true, false, not, ℕ, ◌+◌}
use Rattle.formats.specs.declared.row.Row.{Row}
use Rattle.formats.specs.declared.row.Row.TheVariants.{
  ToTerminal,
  FromTerminal,
  Between,
  ModeAlone,
  ModeWithWord,
  ModeForWord,
}
use Rattle.formats.specs.declared.row.Format.{Format}

-- the columns of the table: words given, data words among them, whether a status comes back, data
-- words behind it, whether a last status comes back then
abbrev pub columns : ℕ → ℕ → Bool → ℕ → Bool → Format
columns given behind status reply last =
    record { given = given; behind = behind; status = status; reply = reply; last = last }

-- C is a command, S a status, D data, / a silence; what has * is not there in broadcast
unfoldable pub format_of : Row → Bool → ℕ → Format
format_of ToTerminal broadcast n = columns (1 + n) n (not broadcast) 0 false  -- C D1 .. Dn / S* /
format_of FromTerminal broadcast n = columns 1 0 true n false  -- C / S D1 .. Dn /
format_of Between broadcast n = columns 2 0 true n (not broadcast)  -- C1 C2 / S2 D1 .. Dn / S1* /
format_of ModeAlone broadcast n = columns 1 0 (not broadcast) 0 false  -- C / S* /
format_of ModeWithWord broadcast n = columns 2 1 (not broadcast) 0 false  -- C D / S* /
format_of ModeForWord broadcast n = columns 1 0 true 1 false  -- C / S D /

-- ---- cells: word k on the bus, from 0, stands in cell k

-- the first status stands behind the words given
abbrev pub status_cell : Format → ℕ
status_cell format = format.given

-- the data of the reply behind it
abbrev pub reply_cell : Format → ℕ
reply_cell format = status_cell format + 1

-- the last status behind these
abbrev pub last_cell : Format → ℕ
last_cell format = reply_cell format + format.reply

-- no word of a message stands above this cell
abbrev pub highest_cell : ℕ
highest_cell = 35

-- the first cell that holds data, whichever way they go: 1 .. n, 2 .. n + 1, 3 .. n + 2, none, 1, 2
abbrev pub data_cell : Row → ℕ
data_cell ToTerminal = 1
data_cell FromTerminal = 2
data_cell Between = 3
data_cell ModeAlone = 0
data_cell ModeWithWord = 1
data_cell ModeForWord = 2

-- and how many hold data
abbrev pub data_words : Format → ℕ
data_words format = format.behind + format.reply
