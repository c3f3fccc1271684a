-- How far the numbers go by which stations, flags, marks and lines are told. Definitions only.
-- Assumes nothing.
use Rattle.std.specs.Prelude.{Bool, ℕ, leb}

-- stations are 0 to 30; address 31 speaks to all of them, and is none
abbrev pub last_station : ℕ
last_station = 30

abbrev pub all_stations : ℕ
all_stations = 31

abbrev pub is_station : ℕ → Bool
is_station number = leb number last_station

-- flags: bit 0 broadcast enabled, 1 busy, 2 service request, 3 subsystem flag, 4 bus control
-- accepted, 5 terminal flag
abbrev pub all_flags : ℕ
all_flags = 63

abbrev pub are_flags : ℕ → Bool
are_flags number = leb number all_flags

-- marks of a word: bit 0 line, 1 command sync, 2 sound, 3 joined
abbrev pub all_marks : ℕ
all_marks = 15

abbrev pub are_marks : ℕ → Bool
are_marks number = leb number all_marks

-- line A is 0, line B is 1
abbrev pub last_line : ℕ
last_line = 1

abbrev pub is_line : ℕ → Bool
is_line number = leb number last_line
