-- The fields of a command word, as MIL-STD-1553B lays them out: 15 to 11 address, 10 direction,
-- 9 to 5 subaddress, 4 to 0 word count or mode code. Definitions only. Assumes nothing.
use Rattle.std.specs.Prelude.{Bool, cond, ◌||◌, ℕ, ◌/◌, ◌%◌, eqb}
use Rattle.bits.specs.Bit.{has_bit}
use Rattle.bus.specs.Limits.{all_stations}

abbrev pub address_of : ℕ → ℕ
address_of command = command / 2048

-- direction bit 1: the station is to transmit
abbrev pub is_transmit : ℕ → Bool
is_transmit command = has_bit command 1024

abbrev pub subaddress_of : ℕ → ℕ
subaddress_of command = command / 32 % 32

abbrev pub mode_code_of : ℕ → ℕ
mode_code_of command = command % 32

-- the data words that a data command speaks of: word count 0 means 32
abbrev pub words_of : ℕ → ℕ
words_of command = cond (eqb (command % 32) 0) 32 (command % 32)

-- address 31 speaks to all stations
abbrev pub is_broadcast : ℕ → Bool
is_broadcast command = eqb (address_of command) all_stations

-- subaddresses 0 and 31 are mode commands
abbrev pub is_mode : ℕ → Bool
is_mode command = eqb (subaddress_of command) 0 || eqb (subaddress_of command) 31
