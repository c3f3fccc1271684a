-- The status word. Definitions only. Assumes nothing.
use Rattle.std.specs.Prelude.{Bool, not, ◌&&◌, ℕ, ◌+◌, ◌*◌, ◌/◌, ◌%◌, eqb}
use Rattle.bits.specs.Bit.{has_bit, weight_of}
use Rattle.bus.specs.declared.status.Status.{Status}
use Rattle.bus.specs.Command.{is_broadcast, is_mode, mode_code_of}

-- 15 to 11 station, 10 message error, 8 service request, 4 broadcast, 3 busy, 2 subsystem,
-- 1 bus control, 0 terminal flag; the rest zero
unfoldable pub status_word : Status → ℕ
status_word status =
    status.station % 32 * 2048
    + weight_of status.error 1024
    + weight_of status.request 256
    + weight_of status.broadcast 16
    + weight_of status.busy 8
    + weight_of status.subsystem 4
    + weight_of status.control 2
    + weight_of status.flag 1

-- bus control is answered to legal mode code 0 only
abbrev pub offers_control : Bool → ℕ → Bool
offers_control illegal command =
    not illegal && is_mode command && eqb (mode_code_of command) 0

-- the status that an opening makes. Of the flags, 2 is service request, 3 subsystem, 4 bus control
-- accepted, 5 terminal flag, which inhibit takes away. An illegal command is an error at once
unfoldable pub caught_status : ℕ → Bool → ℕ → ℕ → Bool → Bool → Status
caught_status station illegal command flags busy inhibit =
    record {
      station = station;
      error = illegal;
      request = has_bit flags 4;
      broadcast = is_broadcast command;
      busy = busy;
      subsystem = has_bit flags 8;
      control = has_bit flags 16 && offers_control illegal command;
      flag = has_bit flags 32 && not inhibit;
    }

-- a status word with its message error bit cleared, and set
unfoldable pub without_error : ℕ → ℕ
without_error status = status / 2048 * 2048 + status % 1024

unfoldable pub with_error : ℕ → ℕ
with_error status = without_error status + 1024
