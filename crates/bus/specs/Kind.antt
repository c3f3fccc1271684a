-- What a command asks for. Definitions only. Assumes nothing.
use Rattle.std.specs.Prelude.{Bool, cond, not, ◌&&◌, ◌||◌, ℕ, eqb, leb, Option, Some, None}
use Rattle.std.specs.Bool.{beq}
use Rattle.bus.specs.declared.mode.Mode.{Mode}
use Rattle.bus.specs.declared.mode.ModeWord.{ModeWord}
use Rattle.bus.specs.declared.mode.ModeWord.TheVariants.{Without, Sent, Taken}
use Rattle.bus.specs.declared.kind.Kind.{Kind}
use Rattle.bus.specs.declared.kind.Kind.TheVariants.{
  Receive,
  Transmit,
  ModeStatus,
  ModeLast,
  ModeSwitch,
  ModeSend,
  ModeTake,
  ModeReply,
  Illegal,
}
use Rattle.bus.specs.Command.{is_transmit, is_broadcast, is_mode, mode_code_of}
use Rattle.bus.specs.Mode.{mode_of}

-- what a legal mode command asks for, by its data word and its code
abbrev pub mode_kind_of : ModeWord → ℕ → Kind
mode_kind_of Without code =
    cond (eqb code 2) ModeStatus (cond (leb 4 code && leb code 7) ModeSwitch ModeReply)
mode_kind_of Sent code = cond (eqb code 18) ModeLast ModeSend
mode_kind_of Taken code = ModeTake

-- the direction is the code's, and a broadcast is allowed or is none
abbrev pub legal_mode_of : Mode → ℕ → Bool
legal_mode_of row command =
    beq (is_transmit command) row.transmit && (row.broadcast || not (is_broadcast command))

-- what a mode command asks for, by its code's row of the table; one of a reserved code is illegal
abbrev pub row_kind_of : Option Mode → ℕ → Kind
row_kind_of None command = Illegal
row_kind_of (Some row) command =
    cond (legal_mode_of row command) (mode_kind_of row.word (mode_code_of command)) Illegal

-- a broadcast with direction 1 to a data subaddress is illegal: nobody could answer it
unfoldable pub kind_of : ℕ → Kind
kind_of command =
    cond (is_mode command) (row_kind_of (mode_of (mode_code_of command)) command)
    (cond (not (is_transmit command)) Receive
    (cond (is_broadcast command) Illegal Transmit))
