-- The state word of cell 58. Definitions only. Assumes nothing.
use Rattle.std.specs.Prelude.{ℕ, ◌+◌, ◌*◌, ◌%◌}
use Rattle.bits.specs.Bit.{weight_of}
use Rattle.card.specs.declared.state.State.{State}

-- 15 line (A 0, B 1), 14 fault, 13 broadcast, 12 second command taken, 11 busy, 10 to 8 fault code,
-- 7 and 6 zero, 5 to 0 data words stored or held by the reply given
unfoldable pub state_word : State → ℕ
state_word state =
    weight_of state.line 32768
    + weight_of state.fault 16384
    + weight_of state.broadcast 8192
    + weight_of state.second 4096
    + weight_of state.busy 2048
    + state.code % 8 * 256
    + state.words % 64
