-- The laws of a status word: it has its station's address, and setting the message error bit is
-- seen in that bit alone. Assumes nothing.
use mathlib.Core.Path.{◌≡◌}
use mathlib.Core.Bool.{Bool, true, false}
use Prim.Native.Nat.{ℕ, ◌≤◌, ◌<◌}
use native.Mathlib.Omega.{arith}
use Rattle.bits.specs.Bit.{weight_of}
use Rattle.bus.specs.declared.status.Status.{Status}
use Rattle.bus.specs.Command.{address_of}
use Rattle.bus.specs.Status.{status_word, without_error, with_error}

-- ---- the address

weight_at_most : (set : Bool) (weight : ℕ) → weight_of set weight ≤ weight
weight_at_most true weight = omega arith
weight_at_most false weight = omega arith

-- the bits below the station's five count for less than one of theirs
pub status_address : (status : Status) → status.station < 32
    → address_of (status_word status) ≡ status.station
unfolding status_word
status_address status five_bits =
    omega (
      arith,
      weight_at_most status.error 1024,
      weight_at_most status.request 256,
      weight_at_most status.broadcast 16,
      weight_at_most status.busy 8,
      weight_at_most status.subsystem 4,
      weight_at_most status.control 2,
      weight_at_most status.flag 1,
    )

pub address_without_error : (status : ℕ) → address_of (without_error status) ≡ address_of status
unfolding without_error
address_without_error status = omega arith

pub address_with_error : (status : ℕ) → address_of (with_error status) ≡ address_of status
unfolding without_error with_error
address_with_error status = omega arith

-- ---- the message error bit

pub without_error_of_with_error : (status : ℕ)
    → without_error (with_error status) ≡ without_error status
unfolding without_error with_error
without_error_of_with_error status = omega arith

pub with_error_of_with_error : (status : ℕ) → with_error (with_error status) ≡ with_error status
unfolding without_error with_error
with_error_of_with_error status = omega arith
