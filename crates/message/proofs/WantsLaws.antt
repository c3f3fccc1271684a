-- How many words an open message takes and stores: stage by stage, as the code tells it, and what
-- holds while one more is wanted. Assumes nothing.
use mathlib.Core.Path.{◌≡◌, refl}
use mathlib.Core.Bool.{Bool, true, false, cond}
use Prim.Native.Nat.{ℕ, ◌<◌}
use native.Mathlib.Omega.{arith}
use Rattle.message.specs.declared.asked.Asked.{Asked}
use Rattle.message.specs.declared.state.Stage.{Stage}
use Rattle.message.specs.declared.state.Stage.TheVariants.{
  Data,
  SecondCommand,
  AwaitingStatus,
  Skipping,
}
use Rattle.message.specs.declared.state.OpenMessage.{OpenMessage}
use Rattle.message.specs.Message.{further}
use Rattle.message.specs.Asked.{asks, keeps_back}
use Rattle.message.specs.Wants.{wants_in, wants}

module _ (message : OpenMessage) where
  module _ (asked : Asked) (is : asked ≡ asks message) where
    pub wants_none : message.stage ≡ Data → keeps_back asked message ≡ true → 0 ≡ wants message
    wants_none in_data_lem kept = rw (in_data_lem, ← is, kept)

    pub wants_data : message.stage ≡ Data → keeps_back asked message ≡ false
        → asked.takes ≡ wants message
    wants_data in_data_lem served = rw (in_data_lem, ← is, served)

  pub wants_after_second : message.stage ≡ SecondCommand → 0 ≡ wants message
  wants_after_second is = rw is

  pub wants_before_status : message.stage ≡ AwaitingStatus → 0 ≡ wants message
  wants_before_status is = rw is

  pub wants_skipping : message.stage ≡ Skipping → 0 ≡ wants message
  wants_skipping is = rw is

pub ruleset wanting = (
  wants_none,
  wants_data,
  wants_after_second,
  wants_before_status,
  wants_skipping,
)

-- ---- a word more is wanted

-- the message is in its data, keeps nothing back, and its command asks for more
pub record Wanting (message : OpenMessage) (taken : ℕ) : Type 0 where
  pub in_data_lem : message.stage ≡ Data
  pub served : keeps_back (asks message) message ≡ false
  pub more : taken < (asks message).takes

module _ (message : OpenMessage) (taken : ℕ) where
  wanting_in_data : message.stage ≡ Data → (kept : Bool) → keeps_back (asks message) message ≡ kept
      → taken < cond kept 0 (asks message).takes → Wanting message taken
  wanting_in_data in_data_lem true kept some = absurd (omega (arith, some))
  wanting_in_data in_data_lem false served some =
      record { in_data_lem = in_data_lem; served = served; more = some }

  wanting_in : (stage : Stage) → message.stage ≡ stage → taken < wants_in stage message
      → Wanting message taken
  wanting_in Data is some = wanting_in_data is (keeps_back (asks message) message) refl some
  wanting_in SecondCommand is some = absurd (omega (arith, some))
  wanting_in AwaitingStatus is some = absurd (omega (arith, some))
  wanting_in Skipping is some = absurd (omega (arith, some))

  pub wanting_more : taken < wants message → Wanting message taken
  wanting_more some = wanting_in message.stage refl some

  -- and further on in its data it wants as many
  pub wants_further : message.stage ≡ Data
      → wants (further Data message.second taken message) ≡ wants message
  unfolding further
  wants_further in_data_lem = rw in_data_lem
