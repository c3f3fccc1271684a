-- What setup returns is fit, `fit_at_setup`; what it returns where it refuses is not. Assumes
-- nothing.
use mathlib.Core.Path.{◌≡◌, refl}
use mathlib.Core.Bool.{true, false}
use Prim.Native.Nat.{ℕ, ◌≤◌, ◌<◌}
use native.Mathlib.Omega.{arith}
use borrow.Author.Tests.{le-leb, lt-ltb}
use Rattle.bus.specs.Limits.{last_station, all_flags}
use Rattle.card.specs.declared.place.Block.{Block}
use Rattle.card.specs.Memory.{card_blocks}
use Rattle.queue.proofs.FitLaws.{empty_is_fit}
use Rattle.terminal.specs.State.{core_at_setup}
use Rattle.terminal.specs.Fitness.{fit_core}
use Rattle.actions.specs.Actions.{fit_terminal, terminal_at_setup, no_terminal}

-- a setup that is not refused
pub fit_at_setup : (station : ℕ) (table : Block) (flags : ℕ)
    → station ≤ last_station → table.0 < card_blocks → flags ≤ all_flags
    → fit_terminal (terminal_at_setup station table flags) ≡ true
unfolding fit_core terminal_at_setup core_at_setup
fit_at_setup station table flags fit_station fit_table fit_flags =
    rw (
      le-leb station last_station fit_station,
      lt-ltb table.0 card_blocks fit_table,
      le-leb flags all_flags fit_flags,
    ) (empty_is_fit card_blocks (omega arith))

-- what a refused setup returns is no terminal
pub no_terminal_is_unfit : fit_terminal no_terminal ≡ false
unfolding fit_core terminal_at_setup core_at_setup
no_terminal_is_unfit = refl
