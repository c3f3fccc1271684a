-- Stations 5 and 9 are idle, and ready for a command on line A that is not busy and whose block is
-- not the table. Assumes nothing.
use mathlib.Core.Path.{◌≡◌, refl}
use mathlib.Core.Bool.{false}
use mathlib.Core.List.{[], ◌∷◌}
use Prim.Native.Nat.{ℕ}
use lib.Dec.{eqb}
use Rattle.rack.specs.Terminals.{Different}
use Rattle.rack.specs.Asked.{IsIdle, opened_for, Ready}
use Rattle.rack_runs.proofs.Telling.{five, nine, told}
use Rattle.rack_runs.proofs.Having.{idle_by, ready_by, two_are_different}

pub five_is_idle : IsIdle five
unfolding told
five_is_idle = idle_by refl refl refl refl

pub nine_is_idle : IsIdle nine
unfolding told
nine_is_idle = idle_by refl refl refl refl

pub five_is_ready : (command : ℕ) → (opened_for command five).busy ≡ false
    → eqb (opened_for command five).block.0 (opened_for command five).table.0 ≡ false
    → Ready false command five
unfolding told
five_is_ready command not_busy apart = ready_by not_busy apart refl

pub nine_is_ready : (command : ℕ) → (opened_for command nine).busy ≡ false
    → eqb (opened_for command nine).block.0 (opened_for command nine).table.0 ≡ false
    → Ready false command nine
unfolding told
nine_is_ready command not_busy apart = ready_by not_busy apart refl

pub five_and_nine_differ : Different (five ∷ nine ∷ [])
unfolding told
five_and_nine_differ = two_are_different refl
