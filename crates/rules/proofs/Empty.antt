-- A list without entries. Assumes nothing.
use mathlib.Core.Path.{◌≡◌, refl}
use mathlib.Core.List.{List, [], ◌∷◌}
use native.Mathlib.Omega.{arith}
use lib.ListN.{length}

pub no_entries : {A : Type 0} (list : List A) → length list ≡ 0 → list ≡ []
no_entries [] none = refl
no_entries (entry ∷ rest) none = absurd (omega (arith, none))
