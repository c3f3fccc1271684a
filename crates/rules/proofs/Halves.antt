-- What a test made of two tells of each of them. Assumes nothing.
use mathlib.Core.Path.{◌≡◌, refl}
use mathlib.Core.Bool.{Bool, true, false, ◌&&◌}

pub first_of_both : (first second : Bool) → (first && second) ≡ true → first ≡ true
first_of_both true second holds = refl
first_of_both false second holds = holds

pub second_of_both : (first second : Bool) → (first && second) ≡ true → second ≡ true
second_of_both true second holds = holds
second_of_both false second holds = cc
