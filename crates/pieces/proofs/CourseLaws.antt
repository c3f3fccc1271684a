-- Two fields that are taken alike begin the next at the same place, print the same line and leave
-- the same run; two refusals that are alike have the same number. Assumes nothing.
use mathlib.Core.Path.{◌≡◌, ap}
use mathlib.Core.List.{List, []}
use Prim.Native.Nat.{ℕ}
use Rattle.pieces.specs.Course.{Met, taken, at_end, refused}

next_of : {Run : Type 0} → Met Run → ℕ
next_of (taken next line new) = next
next_of at_end = 0
next_of (refused number) = 0

line_of : {Run : Type 0} → Met Run → List ℕ
line_of (taken next line new) = line
line_of at_end = []
line_of (refused number) = []

-- .. or a run that is given
new_of : {Run : Type 0} → Run → Met Run → Run
new_of other (taken next line new) = new
new_of other at_end = other
new_of other (refused number) = other

number_of : {Run : Type 0} → Met Run → ℕ
number_of (taken next line new) = 0
number_of at_end = 0
number_of (refused number) = number

module _ {Run : Type 0} {next next' : ℕ} {line line' : List ℕ} {new new' : Run}
    (same : taken next line new ≡ taken next' line' new') where
  pub same_next : next ≡ next'
  unfolding next_of
  same_next = ap next_of same

  pub same_line : line ≡ line'
  unfolding line_of
  same_line = ap line_of same

  pub same_new : new ≡ new'
  unfolding new_of
  same_new = ap (new_of new) same

pub same_number : {Run : Type 0} {number number' : ℕ}
    → ◌≡◌ {A = Met Run} (refused number) (refused number') → number ≡ number'
unfolding number_of
same_number same = ap number_of same
