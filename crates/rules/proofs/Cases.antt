-- Which way a definition that goes by tests takes, found by `search` in the facts that the code's
-- own tests left: `search (needs, cases)`, or `search cases depth 9` where there are several tests.
-- Assumes nothing.
use mathlib.Core.Path.{◌≡◌, refl}
use mathlib.Core.Bool.{Bool, true, false, cond, not, ◌&&◌, ◌||◌, beq}
use borrow.Author.Tests.{eq-eqb, ne_eqb, le-leb, lt-leb, lt-ltb, le-ltb, not-true, not-false}

-- ---- a choice

module _ {A : Type 0} where
  pub yes_case : (test : Bool) (x taken left : A)
      → test ≡ true → x ≡ taken → x ≡ cond test taken left
  yes_case test x taken left holds same = rw holds same

  pub no_case : (test : Bool) (x taken left : A)
      → test ≡ false → x ≡ left → x ≡ cond test taken left
  no_case test x taken left fails same = rw fails same

-- ---- a test made of two

pub both : (first second : Bool) → first ≡ true → second ≡ true → (first && second) ≡ true
both first second p q = rw (p, q)

pub not_first : (first second : Bool) → first ≡ false → (first && second) ≡ false
not_first first second p = rw p

pub not_second : (first second : Bool)
    → first ≡ true → second ≡ false → (first && second) ≡ false
not_second first second p q = rw (p, q)

pub at_first : (first second : Bool) → first ≡ true → (first || second) ≡ true
at_first first second p = rw p

pub at_second : (first second : Bool)
    → first ≡ false → second ≡ true → (first || second) ≡ true
at_second first second p q = rw (p, q)

pub neither : (first second : Bool) → first ≡ false → second ≡ false → (first || second) ≡ false
neither first second p q = rw (p, q)

-- ---- a test turned round

pub not_holds : (test : Bool) → test ≡ false → not test ≡ true
not_holds test p = rw p

pub not_fails : (test : Bool) → test ≡ true → not test ≡ false
not_fails test p = rw p

-- `if !test { return; }` in the code, or `not test` in the definition
pub ruleset turned = (not-true, not-false, not_holds, not_fails)

-- ---- a test of a value against itself

pub beq_same : (value : Bool) → beq value value ≡ true
beq_same true = refl
beq_same false = refl

-- ---- a test that a call answered

pub told : (answer test : Bool) (outcome : Bool)
    → answer ≡ test → answer ≡ outcome → test ≡ outcome
told answer test outcome is seen = rw (← is) seen

pub denied : (answer test : Bool) → answer ≡ test → not answer ≡ true → test ≡ false
denied answer test is seen = rw (← is) (not-true answer seen)

pub granted : (answer test : Bool) → answer ≡ test → not answer ≡ false → test ≡ true
granted answer test is seen = rw (← is) (not-false answer seen)

pub ruleset answers = (told, denied, granted)

pub ruleset cases = (
  yes_case,
  no_case,
  eq-eqb,
  ne_eqb,
  le-leb,
  lt-leb,
  lt-ltb,
  le-ltb,
  both,
  not_first,
  not_second,
  at_first,
  at_second,
  neither,
)
