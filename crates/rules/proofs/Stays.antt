-- What stays as it was when more is known: a choice by tests, some of which more may decide
-- otherwise, where what it came to is settled. Assumes nothing.
use mathlib.Core.Path.{◌≡◌, refl, sym, ◌∙◌}
use mathlib.Core.Bool.{Bool, true, false, cond, true≢false}

module _ {A : Type 0} (is_settled : A → Bool) where
  -- what is settled is the same then
  pub record Stays (old new : A) : Type 0 where
    pub stays : is_settled old ≡ true → new ≡ old

  pub same : {value : A} → Stays value value
  same = record { stays = λ _. refl }

  -- a test that more may decide otherwise stands before what is not settled ..
  pub open_way : (old : A) {left left' : A} (test test' : Bool) → is_settled old ≡ false
      → (test ≡ false → test' ≡ false) → (test ≡ false → Stays left left')
      → Stays (cond test old left) (cond test' old left')
  open_way old true test' unsettled still rest =
      record { stays = λ settled. absurd (true≢false (sym settled ∙ unsettled)) }
  open_way old false test' unsettled still rest =
      record { stays = λ settled. rw (still refl) ((rest refl).stays settled) }

  -- .. and every other test is as it was
  pub same_way : (old : A) {left left' : A} (test : Bool) → (test ≡ false → Stays left left')
      → Stays (cond test old left) (cond test old left')
  same_way old true rest = same
  same_way old false rest = rest refl

  -- both ways may have changed
  pub either_way : {taken taken' left left' : A} (test : Bool)
      → (test ≡ true → Stays taken taken') → (test ≡ false → Stays left left')
      → Stays (cond test taken left) (cond test taken' left')
  either_way true holds fails = holds refl
  either_way false holds fails = fails refl
