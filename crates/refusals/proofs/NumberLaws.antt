-- No two refusals have one number, and none has 0, so a number tells which one it is, or that there
-- is none. Assumes nothing.
use Rattle.std.proofs.Common.{
  ◌≡◌,
  ℕ,
  [],
  ◌∷◌,
  get_or,
  true,
  false,
  Option,
  Some,
  None,
  Result,
  Ok,
  Err,
  refl,
  sym,
  ◌∙◌,
  ap,
}
use Rattle.std.specs.Option.{is_some}
use Rattle.rules.proofs.Clash.{clash}
use Rattle.std.specs.Result.{result_unwrap_or}
use Rattle.refusals.specs.declared.Refusal.{Refusal}
use Rattle.refusals.specs.declared.Refusal.TheVariants.{
  Memory,
  Station,
  TableBlock,
  State,
  Cut,
  Tag,
  Length,
  Value,
  Order,
  Room,
  Format,
}
use Rattle.refusals.specs.Number.{number_of, refusal_in, refused, outcome_in}

-- the refusal of a number
abbrev refusal_of : ℕ → Option Refusal
refusal_of number =
    get_or
    (None ∷ Some Memory ∷ Some Station ∷ Some TableBlock ∷ Some State ∷ Some Cut ∷ Some Tag
    ∷ Some Length ∷ Some Value ∷ Some Order ∷ Some Room ∷ None ∷ None ∷ None ∷ Some Format ∷ [])
    number None

numbered : (refusal : Refusal) → refusal_of (number_of refusal) ≡ Some refusal
numbered Memory = refl
numbered Station = refl
numbered TableBlock = refl
numbered State = refl
numbered Cut = refl
numbered Tag = refl
numbered Length = refl
numbered Value = refl
numbered Order = refl
numbered Room = refl
numbered Format = refl

-- nothing refused included
told : (perhaps : Option Refusal) → refusal_of (refusal_in perhaps) ≡ perhaps
told None = refl
told (Some refusal) = numbered refusal

pub same_refusal : (one other : Option Refusal) → refusal_in one ≡ refusal_in other → one ≡ other
same_refusal one other same = sym (told one) ∙ ap refusal_of same ∙ told other

-- ---- whether there is one

pub some_refused : (perhaps : Option Refusal) → is_some perhaps ≡ true → refusal_in perhaps ≡ 0 → ⊥
some_refused None is none = absurd (clash (cc))
some_refused (Some refusal) is none =
    let nothing : Some refusal ≡ None = same_refusal (Some refusal) None none in
    absurd (clash (cc))

pub none_refused : (perhaps : Option Refusal) → is_some perhaps ≡ false → refusal_in perhaps ≡ 0
none_refused None is = refl
none_refused (Some refusal) is = absurd (clash (cc))

-- ---- an action that gives nothing back: its number tells what it answered

pub same_outcome : (one other : Result Unit Refusal) → refused one ≡ refused other → one ≡ other
same_outcome (Ok done) (Ok done') same = refl
same_outcome (Ok done) (Err refusal) same = absurd (some_refused (Some refusal) refl (sym same))
same_outcome (Err refusal) (Ok done) same = absurd (some_refused (Some refusal) refl same)
same_outcome (Err refusal) (Err refusal') same =
    let both : Some refusal ≡ Some refusal' = same_refusal (Some refusal) (Some refusal') same in
    cc

-- ---- an action that may give something back: its number and that tell what it answered

-- the answer of a refusal and what is given back
abbrev answer_of : {A : Type 0} → Option Refusal → Option A → Result (Option A) Refusal
answer_of None outcome = Ok outcome
answer_of (Some refusal) outcome = Err refusal

answered : {A : Type 0} (answer : Result (Option A) Refusal)
    → answer_of (refusal_of (refused answer)) (outcome_in answer) ≡ answer
answered (Ok outcome) = refl
answered (Err refusal) = ap (λ (any : Option Refusal). answer_of any None) (numbered refusal)

pub same_answer : {A : Type 0} (one other : Result (Option A) Refusal)
    → refused one ≡ refused other → outcome_in one ≡ outcome_in other → one ≡ other
same_answer {A} one other same_number same_outcome =
    sym (answered one)
    ∙ ap (λ (any : ℕ). answer_of (refusal_of any) (outcome_in one)) same_number
    ∙ ap (λ (any : Option A). answer_of (refusal_of (refused other)) any) same_outcome
    ∙ answered other

-- ---- an action that gives something back: its number and that, or another thing where it is
-- refused, tell what it answered

pub same_given : {A : Type 0} (none : A) (one other : Result A Refusal)
    → refused one ≡ refused other → result_unwrap_or one none ≡ result_unwrap_or other none
    → one ≡ other
same_given none (Ok done) (Ok done') same_number same = ap Ok same
same_given none (Ok done) (Err refusal) same_number same =
    absurd (some_refused (Some refusal) refl (sym same_number))
same_given none (Err refusal) (Ok done) same_number same =
    absurd (some_refused (Some refusal) refl same_number)
same_given none (Err refusal) (Err refusal') same_number same =
    let both : Some refusal ≡ Some refusal' =
    same_refusal (Some refusal) (Some refusal') same_number in
    cc
