-- Where the reader waits for bytes, at their end or at refusal 5, fewer are left than the longest
-- field has, 133. Assumes nothing.
use mathlib.Core.Path.{◌≡◌, refl, ap, subst, ◌∙◌}
use mathlib.Core.Bool.{Bool, true, false, ◌||◌}
use mathlib.Core.List.{List}
use Prim.Native.Nat.{ℕ, ◌+◌, ◌<◌}
use native.Mathlib.Decide.{dec_lt}
use native.Mathlib.Omega.{arith}
use lib.Dec.{eqb}
use lib.ListN.{length}
use borrow.Author.Tests.{eqb-true}
use Rattle.rules.proofs.Clash.{clash}
use Rattle.recording.specs.declared.seen.Seen.{Seen}
use Rattle.recording.specs.Reading.{End, Refused, read_at}
use Rattle.recording.specs.AsCoded.Pieces.{is_settled}
use Rattle.recording.proofs.TakenLaws.{is_reader_number, refused_names_place}
use Rattle.recording.proofs.MoreBytes.{settled_by_133}

module _ (bytes : List ℕ) (place : ℕ) (seen : Seen) where
  -- no 133 bytes leave a reading unsettled
  few_unsettled : is_settled (read_at bytes place seen) ≡ false → length bytes < place + 133
  few_unsettled unsettled =
      elim (dec_lt (length bytes) (place + 133)) [
        | yes few ↦ few
        | no many ↦
            let settled : is_settled (read_at bytes place seen) ≡ true =
            settled_by_133 bytes place seen (omega arith) in
            absurd (clash (cc))
      ]

  pub few_at_the_end : read_at bytes place seen ≡ End → length bytes < place + 133
  few_at_the_end is = few_unsettled (ap is_settled is)

  -- no refusal has number 0
  number_waits : (number : ℕ) → is_reader_number number ≡ true
      → (eqb number 0 || eqb number 5) ≡ true → eqb number 5 ≡ true
  number_waits number told may = go (eqb number 0) refl where
    go : (none : Bool) → eqb number 0 ≡ none → eqb number 5 ≡ true
    go true is =
        let wrong : false ≡ true =
        subst (λ (any : ℕ). is_reader_number any ≡ true) (eqb-true number 0 is) told in
        absurd (clash (cc))
    go false is = rw is at may

  pub few_at_a_refusal : {number named : ℕ} → read_at bytes place seen ≡ Refused number named
      → (eqb number 0 || eqb number 5) ≡ true → length bytes < place + 133
  few_at_a_refusal {number} is wait =
      let five : eqb number 5 ≡ true =
      number_waits number (refused_names_place bytes place seen is).of_the_reader wait in
      few_unsettled (ap is_settled is ∙ rw five)
