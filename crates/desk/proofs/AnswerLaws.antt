-- An answer of the reader tells all of a reading: two that are one reading are the same. Assumes
-- nothing.
use Rattle.std.proofs.Common.{◌≡◌, ℕ, Option, Some, None, Result, Ok, Err, ap, ◌∙◌}
use Rattle.refusals.specs.declared.Refusal.{Refusal}
use Rattle.refusals.proofs.NumberLaws.{same_refusal}
use Rattle.desk.specs.declared.field.Field.{Field}
use Rattle.desk.specs.declared.reading.Taken.{Taken}
use Rattle.desk.specs.Reading.{reading}

pub same_reading : (one other : Result (Option Taken) Refusal) → reading one ≡ reading other
    → one ≡ other
same_reading (Ok (Some one)) (Ok (Some other)) same =
    let field : one.field ≡ other.field = cc in
    let next : one.next ≡ other.next = cc in
    ap (λ (any : Field). Ok (Some (record { field = any; next = one.next }))) field
    ∙ ap (λ (any : ℕ). Ok (Some (record { field = other.field; next = any }))) next
same_reading (Ok (Some one)) (Ok None) same = absurd (cc)
same_reading (Ok (Some one)) (Err other) same = absurd (cc)
same_reading (Ok None) (Ok (Some other)) same = absurd (cc)
same_reading (Ok None) (Ok None) same = cc
same_reading (Ok None) (Err other) same = absurd (cc)
same_reading (Err one) (Ok (Some other)) same = absurd (cc)
same_reading (Err one) (Ok None) same = absurd (cc)
same_reading (Err one) (Err other) same =
    let told : Some one ≡ Some other = same_refusal (Some one) (Some other) cc in
    let refusal : one ≡ other = cc in
    ap (λ (any : Refusal). Err any) refusal
