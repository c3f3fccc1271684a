-- An answer of the reader tells all of a reading: two that are one reading are the same. Assumes
-- nothing.
use Rattle.std.proofs.Common.{◌≡◌, ℕ, Option, Some, None, Result, Ok, Err, ap, ◌∙◌}
use Rattle.refusals.specs.declared.Refusal.{Refusal}
use Rattle.refusals.proofs.NumberLaws.{same_refusal}
use Rattle.recording.specs.declared.field.Field.{Field}
use Rattle.recording.specs.declared.reading.Taken.{Taken}
use Rattle.recording.specs.declared.reading.Refused.{Refused}
use Rattle.recording.specs.Reading.{reading}

pub same_reading : (one other : Result (Option Taken) Refused) → reading one ≡ reading other
    → one ≡ other
same_reading (Ok (Some one)) (Ok (Some other)) same =
    let field : one.field ≡ other.field = cc in
    let next : one.next ≡ other.next = cc in
    ap (λ (any : Field). Ok (Some (record { field = any; next = one.next }))) field
    ∙ ap (λ (any : ℕ). Ok (Some (record { field = other.field; next = any }))) next
same_reading (Ok (Some one)) (Ok None) same = absurd (cc)
same_reading (Ok (Some one)) (Err other) same = absurd (cc)
same_reading (Ok None) (Ok (Some other)) same = absurd (cc)
same_reading (Ok None) (Ok None) same = cc
same_reading (Ok None) (Err other) same = absurd (cc)
same_reading (Err one) (Ok (Some other)) same = absurd (cc)
same_reading (Err one) (Ok None) same = absurd (cc)
same_reading (Err one) (Err other) same =
    let told : Some one.refusal ≡ Some other.refusal =
    same_refusal (Some one.refusal) (Some other.refusal) cc in
    let refusal : one.refusal ≡ other.refusal = cc in
    let place : one.place ≡ other.place = cc in
    ap (λ (any : Refusal). Err (record { refusal = any; place = one.place })) refusal
    ∙ ap (λ (any : ℕ). Err (record { refusal = other.refusal; place = any })) place
