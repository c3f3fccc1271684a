-- The laws of `specs/Reading.antt`, as the code comes to each reading. Assumes nothing.
use Rattle.std.proofs.Common.{
  ◌≡◌,
  ℕ,
  ◌+◌,
  ◌*◌,
  ◌<◌,
  ◌≤◌,
  Bool,
  true,
  false,
  cond,
  not,
  eqb,
  List,
  length,
  sym,
  true≢false,
  arith,
  le-ltb,
  lt-ltb,
  eq-eqb,
  ne_eqb,
}
use native.Mathlib.Decide.{ℕ_discrete, dec_lt}
use Rattle.refusals.specs.declared.Refusal.{Refusal}
use Rattle.refusals.specs.Number.{number_of}
use Rattle.recording.specs.declared.seen.Seen.{Seen}
use Rattle.recording.specs.Bytes.{bytes_left, byte_at, word_at}
use Rattle.recording.specs.Reading as recording
use Rattle.recording.proofs.ReadingLaws.{not_none}
use Rattle.desk.specs.declared.field.Field.TheVariants.{Setup, Start}
use Rattle.desk.specs.Reading.{
  Reading,
  Taken,
  End,
  Refused,
  setup_tag,
  start_tag,
  own_refusal,
  own_at,
  is_shared,
  shared_as,
  read_at,
}

-- ---- a field of the controller's own

-- neither 9 nor 0 waits for bytes
due_waits : (due : Bool) → eqb (cond (not due) 9 0) 5 ≡ true → ⊥
due_waits true five = true≢false (sym five)
due_waits false five = true≢false (sym five)

module _ (bytes : List ℕ) (place size : ℕ) (due : Bool) where
  -- one that is not refused stands whole
  pub own_whole : own_refusal bytes place size due ≡ 0 → 3 + size ≤ bytes_left bytes place
  unfolding own_refusal
  own_whole none =
      let left : ℕ = bytes_left bytes place in
      elim (dec_lt left 3) [
        | yes short ↦ absurd (omega (arith, rw (lt-ltb left 3 short) at none))
        | no headed ↦
            elim (ℕ_discrete (word_at bytes (place + 1)) size) [
              | no other ↦
                  absurd (omega (
                    arith,
                    rw (
                      le-ltb left 3 (omega arith),
                      ne_eqb (word_at bytes (place + 1)) size other,
                    ) at none,
                  ))
              | yes same ↦
                  elim (dec_lt left (3 + size)) [
                    | yes cut ↦
                        absurd (omega (
                          arith,
                          rw (
                            le-ltb left 3 (omega arith),
                            eq-eqb (word_at bytes (place + 1)) size same,
                            lt-ltb left (3 + size) cut,
                          ) at none,
                        ))
                    | no whole ↦ omega arith
                  ]
            ]
      ]

  -- one that waits for bytes does not
  pub own_waits : eqb (own_refusal bytes place size due) 5 ≡ true
      → bytes_left bytes place < 3 + size
  unfolding own_refusal
  own_waits five =
      let left : ℕ = bytes_left bytes place in
      elim (dec_lt left (3 + size)) [
        | yes cut ↦ cut
        | no whole ↦
            elim (ℕ_discrete (word_at bytes (place + 1)) size) [
              | no other ↦
                  let seven : eqb 7 5 ≡ true =
                  rw (
                    le-ltb left 3 (omega arith),
                    ne_eqb (word_at bytes (place + 1)) size other,
                  ) at five in
                  absurd (true≢false (sym seven))
              | yes same ↦ absurd (due_waits due (rw (
                le-ltb left 3 (omega arith),
                eq-eqb (word_at bytes (place + 1)) size same,
                le-ltb left (3 + size) (omega arith),
              ) at five))
            ]
      ]

  -- the number, test by test
  module _ (left told : ℕ) (is_left : left ≡ bytes_left bytes place)
      (is_told : told ≡ byte_at bytes (place + 1) * 256 + byte_at bytes (place + 2)) where
    same_length : told ≡ word_at bytes (place + 1)
    same_length =
        let two : place + 2 ≡ place + 1 + 1 = omega arith in
        rw (is_told, two)

    module _ (headed : 3 ≤ left) where
      pub other_length : (told ≡ size → ⊥) → 7 ≡ own_refusal bytes place size due
      unfolding own_refusal
      other_length other =
          rw (← is_left, ← same_length, le-ltb left 3 headed, ne_eqb told size other)

      module _ (same : told ≡ size) where
        pub value_cut : left < 3 + size → 5 ≡ own_refusal bytes place size due
        unfolding own_refusal
        value_cut cut =
            rw (
              ← is_left,
              ← same_length,
              le-ltb left 3 headed,
              eq-eqb told size same,
              lt-ltb left (3 + size) cut,
            )

        module _ (whole : 3 + size ≤ left) where
          pub not_in_order : not due ≡ true → 9 ≡ own_refusal bytes place size due
          unfolding own_refusal
          not_in_order turned =
              rw (
                ← is_left,
                ← same_length,
                le-ltb left 3 headed,
                eq-eqb told size same,
                le-ltb left (3 + size) whole,
                turned,
              )

          pub stands : not due ≡ false → 0 ≡ own_refusal bytes place size due
          unfolding own_refusal
          stands in_order =
              rw (
                ← is_left,
                ← same_length,
                le-ltb left 3 headed,
                eq-eqb told size same,
                le-ltb left (3 + size) whole,
                in_order,
              )

  pub length_cut : (left : ℕ) → left ≡ bytes_left bytes place → left < 3
      → 5 ≡ own_refusal bytes place size due
  unfolding own_refusal
  length_cut left is_left short = rw (← is_left, lt-ltb left 3 short)

pub ruleset own_refusals = (length_cut, other_length, value_cut, not_in_order, stands)

-- ---- what stands at a place

module _ (bytes : List ℕ) (place : ℕ) (seen : Seen) where
  pub nothing_left : length bytes ≤ place → End ≡ read_at bytes place seen
  unfolding read_at
  nothing_left past = rw (eq-eqb (bytes_left bytes place) 0 (omega arith))

  module _ (some : place < length bytes) where
    left_some : bytes_left bytes place ≡ 0 → ⊥
    left_some none = omega arith

    some_left : eqb (bytes_left bytes place) 0 ≡ false
    some_left = ne_eqb (bytes_left bytes place) 0 left_some

    module _ (setup : byte_at bytes place ≡ setup_tag) where
      pub setup_refused : (refusal : Refusal)
          → number_of refusal ≡ own_refusal bytes place 4 (not seen.setup)
          → Refused (number_of refusal) ≡ read_at bytes place seen
      unfolding read_at own_at
      setup_refused refusal is =
          rw (some_left, setup, ← is, ne_eqb (number_of refusal) 0 (not_none refusal))

      pub setup_taken : (control count : ℕ)
          → own_refusal bytes place 4 (not seen.setup) ≡ 0
          → control ≡ byte_at bytes (place + 3) * 256 + byte_at bytes (place + 4)
          → count ≡ byte_at bytes (place + 5) * 256 + byte_at bytes (place + 6)
          → Taken (Setup control count) (place + 7) ≡ read_at bytes place seen
      unfolding read_at own_at
      setup_taken control count none is_control is_count =
          let four : place + 4 ≡ place + 3 + 1 = omega arith in
          let six : place + 6 ≡ place + 5 + 1 = omega arith in
          let seven : place + 3 + 4 ≡ place + 7 = omega arith in
          rw (some_left, setup, none, is_control, is_count, four, six, seven)

    module _ (start : byte_at bytes place ≡ start_tag) where
      pub start_refused : (refusal : Refusal)
          → number_of refusal ≡ own_refusal bytes place 0 seen.setup
          → Refused (number_of refusal) ≡ read_at bytes place seen
      unfolding read_at own_at
      start_refused refusal is =
          rw (some_left, start, ← is, ne_eqb (number_of refusal) 0 (not_none refusal))

      pub start_taken : own_refusal bytes place 0 seen.setup ≡ 0
          → Taken Start (place + 3) ≡ read_at bytes place seen
      unfolding read_at own_at
      start_taken none =
          let three : place + 3 + 0 ≡ place + 3 = omega arith in
          rw (some_left, start, none, three)

    module _ (no_setup : byte_at bytes place ≡ setup_tag → ⊥)
        (no_start : byte_at bytes place ≡ start_tag → ⊥) where
      pub tag_unknown : is_shared (byte_at bytes place) ≡ false
          → Refused 6 ≡ read_at bytes place seen
      unfolding read_at
      tag_unknown other =
          rw (
            some_left,
            ne_eqb (byte_at bytes place) setup_tag no_setup,
            ne_eqb (byte_at bytes place) start_tag no_start,
            other,
          )

      pub tag_shared : (reading : Reading) → is_shared (byte_at bytes place) ≡ true
          → reading ≡ shared_as (recording.read_at bytes place seen)
          → reading ≡ read_at bytes place seen
      unfolding read_at
      tag_shared reading known same =
          rw (
            some_left,
            ne_eqb (byte_at bytes place) setup_tag no_setup,
            ne_eqb (byte_at bytes place) start_tag no_start,
            known,
          ) same

pub ruleset readings = (
  nothing_left,
  setup_refused,
  setup_taken,
  start_refused,
  start_taken,
  tag_unknown,
  tag_shared,
)
