-- A course at work, the smallest that has all there is: a field is a byte, which is added up, and
-- the run itself refuses by 14 what would go above 255. It is steady (`summing_is_steady`); one
-- that takes all the bytes that are there is not (`greedy_is_not_steady`). Assumes nothing.
use mathlib.Core.Path.{◌≡◌, refl, subst}
use mathlib.Core.Bool.{Bool, true, false, cond}
use mathlib.Core.List.{List, [], ◌∷◌, ◌++◌}
use Prim.Native.Nat.{ℕ, ◌+◌, ◌≤◌, ◌<◌}
use native.Mathlib.Omega.{arith}
use lib.Dec.{ltb}
use lib.ListN.{length, drop, length-drop}
use Rattle.rules.proofs.Clash.{clash}
use Rattle.lines.specs.Lines.{queue_line, refusal_line}
use Rattle.lines.specs.Written.{line_room}
use Rattle.lines.proofs.Lengths.{length_queue_line}
use Rattle.pieces.specs.LastLine.{counted, last_line}
use Rattle.pieces.specs.Course.{Met, taken, at_end, refused, Course, waits, further_on}
use Rattle.pieces.specs.Whole.{whole_of, whole_by, whole_from}
use Rattle.pieces.specs.Steady.{Steady}
use Rattle.pieces.proofs.CourseLaws.{same_next, same_line}

-- ---- bytes that are added up

record Sum : Type 0 where
  sum : ℕ
  fields : ℕ
  offset : ℕ

-- one byte more
added : ℕ → Sum → Sum
added byte old =
    record {
      sum = old.sum + byte;
      fields = counted (old.fields + 1);
      offset = counted (old.offset + 1);
    }

byte_met : ℕ → ℕ → Sum → Met Sum
byte_met byte at old =
    cond (ltb 255 (old.sum + byte)) (refused 14)
    (taken (at + 1) (queue_line (old.sum + byte)) (added byte old))

-- of the bytes that are left from a place on
first_met : List ℕ → ℕ → Sum → Met Sum
first_met [] at old = at_end
first_met (byte ∷ rest) at old = byte_met byte at old

summing : Course Sum
summing =
    record {
      fields = λ old. old.fields;
      offset = λ old. old.offset;
      meets = λ old bytes at. first_met (drop at bytes) at old;
    }

-- 200 and 50 are taken, 10 is not: the offset of that byte is 2
the_sum_is_refused :
    (whole_from summing (record { sum = 0; fields = 0; offset = 0 }) (200 ∷ 50 ∷ 10 ∷ [])).text
    ≡ queue_line 200 ++ (queue_line 250 ++ refusal_line 14 2)
unfolding whole_from whole_by whole_of summing first_met byte_met added last_line queue_line
the_sum_is_refused = refl

-- ---- it is steady

-- by whether the sum goes too high
by_sum : (byte at : ℕ) (old : Sum) (Claim : Met Sum → Type 0) → Claim (refused 14)
    → Claim (taken (at + 1) (queue_line (old.sum + byte)) (added byte old))
    → Claim (byte_met byte at old)
unfolding byte_met
by_sum byte at old Claim high low = go (ltb 255 (old.sum + byte)) where
  go : (test : Bool)
      → Claim (cond test (refused 14)
      (taken (at + 1) (queue_line (old.sum + byte)) (added byte old)))
  go true = high
  go false = low

-- what is met is met alike wherever it stands
further : (left : List ℕ) (at : ℕ) (old : Sum)
    → first_met left at old ≡ further_on at (first_met left 0 old)
unfolding first_met byte_met
further [] at old = refl
further (byte ∷ rest) at old = go (ltb 255 (old.sum + byte)) where
  go : (test : Bool)
      → cond test (refused 14) (taken (at + 1) (queue_line (old.sum + byte)) (added byte old))
      ≡ further_on at
      (cond test (refused 14) (taken (0 + 1) (queue_line (old.sum + byte)) (added byte old)))
  go true = refl
  go false = refl

-- no byte behind changes what is met
stays : (bytes behind : List ℕ) (old : Sum) (met : Met Sum) → waits met ≡ false
    → first_met bytes 0 old ≡ met → first_met (bytes ++ behind) 0 old ≡ met
unfolding first_met
stays [] behind old met settled is = absurd (clash (cc))
stays (byte ∷ rest) behind old met settled is = is

-- it waits at the end alone
few : (left : List ℕ) (at : ℕ) (old : Sum) → waits (first_met left at old) ≡ true → length left < 1
unfolding first_met
few [] at old wait = omega arith
few (byte ∷ rest) at old wait = absurd (go wait) where
  go : waits (byte_met byte at old) ≡ true → ⊥
  go = by_sum byte at old (λ (met : Met Sum). waits met ≡ true → ⊥) (λ is. clash (cc))
      (λ is. clash (cc))

-- what is taken
record One (left : List ℕ) (at next : ℕ) (line : List ℕ) : Type 0 where
  is_next : at + 1 ≡ next
  there : 0 < length left
  fits : length line ≤ line_room

one : (left : List ℕ) (at : ℕ) (old : Sum) {next : ℕ} {line : List ℕ} {new : Sum}
    → first_met left at old ≡ taken next line new → One left at next line
unfolding first_met
one [] at old is = absurd (clash (cc))
one (byte ∷ rest) at old {next} {line} {new} is = go is where
  go : byte_met byte at old ≡ taken next line new → One (byte ∷ rest) at next line
  go =
      by_sum byte at old
      (λ (met : Met Sum). met ≡ taken next line new → One (byte ∷ rest) at next line)
      (λ differ. absurd (clash (cc)))
      (λ same. record {
        is_next = same_next same;
        there = omega arith;
        fits =
            subst (λ (any : List ℕ). length any ≤ line_room) (same_line same)
            (length_queue_line (old.sum + byte));
      })

summing_is_steady : Steady summing 1
unfolding summing first_met
summing_is_steady =
    record {
      from_the_place = λ old bytes at. further (drop at bytes) at old;
      stays_taken = λ old bytes behind is. stays bytes behind old _ refl is;
      stays_refused = λ old bytes behind is settled. stays bytes behind old _ settled is;
      end_of_none = λ old. refl;
      few_left =
          λ old bytes at wait. omega (arith, few (drop at bytes) at old wait, length-drop at bytes);
      moves_on = λ old bytes at is. omega (arith, (one (drop at bytes) at old is).is_next);
      ends_inside =
          λ old bytes at is.
          omega (
            arith,
            (one (drop at bytes) at old is).is_next,
            (one (drop at bytes) at old is).there,
            length-drop at bytes,
          );
      line_fits = λ old bytes at is. (one (drop at bytes) at old is).fits;
    }

-- ---- one that is not

-- all the bytes that are there are one field
greedy : Course Sum
greedy =
    record {
      fields = λ old. old.fields;
      offset = λ old. old.offset;
      meets = λ old bytes at. taken (length bytes) [] old;
    }

greedy_is_not_steady : (longest : ℕ) → Steady greedy longest → ⊥
unfolding greedy
greedy_is_not_steady longest steady =
    let start : Sum = record { sum = 0; fields = 0; offset = 0 } in
    let same : ◌≡◌ {A = ℕ} 2 1 = same_next (steady.stays_taken start (7 ∷ []) (8 ∷ []) refl) in
    omega (arith, same)
