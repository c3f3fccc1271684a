-- A row of data words is as many turns of a run, whatever hears the words (`row_is_turns`). Assumes
-- nothing.
use mathlib.Core.Path.{◌≡◌, refl, sym, ap, ◌∙◌}
use mathlib.Core.Logic.{◌≢◌}
use mathlib.Core.Bool.{Bool}
use mathlib.Core.List.{List, [], ◌∷◌}
use Rattle.std.proofs.Common.{Option, Some, None}
use Prim.Native.Nat.{ℕ, zero, suc, ◌+◌, ◌-◌, ◌*◌, ◌≤◌, ◌<◌, ◌^◌}
use native.Mathlib.Omega.{arith}
use lib.ListN.{length}
use Rattle.bus.specs.declared.word.Word.{Word}
use Rattle.recording.specs.declared.words.Found.{Found}
use Rattle.recording.specs.AsCoded.Found.{found, word_found}
use Rattle.lines.specs.Written.{line_room}
use Rattle.pieces.specs.LastLine.{counted}
use Rattle.pieces.specs.Course.{Course}
use Rattle.pieces.specs.AsCoded.Window.{Passed, passing, turn, turns}
use Rattle.pieces.specs.AsCoded.Runner.{going_at, TurnsTaken}
use Rattle.lines.proofs.LineLaws.{nothing_written}
use Rattle.pieces.proofs.TurnLaws.{turn_by, one_turn}
use Rattle.rows.specs.declared.Row.{Row}
use Rattle.rows.specs.declared.Taken.{Taken}
use Rattle.rows.specs.Row.{
  marks_on,
  word_there,
  found_then,
  words_found,
  words_taken,
  row_stored,
  RowLeft,
  row_left,
  taken_as,
  row_taken,
}
use Rattle.rows.specs.Turns.{Hearing}
use Rattle.rows.proofs.FoundLaws.{found_next, is_data_word}
use Rattle.rows.proofs.TakenLaws.{found_few, some_taken}

-- no turn is taken
pub nothing_taken : {Run : Type 0} {course : Course Run} {window : List ℕ} {room most : ℕ}
    {old : Run} {at : ℕ} → TurnsTaken course window room most old at most old at
nothing_taken =
    record {
      fewer = omega arith;
      some_left = λ some. some;
      leads = λ last put out is_room. refl;
    }

-- ---- words are turns

-- counts are numbers of 64 bits
record Counts (fields offset : ℕ) : Type 0 where
  few : fields < 2 ^ 64
  near : offset < 2 ^ 64

module _ {Run Machine : Type 0} {course : Course Run} {run : Machine → ℕ → ℕ → Run}
    {hears : List Word → Machine → Machine} {Wants : Bool → ℕ → Machine → Type 0}
    (hearing : Hearing course run hears Wants) (window : List ℕ) (line : Bool) where
  module _ (last : Bool) (put : ℕ) (out : List ℕ) (enough : line_room ≤ length out - put) where
    -- a run among words
    abbrev among : ℕ → Machine → ℕ → ℕ → Passed Run
    among at old fields offset = going_at (run old fields offset) at put out

    word_is_turn : (more at : ℕ) (old : Machine) (fields offset value next : ℕ)
        → Wants line (suc more) old → word_found window at (marks_on line) ≡ Some (found value next)
        → turn course window last (among at old fields offset)
        ≡ among next (hears (word_there window line at value ∷ []) old)
        (counted (fields + 1)) (counted (offset + 10))
    unfolding passing
    word_is_turn more at old fields offset value next wants is =
        sym (turn_by course window last (among at old fields offset) enough
        (hearing.is_met line more old fields offset window at value next wants is))
        ∙ rw (← nothing_written line_room out put)

    -- behind so many words
    abbrev behind_all : List Word → ℕ → Machine → ℕ → ℕ → Passed Run
    behind_all words at old fields offset =
        among (at + 10 * length words) (hears words old)
        (counted (fields + length words)) (counted (offset + 10 * length words))

    no_word : (left at : ℕ) (old : Machine) (fields offset : ℕ) → Counts fields offset
        → turns course left window last (behind_all [] at old fields offset)
        ≡ turns course (0 + left) window last (among at old fields offset)
    no_word left at old fields offset counts =
        let same_at : at + 10 * 0 ≡ at = omega arith in
        let same_fields : counted (fields + 0) ≡ fields = omega (arith, counts.few) in
        let same_offset : counted (offset + 10 * 0) ≡ offset = omega (arith, counts.near) in
        let same_left : 0 + left ≡ left = omega arith in
        rw (hearing.none_heard old, same_at, same_fields, same_offset, same_left)

    words_are_turns : (fuel left at : ℕ) (old : Machine) (fields offset : ℕ)
        → Wants line fuel old
        → (length (words_found fuel window line at) ≡ 0 → Counts fields offset)
        → turns course left window last
        (behind_all (words_found fuel window line at) at old fields offset)
        ≡ turns course (length (words_found fuel window line at) + left) window last
        (among at old fields offset)
    unfolding words_found
    words_are_turns zero left at old fields offset wants counts =
        no_word left at old fields offset (counts refl)
    words_are_turns (suc fuel) left at old fields offset wants counts =
        go (words_are_turns fuel left) (word_found window at (marks_on line)) refl counts
      where
        go : ((at' : ℕ) (old' : Machine) (fields' offset' : ℕ) → Wants line fuel old'
            → (length (words_found fuel window line at') ≡ 0 → Counts fields' offset')
            → turns course left window last
            (behind_all (words_found fuel window line at') at' old' fields' offset')
            ≡ turns course (length (words_found fuel window line at') + left) window last
            (among at' old' fields' offset'))
            → (there : Option Found) → word_found window at (marks_on line) ≡ there
            → (length (found_then there (words_found fuel window line) window line at) ≡ 0
            → Counts fields offset)
            → turns course left window last
            (behind_all (found_then there (words_found fuel window line) window line at)
            at old fields offset)
            ≡ turns course
            (length (found_then there (words_found fuel window line) window line at) + left)
            window last (among at old fields offset)
        go shorter None is none = no_word left at old fields offset (none refl)
        go shorter (Some word) is none =
            let value : ℕ = word.value in
            let next : ℕ = word.next in
            let heard : Word = word_there window line at value in
            let new : Machine = hears (heard ∷ []) old in
            let rest : List Word = words_found fuel window line next in
            let moved : next ≡ at + 10 = found_next window line at value next is in
            let same_at : at + 10 * suc (length rest) ≡ next + 10 * length rest =
            omega (arith, moved) in
            let same_fields : counted (fields + suc (length rest))
            ≡ counted (counted (fields + 1) + length rest) = omega arith in
            let same_offset : counted (offset + 10 * suc (length rest))
            ≡ counted (counted (offset + 10) + 10 * length rest) = omega arith in
            let same_left : suc (length rest) + left ≡ suc (length rest + left) = omega arith in
            rw (same_at, same_fields, same_offset, same_left, hearing.one_heard heard rest old)
            (shorter next new (counted (fields + 1)) (counted (offset + 10))
            (hearing.wants_on line fuel old heard wants (is_data_word line value _))
            (λ _. record { few = omega arith; near = omega arith })
            ∙ one_turn course window last (length rest + left) (among at old fields offset)
            (among next new (counted (fields + 1)) (counted (offset + 10)))
            refl (word_is_turn fuel at old fields offset value next wants is))

  -- ---- a row is as many turns

  module _ (row : Row) (setup : Bool) (room most at : ℕ) (ram ram' : List ℕ) (told : Taken)
      (is_taken_lem : row_left told ram' ≡ row_taken window at line setup room most row ram)
      (some : told.words ≢ 0) where
    pub row_is_turns : (old new : Machine) (fields offset : ℕ)
        → Wants line (row.end - row.cell) old → new ≡ hears (words_taken window at line row) old
        → TurnsTaken course window room most (run old fields offset) at told.left
        (run new (counted (fields + told.words)) (counted (offset + 10 * told.words)))
        told.at
    row_is_turns old new fields offset wants is_new =
        let tells = some_taken window line setup room most at row ram told ram' is_taken_lem some in
        let found : List Word = words_taken window at line row in
        let same : told ≡ (taken_as (length found) most (row_stored window at line row ram)).taken =
        ap (λ (any : RowLeft). any.taken) tells.is_row in
        let as_many : told.words ≡ length found = ap (λ (any : Taken). any.words) same in
        let few = found_few window line row at in
        let all : length found + (most - length found) ≡ most =
        omega (arith, few, tells.able.many) in
        record {
          fewer = rw same (omega arith);
          some_left = λ _. rw same (omega (arith, few, tells.able.many));
          leads = λ last put out is_room.
              rw (same, is_new)
              (words_are_turns last put out (rw is_room at tells.able.enough)
              (row.end - row.cell) (most - length found) at old fields offset wants
              (λ none. absurd (some (as_many ∙ none)))
              ∙ ap (λ (any : ℕ). turns course any window last
              (going_at (run old fields offset) at put out)) all);
        }
