-- What a row leaves: how the code comes to it, and what it tells where there were words. Assumes
-- nothing.
use mathlib.Core.Path.{◌≡◌, refl, sym, ap, ◌∙◌}
use mathlib.Core.Logic.{◌≢◌}
use mathlib.Core.Bool.{Bool, true, false, ◌&&◌}
use mathlib.Core.List.{List}
use Prim.Native.Nat.{ℕ, ◌+◌, ◌-◌, ◌≤◌, ◌<◌}
use native.Mathlib.Omega.{arith}
use lib.Dec.{leb, ltb}
use lib.ListN.{length}
use borrow.Author.Tests.{leb-true, ltb-true}
use Rattle.rules.proofs.Empty.{no_entries}
use Rattle.rules.proofs.Halves.{first_of_both, second_of_both}
use Rattle.bus.specs.declared.word.Word.{Word}
use Rattle.bus.specs.DataWords.{values_of}
use Rattle.card.specs.Memory.{with_cells}
use Rattle.lines.specs.Written.{line_room}
use Rattle.rows.specs.declared.Row.{Row}
use Rattle.rows.specs.declared.Reach.{Reach}
use Rattle.rows.specs.declared.Taken.{Taken}
use Rattle.rows.specs.Row.{
  Stored,
  stored,
  words_taken,
  row_stored,
  may_take,
  RowLeft,
  row_left,
  taken_as,
  row_taken,
}
use Rattle.rows.proofs.FoundLaws.{found_at_most}

-- ---- what the test allows

pub record Able (row : Row) (setup : Bool) (room most : ℕ) : Type 0 where
  pub after_setup : setup ≡ true
  pub enough : line_room ≤ room
  pub many : row.end < most
  pub more : row.cell < row.end

able_tells : (row : Row) (setup : Bool) (room most : ℕ) → may_take row setup room most ≡ true
    → Able row setup room most
able_tells row setup room most is =
    let enough = leb line_room room in
    let many = ltb row.end most in
    let more = ltb row.cell row.end in
    let to_many = first_of_both (setup && enough && many) more is in
    let to_enough = first_of_both (setup && enough) many to_many in
    record {
      after_setup = first_of_both setup enough to_enough;
      enough = leb-true line_room room (second_of_both setup enough to_enough);
      many = ltb-true row.end most (second_of_both (setup && enough) many to_many);
      more = ltb-true row.cell row.end (second_of_both (setup && enough && many) more is);
    }

pub found_few : (window : List ℕ) (line : Bool) (row : Row) (at : ℕ)
    → length (words_taken window at line row) ≤ row.end - row.cell
found_few window line row at = found_at_most window line (row.end - row.cell) at

module _ (window : List ℕ) (line setup : Bool) (room most at : ℕ) (row : Row) (ram : List ℕ) where
  abbrev found : List Word
  found = words_taken window at line row

  -- ---- how the code comes to it

  pub not_taken : may_take row setup room most ≡ false
      → row_left (record { words = 0; cell = row.cell; at = at; left = most }) ram
      ≡ row_taken window at line setup room most row ram
  unfolding row_taken
  not_taken other = rw other

  module _ (ram' : List ℕ) (reach : Reach) (able : may_take row setup room most ≡ true)
      (is_stored : stored reach ram' ≡ row_stored window at line row ram) where
    longer : reach.cell ≡ row.cell + length found
    longer = ap (λ (any : Stored). any.reach.cell) is_stored

    pub words_grow : row.cell ≤ reach.cell
    words_grow = omega (arith, longer)

    pub words_fit : reach.cell - row.cell ≤ most
    words_fit =
        let tells = able_tells row setup room most able in
        omega (arith, longer, found_few window line row at, tells.many)

    pub words_taken_lem : (words left : ℕ) → words ≡ reach.cell - row.cell → left ≡ most - words
        → row_left (record {
          words = words;
          cell = reach.cell;
          at = reach.at;
          left = left;
        }) ram'
        ≡ row_taken window at line setup room most row ram
    unfolding row_taken
    words_taken_lem words left is_words is_left =
        let as_many : words ≡ length found = omega (arith, is_words, longer) in
        rw (able, is_left, as_many)
        (ap (λ (new : Stored). taken_as (length found) most new) is_stored)

  -- ---- what it tells

  pub record SomeTaken (told : Taken) (ram' : List ℕ) : Type 0 where
    pub able : Able row setup room most
    pub is_row : row_left told ram'
        ≡ taken_as (length found) most (row_stored window at line row ram)

  module _ (told : Taken) (ram' : List ℕ)
      (is_taken_lem : row_left told ram' ≡ row_taken window at line setup room most row ram) where
    -- where there were words they are the row's
    pub some_taken : told.words ≢ 0 → SomeTaken told ram'
    unfolding row_taken
    some_taken some = go (may_take row setup room most) refl where
      go : (may : Bool) → may_take row setup room most ≡ may → SomeTaken told ram'
      go true is =
          record { able = able_tells row setup room most is; is_row = rw is at is_taken_lem }
      go false is =
          absurd (some (ap (λ (any : RowLeft). any.taken.words) (rw is at is_taken_lem)))

    -- where there were none the memory is as it was
    pub none_taken : told.words ≡ 0 → ram' ≡ ram
    unfolding row_taken with_cells
    none_taken none = go (may_take row setup room most) refl where
      go : (may : Bool) → may_take row setup room most ≡ may → ram' ≡ ram
      go true is =
          let same = rw is at is_taken_lem in
          let no_words : length found ≡ 0 =
          sym (ap (λ (any : RowLeft). any.taken.words) same) ∙ none in
          ap (λ (any : RowLeft). any.ram) same
          ∙ ap (λ (words : List Word). with_cells ram row.block row.cell (values_of words))
          (no_entries found no_words)
      go false is = ap (λ (any : RowLeft). any.ram) (rw is at is_taken_lem)

pub ruleset takes = (not_taken, words_grow, words_fit, words_taken_lem)
