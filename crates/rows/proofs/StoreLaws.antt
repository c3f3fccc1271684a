-- The loop that stores a row, as the code does. Assumes nothing.
use mathlib.Core.Path.{◌≡◌, refl, sym, ◌∙◌}
use mathlib.Core.Bool.{Bool}
use mathlib.Core.List.{List, [], ◌∷◌}
use Rattle.std.proofs.Common.{Option, Some, None}
use Prim.Native.Nat.{ℕ, suc, ◌+◌, ◌-◌, ◌*◌, ◌≤◌, ◌<◌}
use native.Mathlib.Omega.{arith}
use lib.ListN.{length}
use Rattle.bus.specs.declared.word.Word.{Word}
use Rattle.card.specs.declared.place.Block.{Block}
use Rattle.card.specs.Memory.{the_cell, with_cell, with_cells}
use Rattle.recording.specs.declared.words.Found.{Found}
use Rattle.recording.specs.AsCoded.Found.{found, word_found}
use Rattle.rows.specs.declared.Row.{Row}
use Rattle.rows.specs.Row.{marks_on, word_there, words_found, Stored, stored, behind, row_stored}
use Rattle.rows.proofs.FoundLaws.{found_next}

abbrev row : Block → ℕ → ℕ → Row
row block cell end = record { block = block; cell = cell; end = end }

abbrev reached : ℕ → ℕ → List ℕ → Stored
reached cell at ram = stored (record { cell = cell; at = at }) ram

-- what is left of the row leads where the whole of it leads
pub record RowSoFar (bytes : List ℕ) (line : Bool) (block : Block) (end cell₀ at₀ : ℕ)
    (ram₀ : List ℕ) (cell at : ℕ) (ram : List ℕ) : Type 0 where
  pub leads : row_stored bytes at line (row block cell end) ram
      ≡ row_stored bytes at₀ line (row block cell₀ end) ram₀
  pub ram_as_long : length ram ≡ length ram₀

module _ (block : Block) (end cell at : ℕ) (ram : List ℕ) where
  -- no word: nothing has changed
  behind_none : behind [] (row block cell end) at ram ≡ reached cell at ram
  unfolding with_cells
  behind_none =
      let same_cell : cell + 0 ≡ cell = omega arith in
      let same_at : at + 10 * 0 ≡ at = omega arith in
      rw (same_cell, same_at)

  -- a word, and those behind it
  behind_one : (heard : Word) (words : List Word)
      → behind (heard ∷ words) (row block cell end) at ram
      ≡ behind words (row block (cell + 1) end) (at + 10)
      (with_cell ram block (the_cell cell) heard.value)
  unfolding with_cells
  behind_one heard words =
      let same_cell : cell + suc (length words) ≡ cell + 1 + length words = omega arith in
      let same_at : at + 10 * suc (length words) ≡ at + 10 + 10 * length words = omega arith in
      rw (same_cell, same_at)

module _ (bytes : List ℕ) (line : Bool) (block : Block) (end : ℕ) where
  pub row_at_start : (cell at : ℕ) (ram : List ℕ)
      → RowSoFar bytes line block end cell at ram cell at ram
  row_at_start cell at ram = record { leads = refl; ram_as_long = refl }

  module _ (cell₀ at₀ : ℕ) (ram₀ : List ℕ) (cell at : ℕ) (ram : List ℕ)
      (so_far : RowSoFar bytes line block end cell₀ at₀ ram₀ cell at ram) where
    pub row_done : end ≤ cell
        → reached cell at ram ≡ row_stored bytes at₀ line (row block cell₀ end) ram₀
    unfolding words_found
    row_done all =
        let none : end - cell ≡ 0 = omega (arith, all) in
        sym (behind_none block end cell at ram) ∙ (rw none at so_far.leads)

    module _ (marks : ℕ) (there : Option Found) (is_marks : marks ≡ marks_on line)
        (more : cell < end) (is_found : there ≡ word_found bytes at marks) where
      fewer : end - cell ≡ suc (end - (cell + 1))
      fewer = omega (arith, more)

      at_marks : word_found bytes at (marks_on line) ≡ there
      at_marks = sym (rw is_marks at is_found)

      pub row_goes_on : (value next : ℕ) (ram' : List ℕ) → there ≡ Some (found value next)
          → ram' ≡ with_cell ram block (the_cell cell) value → length ram' ≡ length ram
          → RowSoFar bytes line block end cell₀ at₀ ram₀ (cell + 1) next ram'
      unfolding words_found
      row_goes_on value next ram' is is_stored long =
          let same_next : next ≡ at + 10 =
          found_next bytes line at value next (at_marks ∙ is) in
          record {
            leads =
                rw (is_stored, same_next)
                (sym (behind_one block end cell at ram (word_there bytes line at value)
                (words_found (end - (cell + 1)) bytes line (at + 10)))
                ∙ rw (fewer, at_marks, is, same_next) at so_far.leads);
            ram_as_long = long ∙ so_far.ram_as_long;
          }

      pub row_stops : there ≡ None
          → reached cell at ram ≡ row_stored bytes at₀ line (row block cell₀ end) ram₀
      unfolding words_found
      row_stops is =
          sym (behind_none block end cell at ram) ∙ (rw (fewer, at_marks, is) at so_far.leads)

pub ruleset storing = (row_at_start, row_done, row_goes_on, row_stops)
