-- The laws of `specs/Cells.antt`: the loop over the card's cells. Assumes nothing.
use mathlib.Core.Path.{◌≡◌}
use mathlib.Core.List.{List, [], ◌∷◌, ◌++◌, append_assoc, append-nil}
use Prim.Native.Nat.{ℕ, ◌+◌, ◌/◌, ◌%◌, ◌≤◌, ◌<◌}
use native.Mathlib.Nat.{add-zero}
use native.Mathlib.Omega.{arith}
use lib.ListN.{length, get_or, take, length-take}
use lib.Seq.{take_all}
use borrow.Author.Tests.{ne_eqb}
use Rattle.std.proofs.lemmas.List.{take_more}
use Rattle.lines.specs.Digits.{hex_word}
use Rattle.lines.specs.Lines.{blank, newline}
use Rattle.lines.specs.declared.Page.{Page}
use Rattle.shown.specs.Text.{Fits}
use Rattle.shown.specs.Cells.{cell_text, cell_lines}
use Rattle.shown.proofs.TextLaws.{fits_then, nothing_fits}

-- ---- a cell

pub zero_fits : (page : Page) (address word : ℕ) → word ≡ 0
    → Fits page (cell_text address word) page
zero_fits page address word is = rw is (nothing_fits page)

-- the parts of a line in turn
pub cell_fits : {old first second third new : Page} (address word : ℕ)
    → (word ≡ 0 → ⊥)
    → Fits old (hex_word address) first → Fits first (blank ∷ []) second
    → Fits second (hex_word word) third → Fits third (newline ∷ []) new
    → Fits old (cell_text address word) new
cell_fits address word other digits between more end =
    rw (ne_eqb word 0 other) (fits_then (fits_then (fits_then digits between) more) end)

-- four digits show 16 bits
sixteen_bits : (number : ℕ) → hex_word (number % 65536) ≡ hex_word number
unfolding hex_word
sixteen_bits number =
    let first : number % 65536 / 4096 % 16 ≡ number / 4096 % 16 = omega arith in
    let second : number % 65536 / 256 % 16 ≡ number / 256 % 16 = omega arith in
    let third : number % 65536 / 16 % 16 ≡ number / 16 % 16 = omega arith in
    let fourth : number % 65536 % 16 ≡ number % 16 = omega arith in
    rw (first, second, third, fourth)

-- ---- cell after cell

cells_append : (address : ℕ) (words more : List ℕ)
    → cell_lines address (words ++ more)
    ≡ cell_lines address words ++ cell_lines (address + length words) more
unfolding cell_lines
cells_append address [] more = rw (add-zero address)
cells_append address (word ∷ words) more =
    let next : address + 1 + length words ≡ address + length (word ∷ words) = omega arith in
    rw (
      cells_append (address + 1) words more,
      next,
      append_assoc (cell_text address word) (cell_lines (address + 1) words) (cell_lines _ more),
    )

cells_one : (address word : ℕ) → cell_lines address (word ∷ []) ≡ cell_text address word
unfolding cell_lines
cells_one address word = append-nil (cell_text address word)

pub cells_none : (page : Page) (ram : List ℕ) → Fits page (cell_lines 0 (take 0 ram)) page
unfolding cell_lines
cells_none page ram = nothing_fits page

-- one cell more
pub cells_more : {old between new : Page} (ram : List ℕ) (address : ℕ)
    → Fits old (cell_lines 0 (take address ram)) between
    → Fits between (cell_text (address % 65536) (get_or ram address 0)) new
    → address < length ram → Fits old (cell_lines 0 (take (address + 1) ram)) new
cells_more ram address before cell inside =
    let place : 0 + length (take address ram) ≡ address = omega (arith, length-take address ram) in
    rw (
      take_more ram address 0 inside,
      cells_append 0 (take address ram) (get_or ram address 0 ∷ []),
      place,
      cells_one address (get_or ram address 0),
    )
    (fits_then before (rw (sixteen_bits address) at cell))

pub cells_end : {old new : Page} (ram : List ℕ) (address : ℕ)
    → Fits old (cell_lines 0 (take address ram)) new → length ram ≤ address
    → Fits old (cell_lines 0 ram) new
cells_end ram address fits all = rw (take_all address ram all) at fits
