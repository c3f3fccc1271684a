-- How long a text is at the most; a text that has room is put whole, so that `fitted` cuts nothing.
-- Assumes nothing.
use mathlib.Core.Path.{◌≡◌, sym, ap, ◌∙◌}
use mathlib.Core.Bool.{Bool, true, false, cond}
use mathlib.Core.List.{List, [], ◌∷◌, ◌++◌}
use Prim.Native.Nat.{ℕ, ◌+◌, ◌-◌, ◌*◌, ◌≤◌}
use native.Mathlib.Nat.{le_refl}
use native.Mathlib.Omega.{arith}
use lib.Dec.{eqb}
use lib.ListN.{length, take, length-append}
use lib.Seq.{take_all}
use Rattle.bits.specs.Bit.{weight_of}
use Rattle.lines.specs.Digits.{hex_byte, hex_word, decimal}
use Rattle.lines.specs.Lines.{blank, newline}
use Rattle.lines.specs.Written.{Put, stored}
use Rattle.lines.specs.Page.{on}
use Rattle.lines.specs.declared.Page.{Page}
use Rattle.lines.proofs.DecimalLaws.{length_decimal}
use Rattle.lines.proofs.Lengths.{length_hex_byte, length_hex_word}
use Rattle.lines.proofs.WrittenLaws.{in_room, take_written}
use Rattle.shown.specs.Text.{fitted}
use Rattle.shown.specs.Item.{item, mark_text}
use Rattle.shown.specs.Cells.{cell_text, cell_lines}

-- ---- how long a text is at the most

pub record AtMost (most : ℕ) (text : List ℕ) : Type 0 where
  pub bound : length text ≤ most

pub weaker : {few most : ℕ} {text : List ℕ} → AtMost few text → few ≤ most → AtMost most text
weaker short fewer = record { bound = omega (arith, short.bound) }

pub both : {some more : ℕ} {text other : List ℕ} → AtMost some text → AtMost more other
    → AtMost (some + more) (text ++ other)
both {text = text} {other = other} first second =
    record {
      bound = omega (arith, length-append text other, first.bound, second.bound);
    }

pub named : {most : ℕ} {value : List ℕ} (name : List ℕ) (last : ℕ) → AtMost most value
    → AtMost (length name + most + 1) (item name value last)
named {value = value} name last short =
    record {
      bound =
          omega (
            arith,
            length-append (name ++ value) (last ∷ []),
            length-append name value,
            short.bound,
          );
    }

pub of_decimal : (number : ℕ) → AtMost 20 (decimal number)
of_decimal number = record { bound = length_decimal number }

pub of_mark : (mark : Bool) → AtMost 20 (mark_text mark)
of_mark mark = of_decimal (weight_of mark 1)

pub of_byte : (byte : ℕ) → AtMost 2 (hex_byte byte)
of_byte byte = record { bound = omega (arith, length_hex_byte byte) }

pub of_word : (word : ℕ) → AtMost 4 (hex_word word)
of_word word = record { bound = omega (arith, length_hex_word word) }

-- ---- the cells

of_cell : (address word : ℕ) → AtMost 10 (cell_text address word)
of_cell address word = go (eqb word 0) where
  go : (none : Bool) → AtMost 10
      (cond none []
      (hex_word address ++ (blank ∷ []) ++ hex_word word ++ (newline ∷ [])))
  go true = record { bound = omega arith }
  go false =
      both (both (both (of_word address) (record { bound = le_refl 1 })) (of_word word))
      (record { bound = le_refl 1 })

pub of_cells : (address : ℕ) (ram : List ℕ) → AtMost (10 * length ram) (cell_lines address ram)
unfolding cell_lines
of_cells address [] = record { bound = omega arith }
of_cells address (word ∷ words) =
    weaker (both (of_cell address word) (of_cells (address + 1) words)) (omega arith)

-- ---- a buffer

-- a text that has room is put whole
pub put_whole : (old : Page) (text : List ℕ) (new : Page)
    → on new ≡ fitted old.out.now old.at text → old.at ≡ 0
    → length text ≤ length old.out.now → take new.at new.out.now ≡ text
unfolding fitted
put_whole old text new is_fitted start enough =
    ap (λ (left : Put). take left.next left.bytes)
    (is_fitted
    ∙ ap (λ (all : List ℕ). stored old.out.now old.at all)
    (take_all (length old.out.now - old.at) text (omega arith))
    ∙ sym (in_room (length text) old.out.now old.at text (omega arith)))
    ∙ take_written (length text) old.out.now old.at text (omega arith) (omega arith)
    (le_refl (length text))
    ∙ rw start
