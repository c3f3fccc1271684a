-- Items: a name, a value, and the byte behind it. Definitions only. Assumes nothing.
use Rattle.std.specs.Prelude.{Bool, List, [], ◌∷◌, ◌++◌, ℕ}
use Prim.Native.String.{String}
use Rattle.bits.specs.Bit.{weight_of}
use Rattle.lines.specs.Digits.{decimal}
use Rattle.lines.specs.Lines.{blank, newline}
use Rattle.shown.specs.Text.{bytes}

-- a name, a value, and the byte behind it
abbrev pub item : List ℕ → List ℕ → ℕ → List ℕ
item name value last = name ++ value ++ (last ∷ [])

-- an item that ends its line
abbrev pub line : String → List ℕ → List ℕ
line name value = item (bytes name) value newline

-- an item that others follow on its line
abbrev pub part : String → List ℕ → List ℕ
part name value = item (bytes name) value blank

-- a mark is 0 or 1
abbrev pub mark_text : Bool → List ℕ
mark_text on = decimal (weight_of on 1)
