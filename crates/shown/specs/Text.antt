-- Texts, and a buffer into which as much of a text is put as there is room for. Definitions only.
-- Assumes nothing.
use Rattle.std.specs.Prelude.{◌≡◌, List, [], ◌∷◌, ℕ, ◌-◌, length, take}
use Prim.Native.Char.{code}
use Prim.Native.String.{String, [] as []ᵗ, ◌∷◌ as ◌∷ᵗ◌}
use Rattle.lines.specs.Page.{on}
use Rattle.lines.specs.Written.{Put, stored}
use Rattle.lines.specs.declared.Page.{Page}

-- the bytes of a text, which has plain letters, digits, blanks and newlines alone
abbrev pub bytes : String → List ℕ
bytes []ᵗ = []
bytes (letter ∷ᵗ text) = code letter ∷ bytes text

-- as many bytes of a text as there is room for from `at` on, all other bytes as they were
unfoldable pub fitted : List ℕ → ℕ → List ℕ → Put
fitted out at text = stored out at (take (length out - at) text)

-- a text is put so, which may be a part of a longer one; the page is over the buffer that it was
-- over
pub record Fits (old : Page) (text : List ℕ) (new : Page) : Type 0 where
  pub same_buffer : new.out.ghost_name ≡ old.out.ghost_name
  pub is_fitted : on new ≡ fitted old.out.now old.at text
