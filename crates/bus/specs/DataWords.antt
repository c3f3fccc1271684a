-- Data words on a line as they should come, one or a row of them. Definitions only. Assumes
-- nothing.
use Rattle.std.specs.Prelude.{◌≡◌, Bool, true, false, List, [], ◌∷◌, map, ℕ}
use Rattle.bus.specs.declared.word.Word.{Word}

-- a data word on a line, sound and joined
pub record DataWord (line : Bool) (heard : Word) : Type 0 where
  pub of_data : heard.sync ≡ false
  pub sound : heard.sound ≡ true
  pub joined : heard.joined ≡ true
  pub same_line : heard.line ≡ line

-- a row of them
pub data DataWords (line : Bool) : List Word → Type 0 where
  no_words : DataWords line []
  a_word : {heard : Word} {more : List Word} → DataWord line heard → DataWords line more
      → DataWords line (heard ∷ more)

-- the values of words
abbrev pub values_of : List Word → List ℕ
values_of = map (λ (heard : Word). heard.value)
