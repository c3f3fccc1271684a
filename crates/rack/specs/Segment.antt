-- A segment: what is said at once, by whom, and the words that the others hear. On a sound bus all
-- are sound, the first unjoined and the others joined; commands and statuses have command sync.
-- Definitions only. Assumes nothing.
use Rattle.std.specs.Prelude.{
  Bool,
  true,
  false,
  cond,
  List,
  [],
  ◌∷◌,
  ℕ,
  suc,
  eqb,
  None,
  Option,
  Some,
}
use Rattle.bus.specs.declared.word.Word.{Word}

-- a command or a status, perhaps a second command, and data words
pub record Segment : Type 0 where
  pub first : ℕ
  pub second : Option ℕ
  pub words : List ℕ

abbrev pub segment : ℕ → Option ℕ → List ℕ → Segment
segment first second words = record { first = first; second = second; words = words }

-- who says it: nobody, the controller, or the terminal of a station
pub data Spoken : Type 0 where
  Nothing : Spoken
  Given : Segment → Spoken
  Said : ℕ → Segment → Spoken

-- ---- the words of a segment, on a line, stamped by their place

abbrev pub command_word : Bool → Bool → ℕ → ℕ → Word
command_word line joined value time =
    record {
      line = line;
      sync = true;
      sound = true;
      joined = joined;
      value = value;
      time = time;
    }

abbrev pub data_word : Bool → ℕ → ℕ → Word
data_word line value time =
    record {
      line = line;
      sync = false;
      sound = true;
      joined = true;
      value = value;
      time = time;
    }

-- data words from a place on
unfoldable pub data_words : Bool → (ℕ → ℕ) → ℕ → List ℕ → List Word
data_words line time place [] = []
data_words line time place (value ∷ values) =
    data_word line value (time place) ∷ data_words line time (suc place) values

abbrev pub behind_first : Bool → (ℕ → ℕ) → Option ℕ → List ℕ → List Word
behind_first line time None values = data_words line time 1 values
behind_first line time (Some value) values =
    command_word line true value (time 1) ∷ data_words line time 2 values

abbrev pub words_on : Bool → (ℕ → ℕ) → Segment → List Word
words_on line time said =
    command_word line false said.first (time 0)
    ∷ behind_first line time said.second said.words

-- ---- all but the one who says them hear them

unfoldable pub at_station : Bool → (ℕ → ℕ) → Spoken → ℕ → List Word
at_station line time Nothing station = []
at_station line time (Given said) station = words_on line time said
at_station line time (Said speaker said) station =
    cond (eqb speaker station) [] (words_on line time said)

unfoldable pub at_desk : Bool → (ℕ → ℕ) → Spoken → List Word
at_desk line time Nothing = []
at_desk line time (Given said) = []
at_desk line time (Said speaker said) = words_on line time said
