-- MIL-STD-1553B's table of mode codes, as document 01 takes it. Definitions only. Assumes nothing.
use Rattle.std.specs.Prelude.{Bool, true, false, List, [], ◌∷◌, ℕ, get_or, Option, Some, None}
use Rattle.bus.specs.declared.mode.Mode.{Mode}
use Rattle.bus.specs.declared.mode.ModeWord.{ModeWord}
use Rattle.bus.specs.declared.mode.ModeWord.TheVariants.{Without, Sent, Taken}

-- the columns of the table: the direction, and whether the command may be broadcast
abbrev transmit : Bool
transmit = true

abbrev receive : Bool
receive = false

abbrev broadcast : Bool
broadcast = true

abbrev alone : Bool
alone = false

-- a legal row: the direction bit, the data word, whether it may be broadcast
abbrev pub row : Bool → ModeWord → Bool → Option Mode
row direction word allowed =
    Some (record { transmit = direction; word = word; broadcast = allowed })

-- a code that the standard keeps back: illegal
abbrev pub reserved : Option Mode
reserved = None

-- code by code: direction, data word, broadcast
unfoldable pub mode_table : List (Option Mode)
mode_table =
    row transmit Without alone  --  0  dynamic bus control
    ∷ row transmit Without broadcast  --  1  synchronize
    ∷ row transmit Without alone  --  2  transmit status word
    ∷ row transmit Without broadcast  --  3  initiate self-test
    ∷ row transmit Without broadcast  --  4  transmitter shutdown
    ∷ row transmit Without broadcast  --  5  override transmitter shutdown
    ∷ row transmit Without broadcast  --  6  inhibit terminal flag
    ∷ row transmit Without broadcast  --  7  override inhibit terminal flag
    ∷ row transmit Without broadcast  --  8  reset remote terminal
    ∷ reserved  --  9
    ∷ reserved  -- 10
    ∷ reserved  -- 11
    ∷ reserved  -- 12
    ∷ reserved  -- 13
    ∷ reserved  -- 14
    ∷ reserved  -- 15
    ∷ row transmit Sent alone  -- 16  transmit vector word
    ∷ row receive Taken broadcast  -- 17  synchronize with data word
    ∷ row transmit Sent alone  -- 18  transmit last command
    ∷ row transmit Sent alone  -- 19  transmit built-in-test word
    ∷ row receive Taken broadcast  -- 20  selected transmitter shutdown
    ∷ row receive Taken broadcast  -- 21  override selected transmitter shutdown
    ∷ []  -- 22 to 31 are reserved

unfoldable pub mode_of : ℕ → Option Mode
mode_of code = get_or mode_table code reserved
