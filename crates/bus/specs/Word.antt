-- A word from the bus by its marks. Definitions only. Assumes nothing.
use Rattle.std.specs.Prelude.{ℕ}
use Rattle.bits.specs.Bit.{has_bit}
use Rattle.bus.specs.declared.word.Word.{Word}

-- marks: bit 0 line, 1 command sync, 2 sound, 3 joined
abbrev pub word_of : ℕ → ℕ → ℕ → Word
word_of marks value time =
    record {
      line = has_bit marks 1;
      sync = has_bit marks 2;
      sound = has_bit marks 4;
      joined = has_bit marks 8;
      value = value;
      time = time;
    }
