-- `lines::Page::put_words` meets its contract: the words before the index are written.
-- Assumes nothing.
use Prim.Native.Nat.{◌*◌}
use lib.ListN.{take}
use Rattle.lines.specs.Lines.{each_word}
use Rattle.lines.specs.Page.{Wrote}
use Rattle.lines.proofs.Page.put_words.Given as goal

abbrev pub invariant-loop-word : goal.invariant-loop-word
invariant-loop-word l =
    Wrote (5 * l.word-index) l.initial.self (each_word (take l.word-index l.words)) l.self
