-- Outcomes that are the same print lines that are the same. Assumes nothing.
use Rattle.std.proofs.Common.{Option}
use mathlib.Core.Path.{◌≡◌, refl, ap, subst}
use mathlib.Core.Bool.{Bool}
use mathlib.Core.List.{List, [], ◌∷◌}
use Prim.Native.Nat.{ℕ}
use lib.ListN.{length, take, drop}
use Rattle.card.specs.declared.place.Block.{Block}
use Rattle.card.specs.Memory.{data_cells, card_blocks, the_cell, word_address}
use Rattle.card.proofs.PartLaws.{same_part}
use Rattle.terminal.specs.declared.state.Reply.TheVariants.{Silent, Status, Words, Last}
use Rattle.terminal.specs.declared.state.Answer.{Answer}
use Rattle.terminal.specs.declared.state.Answer.TheVariants.{Replied, QueueWord}
use Rattle.terminal.specs.State.{Card}
use Rattle.terminal.specs.Event.{Event}
use Rattle.terminal.specs.Machine.{step}
use Rattle.terminal_laws.specs.OneBlock.{
  SameAnswer,
  same as same_answer,
  status_but_error as status_answer,
  last_but_error as last_answer,
  Later,
  still_before,
}
use Rattle.lines.specs.Lines.{status_line}
use Rattle.tray.specs.Run.{answer_line}
use Rattle.tray_laws.specs.OneBlock.{
  SameLine,
  same,
  status_but_error,
  last_but_error,
  LaterLines,
}
use Rattle.message.specs.declared.state.OpenMessage.{OpenMessage}

-- the same answer, of two memories
same_answer_line : (answer : Answer) (ram other : List ℕ) → length ram ≡ length other
    → ((status : ℕ) (block : Block) (count : ℕ) → answer ≡ Replied (Words status block count)
    → take count (drop (word_address block (the_cell 0)) ram)
    ≡ take count (drop (word_address block (the_cell 0)) other))
    → answer_line ram answer ≡ answer_line other answer
same_answer_line (Replied Silent) ram other long words = refl
same_answer_line (Replied (Status status)) ram other long words = refl
same_answer_line (Replied (Words status block count)) ram other long words =
    ap (λ (sent : List ℕ). status_line status sent)
    (same_part card_blocks data_cells ram other block count long (words status block count refl))
same_answer_line (Replied (Last status last)) ram other long words = refl
same_answer_line (QueueWord oldest) ram other long words = refl

same_line : {before : Bool} {message : Option OpenMessage} {answer answer' : Answer}
    (ram other : List ℕ)
    → length ram ≡ length other → SameAnswer before message answer answer'
    → ((status : ℕ) (block : Block) (count : ℕ) → answer ≡ Replied (Words status block count)
    → take count (drop (word_address block (the_cell 0)) ram)
    ≡ take count (drop (word_address block (the_cell 0)) other))
    → SameLine before message (answer_line ram answer) (answer_line other answer')
same_line {before} {message} {answer} ram other long same_answer words =
    subst (λ (line : List ℕ). SameLine before message (answer_line ram answer) line)
    (same_answer_line answer ram other long words) same
same_line ram other long (status_answer asks but) words = status_but_error _ _ asks but
same_line ram other long (last_answer asks but) words = last_but_error _ _ _ asks but

pub later_lines : (Spent : Block → Type 0) (before : Bool) (later : List Event) (here there : Card)
    → Later Spent before later here there → LaterLines before later here there
unfolding Later LaterLines
later_lines Spent before [] here there same_later = tt
later_lines Spent before (told ∷ later) here there same_later =
    let outcome = same_later.0 in (
      same_line (step told here).card.ram (step told there).card.ram outcome.cards.long
          outcome.answer outcome.words,
      later_lines Spent (still_before before (step told here).opened) later
          (step told here).card (step told there).card same_later.1,
    )
