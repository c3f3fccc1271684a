-- That a block is spared, by computation: it is never the table, nor a source of words sent.
-- Assumes nothing.
use mathlib.Core.Path.{◌≡◌, sym, ap, ◌∙◌}
use mathlib.Core.Bool.{Bool, true, true≢false, not, ◌&&◌}
use mathlib.Core.List.{List, [], ◌∷◌}
use Prim.Native.Nat.{ℕ}
use lib.Dec.{eqb}
use borrow.Author.Tests.{eq-eqb, not-true}
use Rattle.rules.proofs.Halves.{first_of_both, second_of_both}
use Rattle.card.specs.declared.place.Block.{Block}
use Rattle.terminal.specs.declared.state.Reply.TheVariants.{Silent, Status, Words, Last}
use Rattle.terminal.specs.declared.state.Answer.{Answer}
use Rattle.terminal.specs.declared.state.Answer.TheVariants.{Replied, QueueWord}
use Rattle.terminal.specs.State.{Card}
use Rattle.terminal.specs.Event.{Event}
use Rattle.terminal.specs.Machine.{step}
use Rattle.terminal_laws.specs.OneBlock.{Spared}

-- the block that an answer sends words of is another
abbrev sends_other : Block → Answer → Bool
sends_other block (Replied Silent) = true
sends_other block (Replied (Status status)) = true
sends_other block (Replied (Words status source count)) = not (eqb source.0 block.0)
sends_other block (Replied (Last status last)) = true
sends_other block (QueueWord oldest) = true

unfoldable pub spared_from : Block → List Event → Card → Bool
spared_from block [] card = true
spared_from block (event ∷ after) card =
    not (eqb card.core.table.0 block.0)
    && (sends_other block (step event card).answer
    && spared_from block after (step event card).card)

another : (one block : Block) → not (eqb one.0 block.0) ≡ true → one ≡ block → ⊥
another one block other is =
    let same : one.0 ≡ block.0 = ap (λ (any : Block). any.0) is in
    true≢false (sym (eq-eqb one.0 block.0 same) ∙ not-true (eqb one.0 block.0) other)

from_another : (block : Block) (answer : Answer) → sends_other block answer ≡ true
    → (status : ℕ) (source : Block) (count : ℕ) → answer ≡ Replied (Words status source count)
    → source ≡ block → ⊥
from_another block answer other status source count is same =
    another source block
    (ap (λ (answer : Answer). sends_other block answer) (sym is) ∙ other) same

pub spared_from_lem : (block : Block) (after : List Event) (card : Card)
    → spared_from block after card ≡ true → Spared (λ spent. spent ≡ block) after card
unfolding Spared spared_from
spared_from_lem block [] card holds = tt
spared_from_lem block (event ∷ after) card holds =
    let table = not (eqb card.core.table.0 block.0) in
    let source = sends_other block (step event card).answer in
    let rest = spared_from block after (step event card).card in
    let both = second_of_both table (source && rest) holds in (
      another card.core.table block (first_of_both table (source && rest) holds),
      from_another block (step event card).answer (first_of_both source rest both),
      spared_from_lem block after (step event card).card (second_of_both source rest both),
    )
