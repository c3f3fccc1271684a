-- The words of a reply are those in memory at the silence, at work: the table block sends, though
-- the closing writes cells of it. Said of a reply that was not given, it is false. Assumes nothing.
use mathlib.Core.Path.{◌≡◌, refl, ap}
use mathlib.Core.Bool.{Bool, false}
use mathlib.Core.List.{List, [], ◌∷◌}
use Prim.Native.Nat.{ℕ}
use native.Mathlib.Omega.{arith}
use lib.ListN.{get_or}
use Rattle.card.specs.Memory.{the_block}
use Rattle.terminal.specs.declared.state.Reply.{Reply}
use Rattle.terminal.specs.declared.state.Reply.TheVariants.{Words}
use Rattle.terminal.specs.State.{Card}
use Rattle.terminal.specs.Reply.{reply_words}
use Rattle.terminal.specs.Event.{Event, silence, replied}
use Rattle.terminal.specs.Machine.{step}
use Rattle.terminal_laws.proofs.ReplyLaws.{words_of_the_silence}
use Rattle.runs.proofs.Telling.{
  runs,
  put,
  receive,
  transmit,
  word1,
  word2,
  quiet,
  card_after,
}

-- table cell 35 names block 1, the table itself
abbrev from_the_table : List Event
from_the_table = put 1 35 0x0001 ∷ put 1 0 0x1111 ∷ put 1 1 0x2222 ∷ transmit ∷ []

-- two words of block 1
the_table_block_sends :
    (step quiet (card_after from_the_table)).answer ≡ replied (Words 0x2800 (the_block 1) 2)
unfolding runs
the_table_block_sends = refl

-- read after the closing
it_sends_what_stood_there :
    reply_words (step quiet (card_after from_the_table)).card.ram (Words 0x2800 (the_block 1) 2)
    ≡ 0x2800 ∷ 0x1111 ∷ 0x2222 ∷ []
unfolding runs
it_sends_what_stood_there =
    words_of_the_silence false 0x64 (card_after from_the_table) (Words 0x2800 (the_block 1) 2)
    the_table_block_sends

-- four words of the table, of which the closing of a receive message changes the last
a_reply_that_was_not_given_would_differ :
    ((line : Bool) (time : ℕ) (old : Card) (reply : Reply)
    → reply_words (step (silence line time) old).card.ram reply ≡ reply_words old.ram reply)
    → ⊥
unfolding runs
a_reply_that_was_not_given_would_differ claim =
    let differs : ◌≡◌ {A = ℕ} 0x4003 0x4002 =
    ap (λ (words : List ℕ). get_or words 4 0)
    (claim false 0x64 (card_after (receive ∷ word1 ∷ word2 ∷ [])) (Words 0x2800 (the_block 1) 4)) in
    omega arith
