-- One broken message costs one block, with one thing less asked: each such claim is false, by two
-- runs that the checker computes. Assumes nothing.
use Rattle.std.proofs.Common.{None, Option}
use mathlib.Core.Path.{◌≡◌, refl, ap}
use mathlib.Core.Logic.{◌≢◌}
use mathlib.Core.Bool.{Bool}
use mathlib.Core.List.{List, [], ◌∷◌}
use Prim.Native.Nat.{ℕ}
use native.Mathlib.Omega.{arith}
use lib.ListN.{get_or}
use Rattle.rules.proofs.Clash.{clash}
use Rattle.bus.specs.declared.word.Word.{Word}
use Rattle.bus.specs.Word.{word_of}
use Rattle.card.specs.declared.place.Block.{Block}
use Rattle.card.specs.Memory.{the_block}
use Rattle.queue.specs.declared.Queue.{Queue}
use Rattle.terminal.specs.declared.state.Reply.TheVariants.{Silent, Status, Words}
use Rattle.terminal.specs.declared.state.Answer.{Answer}
use Rattle.terminal.specs.declared.state.Answer.TheVariants.{Replied}
use Rattle.terminal.specs.State.{Card}
use Rattle.terminal.specs.Event.{Event, word, silence, read_queue, none}
use Rattle.terminal.specs.Machine.{step, run}
use Rattle.terminal_laws.specs.OneBlock.{
  SameAnswer,
  same,
  status_but_error,
  last_but_error,
  Later,
  SameAfter,
  Calm,
  nothing,
  a_word,
  a_silence,
  BothOver,
  closed,
  Spared,
  ThatBlock,
}
use Rattle.runs.proofs.OneBlock.Sparing.{spared_from, spared_from_lem}
use Rattle.runs.proofs.Telling.{
  runs,
  command_a,
  command_b,
  silence_b,
  joined_a,
  silence_a,
  put,
  word1,
  word2,
  quiet,
}
use Rattle.runs.proofs.OneBlock.Claim.{
  Claim,
  Receives,
  command,
  chains,
  sound,
  unsound,
  afresh_is_not_none,
  keeping_is_not_none,
  tray_command,
  kept_elsewhere,
}
use Rattle.message.specs.declared.state.OpenMessage.{OpenMessage}

-- ---- two replies

-- a reply where there is none in the other run
silent_too : {before : Bool} {message : Option OpenMessage} {answer other : Answer}
    → SameAnswer before message answer other → other ≡ Replied Silent → answer ≡ Replied Silent
silent_too same is = is
silent_too (status_but_error asks but) is = cc
silent_too (last_but_error asks but) is = cc

replied_is_not_silent : {status : ℕ} → Replied (Status status) ≡ Replied Silent → ⊥
replied_is_not_silent is = clash (cc)

-- ---- of the command

-- any command that opens a message
abbrev Opens : Word → Card → Type 0
Opens any old = (step (word any) old).opened ≢ none

-- mode code 4 shuts line B at its sound end, and not after a fault
a_command_that_is_no_receive_would_differ : Claim Opens Calm BothOver Spared SameAfter → ⊥
unfolding runs chains ThatBlock Later spared_from
a_command_that_is_no_receive_would_differ claim =
    let shuts : Word = word_of 0x06 0x2C04 0x28 in
    let after : List Event = command_b 0x2C02 0x70 ∷ silence_b 0x80 ∷ [] in
    let answers =
    (claim (chains 0x4002 0) shuts (word1 ∷ []) (quiet ∷ []) after afresh_is_not_none
    (a_word refl nothing) (a_silence nothing) (closed refl refl)
    (spared_from_lem (the_block 0) after (run (word shuts ∷ word1 ∷ []) (chains 0x4002 0)) refl)
    ).later.1.0.answer in
    replied_is_not_silent (silent_too answers refl)

-- ---- of the stretches

-- events that open nothing, host actions among them
data Unopening : List Event → Card → Type 0 where
  no_event : {card : Card} → Unopening [] card
  an_event : {card : Card} {event : Event} {events : List Event}
      → (step event card).opened ≡ none → Unopening events (step event card).card
      → Unopening (event ∷ events) card

-- a host action in one stretch writes a cell
a_host_action_would_differ : Claim Receives Unopening BothOver Spared SameAfter → ⊥
unfolding runs chains ThatBlock Later spared_from
a_host_action_would_differ claim =
    let differs : ◌≡◌ {A = ℕ} 7 0 =
    (claim (chains 0x4002 0) command (put 64 0 7 ∷ sound) sound (read_queue ∷ [])
    (tray_command 0x4002 0)
    (an_event refl (an_event refl (an_event refl (an_event refl no_event))))
    (an_event refl (an_event refl (an_event refl no_event)))
    (closed refl refl)
    (spared_from_lem (the_block 2) (read_queue ∷ [])
    (run (word command ∷ put 64 0 7 ∷ sound) (chains 0x4002 0))
    refl)
    ).later.0.cards.cell 4096 (kept_elsewhere (the_block 2) 4096 (λ is. omega arith)) in
    omega arith

-- words and silences, words that open a message among them
data OnBus : List Event → Card → Type 0 where
  no_more : {card : Card} → OnBus [] card
  any_word : {card : Card} {heard : Word} {events : List Event}
      → OnBus events (step (word heard) card).card → OnBus (word heard ∷ events) card
  any_silence : {card : Card} {line : Bool} {time : ℕ} {events : List Event}
      → OnBus events (step (silence line time) card).card
      → OnBus (silence line time ∷ events) card

-- another message in one stretch costs the next block
another_opening_would_differ : Claim Receives OnBus BothOver Spared SameAfter → ⊥
unfolding runs chains ThatBlock Later spared_from
another_opening_would_differ claim =
    let differs : ◌≡◌ {A = ℕ} 0x4300 0 =
    (claim (chains 0x4002 0) command
    (word1 ∷ word2 ∷ quiet ∷ command_a 0x2862 0x70 ∷ silence_a 0x80 ∷ []) sound (read_queue ∷ [])
    (tray_command 0x4002 0)
    (any_word (any_word (any_silence (any_word (any_silence no_more)))))
    (any_word (any_word (any_silence no_more)))
    (closed refl refl)
    (spared_from_lem (the_block 2) (read_queue ∷ [])
    (run
    (word command ∷ word1 ∷ word2 ∷ quiet ∷ command_a 0x2862 0x70 ∷ silence_a 0x80 ∷ [])
    (chains 0x4002 0))
    refl)
    ).later.0.cards.cell 58 (kept_elsewhere (the_block 2) 58 (λ is. omega arith)) in
    omega arith

-- ---- of their ends

-- one message has closed and the other is open
data Unsettled (here there : Card) : List Event → Type 0 where
  whatever : {after : List Event} → Unsettled here there after

an_open_message_would_differ : Claim Receives Calm Unsettled Spared SameAfter → ⊥
unfolding runs chains ThatBlock Later spared_from
an_open_message_would_differ claim =
    let queues =
    (claim (chains 0x4002 0) command sound (word1 ∷ []) (read_queue ∷ []) (tray_command 0x4002 0)
    (a_word refl (a_word refl (a_silence nothing))) (a_word refl nothing) whatever
    (spared_from_lem (the_block 2) (read_queue ∷ [])
    (run (word command ∷ sound) (chains 0x4002 0)) refl)
    ).later.0.cards.queue.entries in
    let differs : ◌≡◌ {A = ℕ} 1 0 = ap (λ (queue : Queue). queue.ring.start) queues in
    omega arith

-- the next event opens a message, joined or not
data SettledByAny (here there : Card) : List Event → Type 0 where
  closed_too : {after : List Event}
      → here.core.message ≡ None → there.core.message ≡ None → SettledByAny here there after
  opened_next : {after : List Event} (next : Word) → (step (word next) here).opened ≢ none
      → SettledByAny here there (word next ∷ after)

-- a joined command opens where the message has closed, and breaks the one that is open
a_joined_command_would_differ : Claim Receives Calm SettledByAny Spared SameAfter → ⊥
unfolding runs chains ThatBlock Later spared_from
a_joined_command_would_differ claim =
    let after : List Event = joined_a 0x2C02 0x70 ∷ silence_a 0x80 ∷ [] in
    let answers =
    (claim (chains 0x4002 0) command sound (word1 ∷ []) after (tray_command 0x4002 0)
    (a_word refl (a_word refl (a_silence nothing))) (a_word refl nothing)
    (opened_next (word_of 0x0E 0x2C02 0x70) keeping_is_not_none)
    (spared_from_lem (the_block 2) after (run (word command ∷ sound) (chains 0x4002 0)) refl)
    ).later.1.0.answer in
    replied_is_not_silent (silent_too answers refl)

-- ---- of the events after

-- the block is no source of words sent, and may be the table
unfoldable NoSource : (Block → Type 0) → List Event → Card → Type 0
NoSource Spent [] card = Unit {0}
NoSource Spent (event ∷ after) card =
    ((status : ℕ) (block : Block) (count : ℕ)
    → (step event card).answer ≡ Replied (Words status block count) → Spent block → ⊥)
    × NoSource Spent after (step event card).card

silent_sends_none : (status : ℕ) (block : Block) (count : ℕ)
    → Replied Silent ≡ Replied (Words status block count) → block ≡ the_block 1 → ⊥
silent_sends_none status block count is spent = clash (cc)

-- a data word in cell 1 of the table is where the chain of subaddress 1 goes
a_block_that_is_the_table_would_differ : Claim Receives Calm BothOver NoSource SameAfter → ⊥
unfolding runs chains ThatBlock Later NoSource
a_block_that_is_the_table_would_differ claim =
    let differs : ◌≡◌ {A = ℕ} 0x4300 0 =
    (claim (chains 0x0001 0) command sound unsound (command_a 0x2821 0x70 ∷ silence_a 0x80 ∷ [])
    (tray_command 0x0001 0)
    (a_word refl (a_word refl (a_silence nothing))) (a_word refl (a_word refl nothing))
    (closed refl refl) (silent_sends_none, (silent_sends_none, tt))
    ).later.1.0.cards.cell 2234 (kept_elsewhere (the_block 1) 2234 (λ is. omega arith)) in
    omega arith

-- the block is not the table, and may be a source of words sent
unfoldable NoTable : (Block → Type 0) → List Event → Card → Type 0
NoTable Spent [] card = Unit {0}
NoTable Spent (event ∷ after) card =
    (Spent card.core.table → ⊥) × NoTable Spent after (step event card).card

one_is_not_two : the_block 1 ≡ the_block 2 → ⊥
one_is_not_two is = omega (arith, ap (λ (any : Block). any.0) is)

-- the words that were received are sent
a_block_that_is_sent_would_differ : Claim Receives Calm BothOver NoTable SameAfter → ⊥
unfolding runs chains ThatBlock Later NoTable
a_block_that_is_sent_would_differ claim =
    let words =
    (claim (chains 0x4002 0x4002) command sound unsound
    (command_a 0x2C62 0x70 ∷ silence_a 0x80 ∷ []) (tray_command 0x4002 0x4002)
    (a_word refl (a_word refl (a_silence nothing))) (a_word refl (a_word refl nothing))
    (closed refl refl) (one_is_not_two, (one_is_not_two, tt))
    ).later.1.0.words 0x2800 (the_block 2) 2 refl in
    let differs : ◌≡◌ {A = ℕ} 0x2222 0 = ap (λ (sent : List ℕ). get_or sent 1 0) words in
    omega arith
