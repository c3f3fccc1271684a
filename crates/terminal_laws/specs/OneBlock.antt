-- One broken message costs one block: what is asked of two runs, `BrokenMessage`, and what is then
-- the same in both, `SameAfter`. Definitions only; proved in `proofs/OneBlock`. Assumes nothing.
use Rattle.std.specs.Prelude.{
  ◌≡◌,
  ◌≢◌,
  Bool,
  true,
  false,
  List,
  [],
  ◌∷◌,
  ℕ,
  ◌≤◌,
  ◌<◌,
  length,
  get_or,
  take,
  drop,
  None,
  Option,
  Some,
}
use Rattle.bus.specs.declared.kind.Kind.TheVariants.{Receive, ModeStatus, ModeLast}
use Rattle.bus.specs.declared.word.Word.{Word}
use Rattle.bus.specs.Kind.{kind_of}
use Rattle.bus.specs.Status.{without_error}
use Rattle.card.specs.declared.place.Block.{Block}
use Rattle.card.specs.declared.place.Cell.{Cell}
use Rattle.card.specs.Memory.{the_cell, word_address}
use Rattle.queue.specs.declared.Queue.{Queue}
use Rattle.message.specs.declared.state.OpenMessage.{OpenMessage}
use Rattle.terminal.specs.declared.state.Reply.TheVariants.{Status, Words, Last}
use Rattle.terminal.specs.declared.state.Answer.{Answer}
use Rattle.terminal.specs.declared.state.Answer.TheVariants.{Replied}
use Rattle.terminal.specs.State.{Card}
use Rattle.terminal.specs.Event.{Event, word, silence, Outcome, Opened, none, keeping, afresh}
use Rattle.terminal.specs.Machine.{step, run}

-- first exception: data and service cells of blocks that broken messages cost, the `Spent` ones
pub record Kept (Spent : Block → Type 0) (address : ℕ) : Type 0 where
  pub data_cell : (block : Block) (cell : Cell) → Spent block → cell.0 < 32
      → address ≢ word_address block cell
  pub service_cell : (block : Block) (cell : Cell) → Spent block → 58 ≤ cell.0 → cell.0 ≤ 61
      → address ≢ word_address block cell

-- queues are the same, entry for entry: none is excepted
pub record SameQueue (here there : Queue) : Type 0 where
  pub entries : here ≡ there

-- what the card holds is the same: the queue, and every memory cell that is kept
pub record Alike (Spent : Block → Type 0) (here there : Card) : Type 0 where
  pub queue : SameQueue here.queue there.queue
  pub long : length here.ram ≡ length there.ram
  pub cell : (address : ℕ) → Kept Spent address
      → get_or here.ram address 0 ≡ get_or there.ram address 0

-- how long the second exception lasts: until a command other than the two that keep the remembered
-- status opens a message. One to another station opens none
unfoldable pub still_before : Bool → Opened → Bool
still_before before none = before
still_before before keeping = before
still_before before afresh = false

-- every answer is the same; second exception: the message error bit in a reply to "transmit status
-- word" or "transmit last command", which is the command of the message that was open
pub data SameAnswer : Bool → Option OpenMessage → Answer → Answer → Type 0 where
  same : {before : Bool} {message : Option OpenMessage} {answer : Answer}
      → SameAnswer before message answer answer
  status_but_error : {message : OpenMessage} {status other : ℕ}
      → kind_of message.command ≡ ModeStatus → without_error status ≡ without_error other
      → SameAnswer true (Some message) (Replied (Status status)) (Replied (Status other))
  last_but_error : {message : OpenMessage} {status other last : ℕ}
      → kind_of message.command ≡ ModeLast → without_error status ≡ without_error other
      → SameAnswer true (Some message) (Replied (Last status last)) (Replied (Last other last))

-- what one event brings: the answer, with the words that it sends from a block, and the card
pub record SameOutcome (Spent : Block → Type 0) (before : Bool) (message : Option OpenMessage)
    (here there : Outcome) : Type 0 where
  pub answer : SameAnswer before message here.answer there.answer
  pub words : (status : ℕ) (block : Block) (count : ℕ)
      → here.answer ≡ Replied (Words status block count)
      → take count (drop (word_address block (the_cell 0)) here.card.ram)
      ≡ take count (drop (word_address block (the_cell 0)) there.card.ram)
  pub cards : Alike Spent here.card there.card

-- .. and so for each of the events with which both runs go on
unfoldable pub Later : (Block → Type 0) → Bool → List Event → Card → Card → Type 0
Later Spent before [] here there = Unit {0}
Later Spent before (event ∷ after) here there =
    SameOutcome Spent before here.core.message (step event here) (step event there)
    × Later Spent (still_before before (step event here).opened) after
    (step event here).card (step event there).card

-- the claim; where both messages have closed, the cards are alike before the next event too
pub record SameAfter (Spent : Block → Type 0) (after : List Event) (here there : Card)
    : Type 0 where
  pub at_once : here.core.message ≡ None → there.core.message ≡ None → Alike Spent here there
  pub later : Later Spent true after here there

-- the stretch where the runs part has only silences, and words that open nothing: no host action
pub data Calm : List Event → Card → Type 0 where
  nothing : {card : Card} → Calm [] card
  a_word : {card : Card} {heard : Word} {events : List Event}
      → (step (word heard) card).opened ≡ none → Calm events (step (word heard) card).card
      → Calm (word heard ∷ events) card
  a_silence : {card : Card} {line : Bool} {time : ℕ} {events : List Event}
      → Calm events (step (silence line time) card).card → Calm (silence line time ∷ events) card

-- at its end both messages have closed; or the next event is a word that is not joined and opens a
-- message, in the first run at least
pub data BothOver (here there : Card) : List Event → Type 0 where
  closed : {after : List Event}
      → here.core.message ≡ None → there.core.message ≡ None → BothOver here there after
  superseded : {after : List Event} (command : Word)
      → (step (word command) here).opened ≢ none → command.joined ≡ false
      → BothOver here there (word command ∷ after)

-- from there on no spent block is the table or a source of words sent: asked of the first run alone
unfoldable pub Spared : (Block → Type 0) → List Event → Card → Type 0
Spared Spent [] card = Unit {0}
Spared Spent (event ∷ after) card =
    (Spent card.core.table → ⊥)
    × ((status : ℕ) (block : Block) (count : ℕ)
    → (step event card).answer ≡ Replied (Words status block count) → Spent block → ⊥)
    × Spared Spent after (step event card).card

-- the one spent block: that of the message that the command opened
unfoldable pub ThatBlock : Option OpenMessage → Block → Type 0
ThatBlock None block = ⊥
ThatBlock (Some message) block = block ≡ message.block

-- all that is asked: the runs share what led to `card`, where a data receive command opens a
-- message; then the one has `one` and the other `two`; and then both go on with `after`
pub record BrokenMessage (card : Card) (command : Word) (one two after : List Event) : Type 0 where
  pub receives : kind_of command.value ≡ Receive
  pub opens : (step (word command) card).opened ≢ none
  pub calm_one : Calm one (step (word command) card).card
  pub calm_two : Calm two (step (word command) card).card
  pub both_over : BothOver (run (word command ∷ one) card) (run (word command ∷ two) card) after
  pub spared : Spared (ThatBlock (step (word command) card).card.core.message) after
      (run (word command ∷ one) card)
