-- One broken message costs one block, with one exception less: each such claim is false, by two
-- runs that the checker computes. Assumes nothing.
use Rattle.std.proofs.Common.{Option, Some}
use mathlib.Core.Path.{◌≡◌, refl, ap}
use mathlib.Core.Logic.{◌≢◌}
use mathlib.Core.Bool.{Bool, true}
use mathlib.Core.List.{List, [], ◌∷◌}
use Prim.Native.Nat.{ℕ, ◌≤◌, ◌<◌}
use native.Mathlib.Omega.{arith}
use lib.ListN.{get_or}
use Rattle.bus.specs.declared.kind.Kind.TheVariants.{ModeStatus}
use Rattle.bus.specs.Kind.{kind_of}
use Rattle.bus.specs.Status.{without_error}
use Rattle.bus.specs.Word.{word_of}
use Rattle.card.specs.declared.place.Block.{Block}
use Rattle.card.specs.declared.place.Cell.{Cell}
use Rattle.card.specs.Memory.{the_block, word_address}
use Rattle.message.specs.declared.state.OpenMessage.{OpenMessage}
use Rattle.terminal.specs.declared.state.Reply.TheVariants.{Status, Last}
use Rattle.terminal.specs.declared.state.Answer.{Answer}
use Rattle.terminal.specs.declared.state.Answer.TheVariants.{Replied}
use Rattle.terminal.specs.State.{Card}
use Rattle.terminal.specs.Event.{Event, word}
use Rattle.terminal.specs.Machine.{step, run}
use Rattle.terminal_laws.specs.OneBlock.{
  still_before,
  Calm,
  nothing,
  a_word,
  a_silence,
  BothOver,
  closed,
  superseded,
  Spared,
  ThatBlock,
}
use Rattle.runs.proofs.OneBlock.Sparing.{spared_from, spared_from_lem}
use Rattle.runs.proofs.Telling.{runs, command_a, silence_a, word1}
use Rattle.runs.proofs.OneBlock.Claim.{
  Claim,
  Receives,
  command,
  chains,
  sound,
  unsound,
  keeping_is_not_none,
  tray_command,
}

-- "transmit status word"
abbrev asked : List Event
asked = command_a 0x2C02 0x70 ∷ silence_a 0x80 ∷ []

-- ---- answers

-- every answer, with no exception for the message error bit
unfoldable SameAnswers : (Block → Type 0) → List Event → Card → Card → Type 0
SameAnswers Spent [] here there = Unit {0}
SameAnswers Spent (event ∷ after) here there =
    ((step event here).answer ≡ (step event there).answer)
    × SameAnswers Spent after (step event here).card (step event there).card

the_message_error_bit_differs : Claim Receives Calm BothOver Spared SameAnswers → ⊥
unfolding runs chains ThatBlock SameAnswers spared_from
the_message_error_bit_differs claim =
    let answers : Replied (Status 0x2800) ≡ Replied (Status 0x2C00) =
    (claim (chains 0x4002 0) command sound unsound asked (tray_command 0x4002 0)
    (a_word refl (a_word refl (a_silence nothing))) (a_word refl (a_word refl nothing))
    (closed refl refl)
    (spared_from_lem (the_block 2) asked (run (word command ∷ sound) (chains 0x4002 0)) refl)
    ).1.0 in
    let differs : ◌≡◌ {A = ℕ} 0x2800 0x2C00 = cc in
    omega arith

-- an answer, with the exception for the message error bit in a reply to "transmit status word"
-- alone
data AnswerButInStatus : Bool → Option OpenMessage → Answer → Answer → Type 0 where
  the_same : {before : Bool} {message : Option OpenMessage} {answer : Answer}
      → AnswerButInStatus before message answer answer
  but_error : {message : OpenMessage} {status other : ℕ}
      → kind_of message.command ≡ ModeStatus → without_error status ≡ without_error other
      → AnswerButInStatus true (Some message) (Replied (Status status)) (Replied (Status other))

unfoldable AnswersButInStatus : Bool → List Event → Card → Card → Type 0
AnswersButInStatus before [] here there = Unit {0}
AnswersButInStatus before (event ∷ after) here there =
    AnswerButInStatus before here.core.message (step event here).answer
    (step event there).answer
    × AnswersButInStatus (still_before before (step event here).opened) after
    (step event here).card (step event there).card

-- .. and so for every answer
abbrev SameButInStatus : (Block → Type 0) → List Event → Card → Card → Type 0
SameButInStatus Spent after here there = AnswersButInStatus true after here there

same_last : {before : Bool} {message : Option OpenMessage} {answer other : Answer} {status last : ℕ}
    → AnswerButInStatus before message answer other
    → answer ≡ Replied (Last status last) → other ≡ Replied (Last status last)
same_last the_same is = is
same_last (but_error asks but) is = cc

-- "transmit last command"
abbrev asked_last : List Event
asked_last = command_a 0x2C12 0x70 ∷ silence_a 0x80 ∷ []

-- it supersedes the message of one run, and keeps the status
the_message_error_bit_differs_in_code_18 : Claim Receives Calm BothOver Spared SameButInStatus → ⊥
unfolding runs chains ThatBlock AnswersButInStatus spared_from
the_message_error_bit_differs_in_code_18 claim =
    let answers : Replied (Last 0x2C00 0x2862) ≡ Replied (Last 0x2800 0x2862) =
    same_last
    (claim (chains 0x4002 0) command sound (word1 ∷ []) asked_last (tray_command 0x4002 0)
    (a_word refl (a_word refl (a_silence nothing))) (a_word refl nothing)
    (superseded (word_of 0x06 0x2C12 0x70) keeping_is_not_none refl)
    (spared_from_lem (the_block 2) asked_last (run (word command ∷ sound) (chains 0x4002 0)) refl)
    ).1.0
    refl in
    let differs : ◌≡◌ {A = ℕ} 0x2C00 0x2800 = cc in
    omega arith

-- ---- cells

-- after the events, every cell but the block's service cells
abbrev SameButService : (Block → Type 0) → List Event → Card → Card → Type 0
SameButService Spent after here there =
    (address : ℕ)
    → ((block : Block) (cell : Cell) → Spent block → 58 ≤ cell.0 → cell.0 ≤ 61
    → address ≢ word_address block cell)
    → get_or (run after here).ram address 0 ≡ get_or (run after there).ram address 0

data_of_two : (block : Block) (cell : Cell) → block ≡ the_block 2 → 58 ≤ cell.0 → cell.0 ≤ 61
    → 129 ≢ word_address block cell
data_of_two block cell is from to named = omega (arith, ap (λ (any : Block). any.0) is)

data_cells_differ : Claim Receives Calm BothOver Spared SameButService → ⊥
unfolding runs chains ThatBlock spared_from
data_cells_differ claim =
    let differs : ◌≡◌ {A = ℕ} 0x2222 0 =
    claim (chains 0x4002 0) command sound unsound asked (tray_command 0x4002 0)
    (a_word refl (a_word refl (a_silence nothing))) (a_word refl (a_word refl nothing))
    (closed refl refl)
    (spared_from_lem (the_block 2) asked (run (word command ∷ sound) (chains 0x4002 0)) refl)
    129 data_of_two in
    omega arith

-- after the events, every cell but the block's data cells
abbrev SameButData : (Block → Type 0) → List Event → Card → Card → Type 0
SameButData Spent after here there =
    (address : ℕ)
    → ((block : Block) (cell : Cell) → Spent block → cell.0 < 32
    → address ≢ word_address block cell)
    → get_or (run after here).ram address 0 ≡ get_or (run after there).ram address 0

service_of_two : (block : Block) (cell : Cell) → block ≡ the_block 2 → cell.0 < 32
    → 186 ≢ word_address block cell
service_of_two block cell is low named = omega (arith, ap (λ (any : Block). any.0) is)

service_cells_differ : Claim Receives Calm BothOver Spared SameButData → ⊥
unfolding runs chains ThatBlock spared_from
service_cells_differ claim =
    let differs : ◌≡◌ {A = ℕ} 0x0002 0x4101 =
    claim (chains 0x4002 0) command sound unsound asked (tray_command 0x4002 0)
    (a_word refl (a_word refl (a_silence nothing))) (a_word refl (a_word refl nothing))
    (closed refl refl)
    (spared_from_lem (the_block 2) asked (run (word command ∷ sound) (chains 0x4002 0)) refl)
    186 service_of_two in
    omega arith
