-- Where rule 8 stores a word: the message has a block, the next cell is a data cell, and busy data
-- do not keep the word back. For every message, fit or not, by `search` through the tests of the
-- rules. Assumes nothing.
use mathlib.Core.Path.{◌≡◌, subst}
use mathlib.Core.Bool.{Bool, true, false, cond, ◌&&◌}
use Prim.Native.Nat.{ℕ, ◌<◌}
use native.Mathlib.Omega.{arith}
use lib.Dec.{leb}
use borrow.Author.Tests.{leb-false}
use Rattle.rules.proofs.Choices.{by_test}
use Rattle.bus.specs.declared.word.Word.{Word}
use Rattle.message.specs.declared.asked.Asked.{Asked}
use Rattle.message.specs.declared.judge.WordAct.{WordAct}
use Rattle.message.specs.declared.judge.WordAct.TheVariants.{
  Ignore,
  Store,
  Check,
  TakeSecond,
  TakeStatus,
  Fault,
  Supersede,
  Drop,
}
use Rattle.message.specs.declared.state.Stage.{Stage}
use Rattle.message.specs.declared.state.Stage.TheVariants.{
  Data,
  SecondCommand,
  AwaitingStatus,
  Skipping,
}
use Rattle.message.specs.declared.state.OpenMessage.{OpenMessage}
use Rattle.message.specs.Asked.{asks}
use Rattle.message.specs.Words.{
  in_data,
  in_second_command,
  in_awaiting_status,
  word_in_stage,
  on_word,
}
use Rattle.message.proofs.AskedBounds.{takes_at_most, takes_with_block}
use Rattle.terminal.specs.State.{Card}
use Rattle.terminal_laws.specs.Closes.{word_judged}
use Rattle.terminal_laws.specs.Written.{Stores}

-- ---- the tests of rules 1 to 8

-- acts, with what holds where one stores
data Told (asked : Asked) (message : OpenMessage) : WordAct → Type 0 where
  ignores : Told asked message Ignore
  stores : {next : ℕ} → leb asked.takes message.taken ≡ false
      → (message.busy && asked.yields) ≡ false → Told asked message (Store next)
  checks : {next : ℕ} → Told asked message (Check next)
  takes_second : {value : ℕ} → Told asked message (TakeSecond value)
  takes_status : Told asked message TakeStatus
  faults : {code : ℕ} → Told asked message (Fault code)
  supersedes : Told asked message Supersede
  drops : Told asked message Drop

told_if : {asked : Asked} {message : OpenMessage} {test : Bool} {act other : WordAct}
    → (test ≡ true → Told asked message act) → (test ≡ false → Told asked message other)
    → Told asked message (cond test act other)
told_if {asked} {message} {test} holds fails = by_test (Told asked message) test holds fails

ruleset telling = (
  ignores,
  checks,
  takes_second,
  takes_status,
  faults,
  supersedes,
  drops,
  told_if,
)

module _ (asked : Asked) (message : OpenMessage) (heard : Word) where
  told_in_stage : (stage : Stage) (station : ℕ)
      → Told asked message (word_in_stage stage station asked message heard)
  unfolding in_data in_second_command in_awaiting_status
  told_in_stage Data station = search (telling, stores) depth 14
  told_in_stage SecondCommand station = search telling depth 12
  told_in_stage AwaitingStatus station = search telling depth 12
  told_in_stage Skipping station = ignores

  told_word : (station flags : ℕ)
      → Told asked message (on_word station flags asked message heard)
  unfolding on_word
  told_word station flags =
      let in_stage = told_in_stage message.stage station in
      search telling depth 12

-- ---- rule 8

module _ (old : Card) (message : OpenMessage) (heard : Word) (next : ℕ)
    (judged : word_judged old message heard ≡ Store next) where
  abbrev asked : Asked
  asked = asks message

  -- a word is wanted still, and is not kept back
  record Wanted : Type 0 where
    more : message.taken < asked.takes
    free : (message.busy && asked.yields) ≡ false

  wanted : Wanted
  wanted =
      go (subst (Told asked message) judged
      (told_word asked message heard old.core.station old.core.flags))
    where
      go : Told asked message (Store next) → Wanted
      go (stores some free) =
          record {
            more = omega (arith, leb-false asked.takes message.taken some);
            free = free;
          }

  pub stores_with_block : asked.block ≡ true
  stores_with_block =
      takes_with_block message.command message.taken wanted.more

  pub stores_data : Stores old message heard
  stores_data =
      record {
        next = next;
        by_rule_8 = judged;
        data_cell =
            omega (
              arith,
              wanted.more,
              takes_at_most message.command,
            );
        not_busy_data = wanted.free;
      }
