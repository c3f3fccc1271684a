-- The claim that one broken message costs one block, by what is asked and what is said, so that one
-- thing can be left out at a time; and what such claims are refuted with. Assumes nothing.
use mathlib.Core.Path.{◌≡◌, refl, ap}
use mathlib.Core.Logic.{◌≢◌}
use mathlib.Core.List.{List, [], ◌∷◌}
use Prim.Native.Nat.{ℕ, ◌/◌}
use native.Mathlib.Omega.{arith}
use Rattle.rules.proofs.Clash.{clash}
use Rattle.bus.specs.declared.kind.Kind.TheVariants.{Receive}
use Rattle.bus.specs.declared.word.Word.{Word}
use Rattle.bus.specs.Kind.{kind_of}
use Rattle.bus.specs.Word.{word_of}
use Rattle.card.specs.declared.place.Block.{Block}
use Rattle.terminal.specs.State.{Card}
use Rattle.terminal.specs.Event.{Event, word, none, keeping, afresh}
use Rattle.terminal.specs.Machine.{step, run}
use Rattle.terminal_laws.specs.OneBlock.{Kept, SameAfter, Calm, BothOver, Spared, ThatBlock}
use Rattle.terminal_laws.proofs.OneBlock.Theorem.{one_block}
use Rattle.runs.proofs.Telling.{runs, unsound_a, put, word1, word2, quiet, at_setup}

-- ---- the claim, by what is asked of the command, of the stretches, of their ends and of what
-- comes after, and by what is then the same

abbrev pub Claim : (Word → Card → Type 0) → (List Event → Card → Type 0)
    → (Card → Card → List Event → Type 0) → ((Block → Type 0) → List Event → Card → Type 0)
    → ((Block → Type 0) → List Event → Card → Card → Type 0) → Type 0
Claim Command Stretch End Tail Same =
    (old : Card) (command : Word) (one two after : List Event) → Command command old
    → Stretch one (step (word command) old).card → Stretch two (step (word command) old).card
    → End (run (word command ∷ one) old) (run (word command ∷ two) old) after
    → Tail (ThatBlock (step (word command) old).card.core.message) after
    (run (word command ∷ one) old)
    → Same (ThatBlock (step (word command) old).card.core.message) after
    (run (word command ∷ one) old) (run (word command ∷ two) old)

-- a data receive command that opens a message
pub record Receives (command : Word) (old : Card) : Type 0 where
  pub receives : kind_of command.value ≡ Receive
  pub opens : (step (word command) old).opened ≢ none

-- with all of it, this is the theorem
the_theorem : Claim Receives Calm BothOver Spared SameAfter
the_theorem old command one two after opening calm_one calm_two both_over spared =
    one_block old command one two after
    (record {
      receives = opening.receives;
      opens = opening.opens;
      calm_one = calm_one;
      calm_two = calm_two;
      both_over = both_over;
      spared = spared;
    })

-- ---- what the runs are told with

abbrev pub command : Word
command = word_of 0x06 0x2862 0x28

-- station 5 with table block 1, whose subaddress 3 receives by one table word and transmits by
-- another
unfoldable pub chains : ℕ → ℕ → Card
chains receiving sending = run (put 1 3 receiving ∷ put 1 35 sending ∷ []) at_setup

abbrev pub sound : List Event
sound = word1 ∷ word2 ∷ quiet ∷ []

abbrev pub unsound : List Event
unsound = word1 ∷ unsound_a 0x2222 0x50 ∷ []

pub afresh_is_not_none : afresh ≡ none → ⊥
afresh_is_not_none is = clash (cc)

pub keeping_is_not_none : keeping ≡ none → ⊥
keeping_is_not_none is = clash (cc)

pub tray_command : (receiving sending : ℕ) → Receives command (chains receiving sending)
unfolding runs chains
tray_command receiving sending = record { receives = refl; opens = afresh_is_not_none }

-- every cell of another block is kept
pub kept_elsewhere : (block : Block) (address : ℕ) → address / 64 ≢ block.0
    → Kept (λ spent. spent ≡ block) address
kept_elsewhere block address other =
    record {
      data_cell = λ spent cell is low named.
          other (omega (arith, ap (λ (any : Block). any.0) is));
      service_cell = λ spent cell is from to named.
          other (omega (arith, ap (λ (any : Block). any.0) is));
    }
