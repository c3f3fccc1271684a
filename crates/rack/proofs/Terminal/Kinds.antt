-- The kinds of command beside their tests: what asks for data is a data transmit, and what sends
-- words is to one station. Assumes nothing.
use mathlib.Core.Path.{◌≡◌, refl}
use mathlib.Core.Bool.{Bool, true, false, cond, not, ◌&&◌, ◌||◌, beq}
use mathlib.Core.List.{List, [], ◌∷◌}
use Prim.Native.Nat.{ℕ, zero, suc, ◌%◌, ◌<◌}
use native.Mathlib.Omega.{arith}
use lib.Dec.{eqb, leb}
use lib.ListN.{get_or}
use borrow.Author.Tests.{eqb-false, not-true}
use Rattle.std.proofs.Common.{Option, Some, None}
use Rattle.rules.proofs.Choices.{by_test}
use Rattle.rules.proofs.Halves.{first_of_both, second_of_both}
use Rattle.bus.specs.declared.mode.Mode.{Mode}
use Rattle.bus.specs.declared.mode.ModeWord.{ModeWord}
use Rattle.bus.specs.declared.mode.ModeWord.TheVariants.{Without, Sent, Taken}
use Rattle.bus.specs.declared.kind.Kind.{Kind}
use Rattle.bus.specs.declared.kind.Kind.TheVariants.{
  Receive,
  Transmit,
  ModeStatus,
  ModeLast,
  ModeSwitch,
  ModeSend,
  ModeTake,
  ModeReply,
  Illegal,
}
use Rattle.bus.specs.Command.{is_transmit, is_broadcast, is_mode, mode_code_of, words_of}
use Rattle.bus.specs.Mode.{reserved, mode_table, mode_of}
use Rattle.bus.specs.Kind.{mode_kind_of, row_kind_of, kind_of}
use Rattle.message.specs.Words.{asks_for_data}

-- a word count is never 0
pub words_some : (command : ℕ) → 0 < words_of command
words_some command = go (eqb (command % 32) 0) refl where
  go : (none : Bool) → eqb (command % 32) 0 ≡ none → 0 < cond none 32 (command % 32)
  go true is = omega arith
  go false is =
      let some : command % 32 ≡ 0 → ⊥ = eqb-false (command % 32) 0 is in
      omega arith

pub asks_is_transmit : (command : ℕ) → asks_for_data command ≡ true → is_broadcast command ≡ false
    → kind_of command ≡ Transmit
unfolding kind_of
asks_is_transmit command asks to_one =
    let transmits : is_transmit command ≡ true =
    first_of_both (is_transmit command) (not (is_mode command)) asks in
    let no_mode : is_mode command ≡ false =
    not-true (is_mode command)
    (second_of_both (is_transmit command) (not (is_mode command)) asks) in
    rw (no_mode, transmits, to_one)

-- ---- what sends words is no broadcast

-- of a kind that sends words of a block
abbrev pub sends_words : Kind → Bool
sends_words Receive = false
sends_words Transmit = true
sends_words ModeStatus = false
sends_words ModeLast = false
sends_words ModeSwitch = false
sends_words ModeSend = true
sends_words ModeTake = false
sends_words ModeReply = false
sends_words Illegal = false

-- a mode code whose word is sent may not be broadcast
abbrev is_sent : ModeWord → Bool
is_sent Without = false
is_sent Sent = true
is_sent Taken = false

-- a reserved code sends nothing
abbrev sent_to_one : Option Mode → Bool
sent_to_one None = true
sent_to_one (Some row) = not (is_sent row.word && row.broadcast)

abbrev all_to_one : List (Option Mode) → Bool
all_to_one [] = true
all_to_one (row ∷ rows) = sent_to_one row && all_to_one rows

row_to_one : (rows : List (Option Mode)) (code : ℕ) → all_to_one rows ≡ true
    → sent_to_one (get_or rows code reserved) ≡ true
row_to_one [] code all = refl
row_to_one (row ∷ rows) zero all = first_of_both (sent_to_one row) (all_to_one rows) all
row_to_one (row ∷ rows) (suc code) all =
    row_to_one rows code (second_of_both (sent_to_one row) (all_to_one rows) all)

mode_to_one : (code : ℕ) → sent_to_one (mode_of code) ≡ true
unfolding mode_of mode_table
mode_to_one code = row_to_one mode_table code refl

abbrev SendsNone : Kind → Type 0
SendsNone kind = sends_words kind ≡ false

mode_sends_none : (word : ModeWord) (broadcast same : Bool) (code : ℕ)
    → not (is_sent word && broadcast) ≡ true
    → SendsNone (cond (same && (broadcast || false)) (mode_kind_of word code) Illegal)
mode_sends_none Without broadcast same code to_one =
    by_test SendsNone (same && (broadcast || false)) (λ may.
    by_test SendsNone (eqb code 2) (λ status. refl) (λ other.
    by_test SendsNone (leb 4 code && leb code 7) (λ switch. refl) (λ reply. refl)))
    (λ not_allowed. refl)
mode_sends_none Sent true same code to_one = cc
mode_sends_none Sent false false code to_one = refl
mode_sends_none Sent false true code to_one = refl
mode_sends_none Taken broadcast same code to_one =
    by_test SendsNone (same && (broadcast || false)) (λ may. refl) (λ not_allowed. refl)

row_sends_none : (row : Option Mode) (command : ℕ) → is_broadcast command ≡ true
    → sent_to_one row ≡ true → SendsNone (row_kind_of row command)
row_sends_none None command to_all_lem to_one = refl
row_sends_none (Some row) command to_all_lem to_one =
    rw to_all_lem
    (mode_sends_none row.word row.broadcast (beq (is_transmit command) row.transmit)
    (mode_code_of command) to_one)

broadcast_sends_none : (command : ℕ) → is_broadcast command ≡ true → SendsNone (kind_of command)
unfolding kind_of
broadcast_sends_none command to_all_lem =
    by_test SendsNone (is_mode command) (λ mode.
    row_sends_none (mode_of (mode_code_of command)) command to_all_lem
    (mode_to_one (mode_code_of command))) (λ no_mode.
    rw to_all_lem
    (by_test SendsNone (not (is_transmit command)) (λ receives. refl) (λ transmits. refl)))

pub sends_to_one : (command : ℕ) → sends_words (kind_of command) ≡ true
    → is_broadcast command ≡ false
sends_to_one command sends = go (is_broadcast command) refl
  where
    go : (to_all_lem : Bool) → is_broadcast command ≡ to_all_lem → is_broadcast command ≡ false
    go true is =
        let silent : sends_words (kind_of command) ≡ false = broadcast_sends_none command is in
        cc
    go false is = is
