-- The laws of `specs/Actions.antt`, as the code refuses and answers. Assumes nothing.
use mathlib.Core.Path.{◌≡◌, refl, sym, ap, ◌∙◌}
use mathlib.Core.Bool.{Bool, true, false, cond, not}
use mathlib.Core.List.{List}
use Prim.Native.Nat.{ℕ}
use lib.Dec.{eqb}
use lib.ListN.{length}
use lib.Seq.{sets}
use borrow.Author.Tests.{ne_eqb}
use Rattle.std.proofs.Common.{Some}
use Rattle.rules.proofs.Clash.{clash}
use Rattle.refusals.specs.declared.Refusal.{Refusal}
use Rattle.refusals.specs.Number.{number_of}
use Rattle.refusals.proofs.NumberLaws.{some_refused}
use Rattle.bus.specs.declared.word.Word.{Word}
use Rattle.bus.specs.Limits.{is_station, are_flags}
use Rattle.card.specs.Memory.{card_blocks, card_words, the_block, is_block}
use Rattle.card.specs.Host as host
use Rattle.card.specs.Host.{is_write}
use Rattle.terminal.specs.declared.state.Answer.{Answer}
use Rattle.terminal.specs.declared.state.Reply.{Reply}
use Rattle.terminal.specs.declared.state.Reply.TheVariants.{Silent}
use Rattle.terminal.specs.State.{Card}
use Rattle.terminal.specs.Event.{
  Event,
  word,
  silence,
  host_write,
  replied,
  Shown,
  shown,
  seen,
  quietly,
}
use Rattle.terminal.specs.WordStep.{word_step}
use Rattle.terminal.specs.SilenceStep.{silence_step}
use Rattle.terminal.specs.Machine.{step, host_write_step}
use Rattle.terminal.proofs.SilentLaws.{words_are_silent}
use Rattle.actions.specs.declared.Terminal.{Terminal}
use Rattle.actions.specs.Actions.{
  After,
  after,
  took,
  over,
  alone,
  fit_terminal,
  with_memory,
  without_memory,
  terminal_at_setup,
  no_terminal,
  done,
  setup_action,
}
use Rattle.actions.specs.AsCoded.Refusal.{setup_refusal, alone_refusal, memory_refusal}

-- what is refused has a number
some_number : {A : Type 0} (refusal : Refusal) → number_of refusal ≡ 0 → A
some_number refusal none = absurd (some_refused (Some refusal) refl none)

-- ---- actions over memory

module _ (given : Terminal) (ram : List ℕ) (in_order : Bool) (event : Event) where
  abbrev over_memory : Card
  over_memory = over given ram

  abbrev by_memory : (whole fit order : Bool) → After
  by_memory whole fit order =
      cond (not whole) (after 1 (replied Silent) over_memory)
      (cond (not fit) (after 4 (replied Silent) over_memory)
      (cond (not order) (after 8 (replied Silent) over_memory)
      (took (step event over_memory))))

  pub memory_refused : (refusal : Refusal)
      → number_of refusal
      ≡ memory_refusal (eqb (length ram) card_words) (fit_terminal given) in_order
      → after (number_of refusal) (replied Silent) over_memory
      ≡ with_memory in_order 8 event over_memory
  unfolding with_memory
  memory_refused refusal = go (eqb (length ram) card_words) (fit_terminal given) in_order
    where
      go : (whole fit order : Bool) → number_of refusal ≡ memory_refusal whole fit order
          → after (number_of refusal) (replied Silent) over_memory ≡ by_memory whole fit order
      go false fit order is = rw is
      go true false order is = rw is
      go true true false is = rw is
      go true true true is = some_number refusal is

  pub memory_took : (new : After)
      → 0 ≡ memory_refusal (eqb (length ram) card_words) (fit_terminal given) in_order
      → new ≡ took (step event over_memory) → new ≡ with_memory in_order 8 event over_memory
  unfolding with_memory
  memory_took new is same = go (eqb (length ram) card_words) (fit_terminal given) in_order is
    where
      go : (whole fit order : Bool) → 0 ≡ memory_refusal whole fit order
          → new ≡ by_memory whole fit order
      go false fit order is = absurd (clash (cc))
      go true false order is = absurd (clash (cc))
      go true true false is = absurd (clash (cc))
      go true true true is = same

  -- the words of a host write are judged last, so what refuses before goes by no words
  pub host_refused : (refusal : Refusal)
      → number_of refusal ≡ memory_refusal (eqb (length ram) card_words) (fit_terminal given) true
      → after (number_of refusal) (replied Silent) over_memory
      ≡ with_memory in_order 8 event over_memory
  unfolding with_memory
  host_refused refusal = go (eqb (length ram) card_words) (fit_terminal given)
    where
      go : (whole fit : Bool) → number_of refusal ≡ memory_refusal whole fit true
          → after (number_of refusal) (replied Silent) over_memory ≡ by_memory whole fit in_order
      go false fit is = rw is
      go true false is = rw is
      go true true is = some_number refusal is

module _ (given : Terminal) (ram : List ℕ) where
  pub word_took : (heard : Word) (new : Card)
      → new ≡ (word_step heard (over given ram)).card
      → after 0 (replied Silent) new ≡ took (step (word heard) (over given ram))
  unfolding step
  word_took heard new is_new = rw (words_are_silent heard (over given ram), ← is_new)

  pub silence_took : (line : Bool) (time : ℕ) (new : Card) (reply : Reply)
      → shown new (replied reply) ≡ seen (silence_step line time (over given ram))
      → after 0 (replied reply) new ≡ took (step (silence line time) (over given ram))
  unfolding step
  silence_took line time new reply same =
      ap (λ (look : Shown). after 0 look.answer look.card) same

  pub host_took : (address : ℕ) (words : List ℕ) (number : ℕ) (left : List ℕ)
      → 0 ≡ memory_refusal (eqb (length ram) card_words) (fit_terminal given) true
      → host.wrote number left ≡ host.host_write card_blocks ram address words
      → after number (replied Silent) (over given left)
      ≡ with_memory
      (is_write card_blocks address (length words)) 8 (host_write address words) (over given ram)
  unfolding with_memory step host_write_step host.host_write
  host_took address words number left is is_left =
      ap answered is_left
      ∙ go (eqb (length ram) card_words) (fit_terminal given)
      (is_write card_blocks address (length words))
      is
    where
      answered : host.Wrote → After
      answered done = after done.number (replied Silent) (over given done.ram)

      go : (whole fit order : Bool) → 0 ≡ memory_refusal whole fit true
          → answered (cond whole
          (cond order (host.wrote 0 (sets ram address words)) (host.wrote 8 ram))
          (host.wrote 1 ram))
          ≡ cond (not whole) (after 1 (replied Silent) (over given ram))
          (cond (not fit) (after 4 (replied Silent) (over given ram))
          (cond (not order) (after 8 (replied Silent) (over given ram))
          (took (quietly (over given (sets ram address words))))))
      go false fit order none = absurd (clash (cc))
      go true false order none = absurd (clash (cc))
      go true true true none = refl
      go true true false none = refl

-- ---- actions on the terminal alone

module _ (given : Terminal) (in_order : Bool) (disorder : Refusal) (refused : Answer)
    (event : Event) where
  abbrev by_itself : (fit order : Bool) → After
  by_itself fit order =
      cond (not fit) (after 4 refused (alone given))
      (cond (not order) (after (number_of disorder) refused (alone given))
      (took (step event (alone given))))

  pub alone_refused : (refusal : Refusal)
      → number_of refusal ≡ alone_refusal (fit_terminal given) in_order (number_of disorder)
      → after (number_of refusal) refused (alone given)
      ≡ without_memory in_order (number_of disorder) refused event (alone given)
  unfolding without_memory
  alone_refused refusal = go (fit_terminal given) in_order
    where
      go : (fit order : Bool) → number_of refusal ≡ alone_refusal fit order (number_of disorder)
          → after (number_of refusal) refused (alone given) ≡ by_itself fit order
      go false order is = rw is
      go true false is = rw is
      go true true is = some_number refusal is

  pub alone_took : (new : After)
      → 0 ≡ alone_refusal (fit_terminal given) in_order (number_of disorder)
      → new ≡ took (step event (alone given))
      → new ≡ without_memory in_order (number_of disorder) refused event (alone given)
  unfolding without_memory
  alone_took new is same = go (fit_terminal given) in_order is
    where
      go : (fit order : Bool) → 0 ≡ alone_refusal fit order (number_of disorder)
          → new ≡ by_itself fit order
      go false order is = absurd (clash (cc))
      go true false is = some_number disorder (sym is)
      go true true is = same

-- ---- setup

module _ (station table flags : ℕ) where
  abbrev by_setup : (one two three : Bool) → ℕ
  by_setup one two three = cond (not one) 2 (cond (not two) 3 (cond (not three) 8 0))

  setup_by : setup_action station table flags
      ≡ cond (eqb (setup_refusal station table flags) 0)
      (done 0 (terminal_at_setup station (the_block table) flags))
      (done (setup_refusal station table flags) no_terminal)
  unfolding setup_action
  setup_by = go (is_station station) (is_block card_blocks (the_block table)) (are_flags flags)
    where
      go : (one two three : Bool)
          → cond (not one) (done 2 no_terminal)
          (cond (not two) (done 3 no_terminal)
          (cond (not three) (done 8 no_terminal)
          (done 0 (terminal_at_setup station (the_block table) flags))))
          ≡ cond (eqb (by_setup one two three) 0)
          (done 0 (terminal_at_setup station (the_block table) flags))
          (done (by_setup one two three) no_terminal)
      go false two three = refl
      go true false three = refl
      go true true false = refl
      go true true true = refl

  pub setup_refused : (refusal : Refusal) → number_of refusal ≡ setup_refusal station table flags
      → done (number_of refusal) no_terminal ≡ setup_action station table flags
  setup_refused refusal is =
      rw (setup_by, ← is, ne_eqb (number_of refusal) 0 (some_number refusal))

  pub setup_done : 0 ≡ setup_refusal station table flags
      → done 0 (terminal_at_setup station (the_block table) flags)
      ≡ setup_action station table flags
  setup_done is = rw (setup_by, ← is)
