-- Words and silences that come back, and the end of a message: rules 4 to 7 of K10. Definitions
-- only. Assumes nothing.
use Rattle.std.specs.Prelude.{
  Bool,
  false,
  cond,
  not,
  ◌&&◌,
  List,
  [],
  ◌∷◌,
  ℕ,
  eqb,
  Option,
  Some,
  None,
}
use Rattle.std.specs.Bool.{beq}
use Rattle.bus.specs.declared.word.Word.{Word}
use Rattle.card.specs.Memory.{the_cell, cell_at, with_cell}
use Rattle.exchange.specs.declared.order.Order.{Order}
use Rattle.exchange.specs.declared.state.Exchange.{Exchange}
use Rattle.exchange.specs.declared.judge.WordAct.{WordAct}
use Rattle.exchange.specs.declared.judge.WordAct.TheVariants.{Take}
use Rattle.exchange.specs.declared.judge.WordAct.TheVariants as heard
use Rattle.exchange.specs.declared.judge.SilenceAct.{SilenceAct}
use Rattle.exchange.specs.declared.judge.SilenceAct.TheVariants.{GoOn, End}
use Rattle.exchange.specs.declared.judge.SilenceAct.TheVariants as silent
use Rattle.exchange.specs.Order.{format_for}
use Rattle.exchange.specs.Judge as exchange
use Rattle.controller.specs.declared.state.Came.{Came}
use Rattle.controller.specs.declared.state.OpenMessage.{OpenMessage}
use Rattle.controller.specs.Control.{block_in, line_in, goes_on}
use Rattle.controller.specs.State.{Desk, desk, came, open_back, with_message}

-- what a word or a silence leaves: the result where it ends the message, and the desk
pub record Heard : Type 0 where
  pub result : Option Came
  pub desk : Desk

abbrev pub heard_as : Option Came → Desk → Heard
heard_as result new = record { result = result; desk = new }

-- nothing of it
abbrev pub unheard : Desk → Heard
unheard old = heard_as None old

-- ---- the end

-- code 0, mark clear and bit 4 set: the chain goes on
abbrev pub chains : ℕ → Bool → ℕ → Bool
chains code mark control = eqb code 0 && not mark && goes_on control

-- cell 63 becomes the control word, and its message is due; else the control word stays, and
-- nothing is
unfoldable pub ended : ℕ → Bool → Desk → Heard
ended code mark old =
    let control : ℕ = old.state.control in
    let on : Bool = chains code mark control in
    heard_as (came code mark)
    (desk (record old.state {
      control = cond on (cell_at old.ram (block_in control) (the_cell 63)) control;
      due = on;
      result = came code mark;
      message = None;
    }) old.ram)

-- the message goes on
abbrev pub going_on : Order → Exchange → Desk → Heard
going_on order exchange old =
    heard_as None (desk (with_message (open_back order exchange) old.state) old.ram)

-- the mark so far
abbrev pub mark_of : Option Exchange → Bool
mark_of None = false
mark_of (Some exchange) = exchange.mark

-- ---- a word

-- before the first silence any word is out of place: 1 unsound, else 7
abbrev pub word_in : Option Exchange → Order → Word → WordAct
word_in None order word = cond (not word.sound) (heard.Fault 1) (heard.Fault 7)
word_in (Some so_far) order word = exchange.on_word order so_far word

-- a word that is taken is stored in the cell of its number on the bus; one that brings a fault is
-- not
abbrev pub word_done : WordAct → OpenMessage → Word → Desk → Heard
word_done (heard.Fault code) message word old = ended code (mark_of message.progress) old
word_done (Take cell so_far) message word old =
    going_on message.order so_far
    (desk old.state
    (with_cell old.ram (block_in old.state.control) (the_cell cell) word.value))

-- only words of the message's line have an effect
abbrev pub word_met : Option OpenMessage → Word → Desk → Heard
word_met None word old = unheard old
word_met (Some message) word old =
    cond (beq word.line (line_in old.state.control))
    (word_done (word_in message.progress message.order word) message word old)
    (unheard old)

unfoldable pub word_step : Word → Desk → Heard
word_step word old = word_met old.state.message word old

-- word after word
unfoldable pub words_step : List Word → Desk → Desk
words_step [] old = old
words_step (word ∷ words) old = words_step words (word_step word old).desk

-- ---- a silence

-- the first one: the end where no status comes back, as in broadcast; otherwise one is due
abbrev pub silence_in : Option Exchange → Order → SilenceAct
silence_in None order = cond (format_for order).status (GoOn exchange.at_first) End
silence_in (Some so_far) order = exchange.on_silence order so_far

abbrev pub silence_done : SilenceAct → OpenMessage → Desk → Heard
silence_done (silent.Fault code) message old = ended code (mark_of message.progress) old
silence_done (GoOn so_far) message old = going_on message.order so_far old
silence_done End message old = ended 0 (mark_of message.progress) old

abbrev pub silence_met : Option OpenMessage → Bool → Desk → Heard
silence_met None line old = unheard old
silence_met (Some message) line old =
    cond (beq line (line_in old.state.control))
    (silence_done (silence_in message.progress message.order) message old)
    (unheard old)

unfoldable pub silence_step : Bool → Desk → Heard
silence_step line old = silence_met old.state.message line old
