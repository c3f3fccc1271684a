-- Words of an open message: document 01's rules 1 to 8 in their order. What is to be done is
-- decided here and done in `WordStep`. Definitions only. Assumes nothing.
use Rattle.std.specs.Prelude.{Bool, cond, not, ◌&&◌, ◌||◌, ℕ, ◌+◌, ◌%◌, eqb, leb, is_some}
use Rattle.std.specs.Option.{unwrap_or}
use Rattle.std.specs.Bool.{beq}
use Rattle.bus.specs.declared.word.Word.{Word}
use Rattle.bus.specs.Command.{address_of, mode_code_of, is_transmit, is_broadcast, is_mode}
use Rattle.message.specs.declared.asked.Asked.{Asked}
use Rattle.message.specs.declared.judge.WordAct.{WordAct}
use Rattle.message.specs.declared.judge.WordAct.TheVariants.{
  Ignore,
  Store,
  Check,
  TakeSecond,
  TakeStatus,
  Fault,
  Supersede,
  Drop,
}
use Rattle.message.specs.declared.state.Stage.{Stage}
use Rattle.message.specs.declared.state.Stage.TheVariants.{
  Data,
  SecondCommand,
  AwaitingStatus,
  Skipping,
}
use Rattle.message.specs.declared.state.OpenMessage.{OpenMessage}
use Rattle.message.specs.Asked.{keeps_back}

-- ---- own commands

-- an own command: sound, command sync, address = station, or 31 with broadcast enabled, flag 0
unfoldable pub own_command : ℕ → ℕ → Word → Bool
own_command station flags word =
    word.sound && word.sync
    && (eqb (address_of word.value) station
    || (is_broadcast word.value && eqb (flags % 2) 1))

-- ---- rule 6

-- direction 1, subaddress 1 to 30
abbrev pub asks_for_data : ℕ → Bool
asks_for_data value = is_transmit value && not (is_mode value)

-- the broadcast message is dropped: the word is to this station alone and asks for data
abbrev pub drops_broadcast : ℕ → ℕ → ℕ → Bool
drops_broadcast station command value =
    is_broadcast command && eqb (address_of value) station && asks_for_data value

-- a second command: direction 1, address neither own nor 31, subaddress 1 to 30, same count
abbrev pub is_second : ℕ → ℕ → ℕ → Bool
is_second station command value =
    asks_for_data value && not (eqb (address_of value) station) && not (is_broadcast value)
    && eqb (mode_code_of value) (mode_code_of command)

abbrev pub first_command : ℕ → ℕ → ℕ → WordAct
first_command station command value =
    cond (drops_broadcast station command value) Drop
    (cond (is_second station command value) (TakeSecond value) (Fault 7))

-- ---- the rules, by the message's stage

-- rules 1, 3, 5, 6, 7, 8
unfoldable pub in_data : ℕ → Asked → OpenMessage → Word → WordAct
in_data station asked message word =
    cond (not word.sound) (Fault 1)
    (cond (not word.joined) (Fault 3)
    (cond (leb asked.takes message.taken) (Fault 4)
    (cond
    (word.sync && asked.receive && eqb message.taken 0 && not (is_some message.second))
    (first_command station message.command word.value)
    (cond word.sync (Fault 6)
    (cond (keeps_back asked message)
    (Check (message.taken + 1))
    (Store (message.taken + 1)))))))

-- rules 1, 3, 4
unfoldable pub in_second_command : Word → WordAct
in_second_command word =
    cond (not word.sound) (Fault 1) (cond (not word.joined) (Fault 3) (Fault 7))

-- rules 1, 2
unfoldable pub in_awaiting_status : ℕ → Word → WordAct
in_awaiting_status second word =
    cond (not word.sound) (Fault 1)
    (cond (not word.sync) (Fault 6)
    (cond (eqb (address_of word.value) (address_of second)) TakeStatus (Fault 5)))

abbrev pub word_in_stage : Stage → ℕ → Asked → OpenMessage → Word → WordAct
word_in_stage Data station asked message word = in_data station asked message word
word_in_stage SecondCommand station asked message word = in_second_command word
word_in_stage AwaitingStatus station asked message word =
    in_awaiting_status (unwrap_or message.second 0) word
word_in_stage Skipping station asked message word = Ignore

-- an own command on the other line, or unjoined on the same line, supersedes; other words on the
-- other line do nothing; else the rules
unfoldable pub on_word : ℕ → ℕ → Asked → OpenMessage → Word → WordAct
on_word station flags asked message word =
    cond
    (own_command station flags word
    && (not (beq word.line message.line) || not word.joined))
    Supersede
    (cond (not (beq word.line message.line)) Ignore
    (word_in_stage message.stage station asked message word))
