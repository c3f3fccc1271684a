-- A word keeps the card fit, `fit_word`. Whatever it decides leaves a fit message, or opens by a
-- command that is addressed to the station or to all: `word_fits`, by `search` through the tests of
-- rules 1 to 8. Assumes nothing.
use Rattle.std.proofs.Common.{None, Option, Some, is_some}
use mathlib.Core.Path.{◌≡◌, refl}
use mathlib.Core.Bool.{Bool, true, false, cond, not, ◌&&◌, ◌||◌}
use Prim.Native.Nat.{ℕ, ◌+◌, ◌%◌}
use lib.Dec.{eqb}
use Rattle.rules.proofs.Cases.{at_first}
use Rattle.rules.proofs.Halves.{first_of_both, second_of_both}
use Rattle.bus.specs.declared.word.Word.{Word}
use Rattle.bus.specs.Command.{address_of, is_broadcast}
use Rattle.card.specs.Memory.{card_blocks}
use Rattle.message.specs.declared.judge.WordAct.{WordAct}
use Rattle.message.specs.declared.judge.WordAct.TheVariants.{
  Ignore,
  Store,
  Check,
  TakeSecond,
  TakeStatus,
  Fault,
  Supersede,
  Drop,
}
use Rattle.message.specs.declared.state.Stage.{Stage}
use Rattle.message.specs.declared.state.Stage.TheVariants.{
  Data,
  SecondCommand,
  AwaitingStatus,
  Skipping,
}
use Rattle.message.specs.declared.state.OpenMessage.{OpenMessage}
use Rattle.message.specs.Message.{further}
use Rattle.message.specs.Asked.{asks}
use Rattle.message.specs.Words.{own_command}
use Rattle.message.specs.Words.{
  asks_for_data,
  drops_broadcast,
  is_second,
  in_data,
  in_second_command,
  in_awaiting_status,
  word_in_stage,
  on_word,
}
use Rattle.message.specs.Fitness.{fit_message}
use Rattle.terminal.specs.State.{Card, with_status, with_message}
use Rattle.terminal.specs.Closing.{closing, faulted}
use Rattle.terminal.specs.Event.{opens, quietly}
use Rattle.terminal.specs.WordStep.{word_done, word_met}
use Rattle.terminal_laws.proofs.FitParts.{
  addressed,
  is_legal,
  InStage,
  FitOpen,
  fit_open_parts,
  FitCard,
}
use Rattle.terminal_laws.proofs.FitMessage.{
  fits_with_word,
  fits_with_second,
  fits_with_status,
}
use Rattle.terminal_laws.proofs.FitChanges.{fit_going_on, fit_opening, fit_faulted}

-- ---- acts

-- an act, with what makes fit the message that it leaves or opens
data FitAct (station : ℕ) (message : OpenMessage) (word : Word) : WordAct → Type 0 where
  ignores : FitAct station message word Ignore
  stores : FitOpen station (further Data message.second (message.taken + 1) message)
      → FitAct station message word (Store (message.taken + 1))
  checks : FitOpen station (further Data message.second (message.taken + 1) message)
      → FitAct station message word (Check (message.taken + 1))
  takes_second : {value : ℕ}
      → FitOpen station (further SecondCommand (Some value) message.taken message)
      → FitAct station message word (TakeSecond value)
  takes_status : FitOpen station (further Data message.second message.taken message)
      → FitAct station message word TakeStatus
  faults : {code : ℕ} → FitAct station message word (Fault code)
  supersedes : addressed station word.value ≡ true → FitAct station message word Supersede
  drops : addressed station word.value ≡ true → FitAct station message word Drop

-- a test decides between two acts
decides : {station : ℕ} {message : OpenMessage} {word : Word} {test : Bool} {act other : WordAct}
    → (test ≡ true → FitAct station message word act)
    → (test ≡ false → FitAct station message word other)
    → FitAct station message word (cond test act other)
decides {test = true} holds fails = holds refl
decides {test = false} holds fails = fails refl

ruleset acts = (ignores, faults, decides)

-- ---- commands that open

-- an own command is addressed to the station or to all
own_is_addressed : (station flags : ℕ) (word : Word)
    → own_command station flags word ≡ true → addressed station word.value ≡ true
unfolding own_command
own_is_addressed station flags word own =
    let alone = eqb (address_of word.value) station in
    let broadcast = is_broadcast word.value in
    go alone broadcast
    (second_of_both (word.sound && word.sync) (alone || (broadcast && eqb (flags % 2) 1)) own)
  where
    go : (alone broadcast : Bool) → (alone || (broadcast && eqb (flags % 2) 1)) ≡ true
        → (alone || broadcast) ≡ true
    go true broadcast holds = refl
    go false broadcast holds = first_of_both broadcast (eqb (flags % 2) 1) holds

-- so is the command for which a broadcast message is dropped
drop_is_addressed : (station command value : ℕ)
    → drops_broadcast station command value ≡ true → addressed station value ≡ true
drop_is_addressed station command value dropping =
    let broadcast = is_broadcast command in
    let alone = eqb (address_of value) station in
    at_first alone (is_broadcast value)
    (second_of_both broadcast alone
    (first_of_both (broadcast && alone) (asks_for_data value) dropping))

-- ---- the rules

module _ (station : ℕ) (message : OpenMessage) (word : Word) (fit : FitOpen station message) where
  -- rule 6 takes a second command as the first word of a data receive
  second_fits : is_legal message ≡ true
      → (word.sync && (asks message).receive && eqb message.taken 0
      && not (is_some message.second)) ≡ true
      → is_second station message.command word.value ≡ true
      → FitOpen station (further SecondCommand (Some word.value) message.taken message)
  second_fits legal first second =
      let sync = word.sync in
      let receive = (asks message).receive in
      let none = eqb message.taken 0 in
      let to_none =
      first_of_both (sync && receive && none) (not (is_some message.second)) first in
      fits_with_second station message fit word.value legal
      (second_of_both sync receive (first_of_both (sync && receive) none to_none))
      (second_of_both (sync && receive) none to_none) second

  -- rules 1, 3, 5, 6, 7, 8: a word is taken only where one is wanted
  data_fits : is_legal message ≡ true
      → FitAct station message word (in_data station (asks message) message word)
  unfolding in_data
  data_fits legal =
      let one_more = fits_with_word station message fit legal in
      let second = second_fits legal in
      search (acts, stores, checks, takes_second, drops, one_more, second, drop_is_addressed)
      depth 14

  -- the rules of each stage
  stage_fits : (stage : Stage) → InStage stage message
      → FitAct station message word
      (word_in_stage stage station (asks message) message word)
  unfolding in_second_command in_awaiting_status
  stage_fits Data reached = data_fits reached
  stage_fits SecondCommand reached = search acts depth 12
  stage_fits AwaitingStatus reached =
      let legal = is_legal message in
      let second = is_some message.second in
      let answered =
      fits_with_status station message fit
      (first_of_both legal second
      (first_of_both (legal && second) (eqb message.taken 0) reached)) in
      search (acts, takes_status) depth 12
  stage_fits Skipping reached = ignores

  -- superseding, the other line, and then the stage
  word_fits : (flags : ℕ)
      → FitAct station message word
      (on_word station flags (asks message) message word)
  unfolding on_word
  word_fits flags =
      let in_stage = stage_fits message.stage fit.stage in
      let own = first_of_both (own_command station flags word) in
      let own_fits = own_is_addressed station flags word in
      search (acts, supersedes, own, own_fits) depth 12

-- ---- what is decided is done

-- each act keeps the card fit
fit_word_done : (message : OpenMessage) (act : WordAct) (word : Word) (old : Card)
    → FitOpen old.core.station message → FitCard old
    → FitAct old.core.station message word act
    → FitCard (word_done act (asks message) message word old).card
unfolding word_done faulted closing with_message with_status
fit_word_done message Ignore word old parts fit ignores = fit
fit_word_done message (Store taken) word old parts fit (stores next) =
    fit_going_on _ _ old next fit
fit_word_done message (Check taken) word old parts fit (checks next) =
    fit_going_on _ _ old next fit
fit_word_done message (TakeSecond value) word old parts fit (takes_second next) =
    fit_going_on _ _ old next fit
fit_word_done message TakeStatus word old parts fit (takes_status next) =
    fit_going_on _ _ old next fit
fit_word_done message (Fault code) word old parts fit faults =
    fit_faulted (asks message) code word.time message old parts.block fit
fit_word_done message Supersede word old parts fit (supersedes to_us) =
    let asked = asks message in
    fit_opening word (faulted asked 7 word.time message old) to_us
    (fit_faulted asked 7 word.time message old parts.block fit)
fit_word_done message Drop word old parts fit (drops to_us) = fit_opening word old to_us fit

-- with nothing open, an own command opens
fit_word_idle : (own : Bool) (word : Word) (old : Card)
    → own_command old.core.station old.core.flags word ≡ own → FitCard old
    → FitCard (cond own (opens word old) (quietly old)).card
fit_word_idle true word old own fit =
    fit_opening word old (own_is_addressed old.core.station old.core.flags word own) fit
fit_word_idle false word old own fit = fit

-- a word, whether or not a message is open
pub fit_word : (message : Option OpenMessage) (word : Word) (old : Card)
    → fit_message card_blocks message old.core.station ≡ true → FitCard old
    → FitCard (word_met message word old).card
fit_word None word old fit_message_lem fit =
    fit_word_idle (own_command old.core.station old.core.flags word) word old refl fit
fit_word (Some message) word old fit_message_lem fit =
    let parts = fit_open_parts old.core.station message fit_message_lem in
    fit_word_done message _ word old parts fit
    (word_fits old.core.station message word parts old.core.flags)
