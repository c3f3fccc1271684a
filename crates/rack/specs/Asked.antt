-- What is asked of a message, by the terminal's own definitions: the terminals are idle and ready,
-- the commands fit their row, and their stations are on the bus. Definitions only. Assumes nothing.
use Rattle.std.specs.Prelude.{◌≡◌, ◌≢◌, Bool, true, false, cond, List, ℕ, Option, Some, None}
use Rattle.bus.specs.declared.word.Word.{Word}
use Rattle.bus.specs.declared.kind.Kind.{Kind}
use Rattle.bus.specs.declared.kind.Kind.TheVariants.{
  Receive,
  Transmit,
  ModeStatus,
  ModeLast,
  ModeSwitch,
  ModeSend,
  ModeTake,
  ModeReply,
  Illegal,
}
use Rattle.bus.specs.Command.{address_of, is_broadcast, mode_code_of}
use Rattle.bus.specs.Kind.{kind_of}
use Rattle.message.specs.declared.state.OpenMessage.{OpenMessage}
use Rattle.message.specs.Asked.{asked_of}
use Rattle.message.specs.Words.{own_command, asks_for_data}
use Rattle.terminal.specs.State.{Card}
use Rattle.terminal.specs.Opening.{opened_as}
use Rattle.terminal_laws.specs.AtRest.{AtRest}
use Rattle.terminal_laws.specs.OwnStatus.{OwnStatus}
use Rattle.terminal_laws.specs.Written.{TableElsewhere}
use Rattle.formats.specs.declared.row.Row.{Row}
use Rattle.formats.specs.declared.row.Row.TheVariants.{
  ToTerminal,
  FromTerminal,
  Between,
  ModeAlone,
  ModeWithWord,
  ModeForWord,
}
use Rattle.exchange.specs.declared.order.Order.{Order}
use Rattle.controller.specs.Control.{line_in}
use Rattle.controller.specs.Start.{starting}
use Rattle.controller.specs.Actions.{start_action}
use Rattle.rack.specs.Segment.{command_word}
use Rattle.rack.specs.Bus.{Rack}
use Rattle.rack.specs.Terminals.{Each, Different, OnBus}

-- nothing open, a fit state over a whole memory, the own address in the remembered status
pub record IsIdle (terminal : Card) : Type 0 where
  pub rest : AtRest terminal
  pub status : OwnStatus terminal.core

-- ---- a command at a terminal

-- the command as it is heard; own, busy and block hang on no line, stamp or joining
abbrev pub heard_as : ℕ → Word
heard_as command = command_word false false command 0

abbrev pub is_own : ℕ → Card → Bool
is_own command terminal =
    own_command terminal.core.station terminal.core.flags (heard_as command)

-- the message that it opens
abbrev pub opened_for : ℕ → Card → OpenMessage
opened_for command terminal = opened_as (heard_as command) terminal.core terminal.ram

-- a terminal is ready for a command that it takes: not busy; the block, if there is one, is not the
-- table; the line is not shut, unless the command is a broadcast
pub record Ready (line : Bool) (command : ℕ) (terminal : Card) : Type 0 where
  pub not_busy : (opened_for command terminal).busy ≡ false
  pub not_table : TableElsewhere (asked_of command) (opened_for command terminal)
  pub not_shut : is_broadcast command ≡ false
      → cond line terminal.core.shut.b terminal.core.shut.a ≡ false

-- ---- an order at a terminal

-- which of its commands a terminal takes: between two terminals the second if that is own, else the
-- first
abbrev pub taken_alone : ℕ → Card → Option ℕ
taken_alone first terminal = cond (is_own first terminal) (Some first) None

abbrev pub taken_of : Row → ℕ → ℕ → Card → Option ℕ
taken_of ToTerminal first second terminal = taken_alone first terminal
taken_of FromTerminal first second terminal = taken_alone first terminal
taken_of Between first second terminal =
    cond (is_own second terminal) (Some second) (taken_alone first terminal)
taken_of ModeAlone first second terminal = taken_alone first terminal
taken_of ModeWithWord first second terminal = taken_alone first terminal
taken_of ModeForWord first second terminal = taken_alone first terminal

abbrev pub taken : Order → Card → Option ℕ
taken order terminal = taken_of order.row order.first order.second terminal

abbrev pub ReadyFor : Bool → Option ℕ → Card → Type 0
ReadyFor line None terminal = Unit {0}
ReadyFor line (Some command) terminal = Ready line command terminal

-- ---- fit commands

-- the row of a legal command; "transmit last command" has no block to compare
abbrev pub RowOf : Kind → Row → Type 0
RowOf Receive row = row ≡ ToTerminal
RowOf Transmit row = row ≡ FromTerminal
RowOf ModeStatus row = row ≡ ModeAlone
RowOf ModeSwitch row = row ≡ ModeAlone
RowOf ModeReply row = row ≡ ModeAlone
RowOf ModeTake row = row ≡ ModeWithWord
RowOf ModeSend row = row ≡ ModeForWord
RowOf ModeLast row = ⊥
RowOf Illegal row = ⊥

-- a transfer between two terminals: a data receive, and a data transmit of the same count from
-- another station
pub record FitTransfer (first second : ℕ) : Type 0 where
  pub receives : kind_of first ≡ Receive
  pub asks : asks_for_data second ≡ true
  pub to_one : is_broadcast second ≡ false
  pub same_count : mode_code_of second ≡ mode_code_of first
  pub other_station : address_of second ≢ address_of first

abbrev pub FitRow : Row → ℕ → ℕ → Type 0
FitRow ToTerminal first second = RowOf (kind_of first) ToTerminal
FitRow FromTerminal first second = RowOf (kind_of first) FromTerminal
FitRow Between first second = FitTransfer first second
FitRow ModeAlone first second = RowOf (kind_of first) ModeAlone
FitRow ModeWithWord first second = RowOf (kind_of first) ModeWithWord
FitRow ModeForWord first second = RowOf (kind_of first) ModeForWord

-- legal commands of their row, with address 31 exactly if X is set
pub record FitOrder (order : Order) : Type 0 where
  pub row : FitRow order.row order.first order.second
  pub broadcast : is_broadcast order.first ≡ order.broadcast

-- the stations that the commands address are on the bus
abbrev pub Addressed : ℕ → List Card → Type 0
Addressed command terminals = is_broadcast command ≡ false → OnBus (address_of command) terminals

abbrev pub AllAddressed : Row → ℕ → ℕ → List Card → Type 0
AllAddressed ToTerminal first second terminals = Addressed first terminals
AllAddressed FromTerminal first second terminals = Addressed first terminals
AllAddressed Between first second terminals = Addressed first terminals × Addressed second terminals
AllAddressed ModeAlone first second terminals = Addressed first terminals
AllAddressed ModeWithWord first second terminals = Addressed first terminals
AllAddressed ModeForWord first second terminals = Addressed first terminals

-- all that is asked of a message, as it starts
pub record Asked (order : Order) (old : Rack) : Type 0 where
  pub starts : start_action old.desk ≡ starting order old.desk
  pub fit : FitOrder order
  pub addressed : AllAddressed order.row order.first order.second old.terminals
  pub different : Different old.terminals
  pub idle : Each IsIdle old.terminals
  pub ready : Each (λ terminal. ReadyFor (line_in old.desk.state.control) (taken order terminal)
      terminal) old.terminals
