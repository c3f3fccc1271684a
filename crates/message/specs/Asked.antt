-- What a command asks of the card: document 01's "Block" and "Mode codes". Definitions only.
-- Assumes nothing.
use Rattle.std.specs.Prelude.{Bool, true, false, cond, ◌&&◌, ℕ, ◌+◌, eqb}
use Rattle.bus.specs.declared.kind.Kind.{Kind}
use Rattle.bus.specs.declared.kind.Kind.TheVariants.{
  Receive,
  Transmit,
  ModeStatus,
  ModeLast,
  ModeSwitch,
  ModeSend,
  ModeTake,
  ModeReply,
  Illegal,
}
use Rattle.bus.specs.Command.{subaddress_of, mode_code_of, words_of}
use Rattle.bus.specs.Kind.{kind_of}
use Rattle.card.specs.declared.place.Cell.{Cell}
use Rattle.card.specs.Memory.{the_cell}
use Rattle.message.specs.declared.asked.Asked.{Asked}
use Rattle.message.specs.declared.state.OpenMessage.{OpenMessage}

-- ---- the columns of the table below

-- whether the command is illegal
abbrev pub legal : Bool
legal = false

abbrev pub illegal : Bool
illegal = true

-- whether the command has a block, and the table cell of its chain
pub record Chain : Type 0 where
  pub block : Bool
  pub cell : Cell

-- a block, by the table word of this cell
abbrev pub chain : Cell → Chain
chain cell = record { block = true; cell = cell }

-- no block. An opening reads one table word whatever the command is, so such a command has a cell
-- too: that of the mode codes, of which it makes nothing
abbrev pub no_block : Chain
no_block = record { block = false; cell = the_cell 31 }

-- the words that it takes, those that its reply sends from the block, and whether it is a data
-- receive, whose first word rule 6 looks at
pub record Moves : Type 0 where
  pub takes : ℕ
  pub sends : ℕ
  pub receive : Bool

abbrev pub takes_data : ℕ → Moves
takes_data words = record { takes = words; sends = 0; receive = true }

abbrev pub takes : ℕ → Moves
takes words = record { takes = words; sends = 0; receive = false }

abbrev pub sends : ℕ → Moves
sends words = record { takes = 0; sends = words; receive = false }

abbrev pub no_words : Moves
no_words = record { takes = 0; sends = 0; receive = false }

-- under busy its words are neither stored nor sent, or they are all the same
abbrev pub yields : Bool
yields = true

abbrev pub serves : Bool
serves = false

-- whether its opening makes the remembered status anew, and whether it keeps the last command,
-- which its reply then sends
pub record Keeps : Type 0 where
  pub fresh : Bool
  pub last : Bool

abbrev pub keeps_none : Keeps
keeps_none = record { fresh = true; last = false }

abbrev pub keeps_status : Keeps
keeps_status = record { fresh = false; last = false }

abbrev pub keeps_both : Keeps
keeps_both = record { fresh = false; last = true }

-- the mode code that acts on shut lines and inhibit; 0 acts on nothing
abbrev pub no_act : ℕ
no_act = 0

-- ---- the table

-- a line of it, column by column
abbrev pub columns : Bool → Chain → Moves → Bool → Keeps → ℕ → Asked
columns legality chained moves yielding keeps switch =
    record {
      illegal = legality;
      block = chained.block;
      cell = chained.cell;
      takes = moves.takes;
      sends = moves.sends;
      receive = moves.receive;
      yields = yielding;
      fresh = keeps.fresh;
      last = keeps.last;
      switch = switch;
    }

-- a data chain goes by direction and subaddress; a mode chain by its code: 16 by cell 32, 19 by 63,
-- the others by 31. Internal codes 2, 4 to 7 and 18 and illegal commands have no block
unfoldable pub asked_by : Kind → ℕ → Asked
asked_by Receive command =
    columns legal (chain (the_cell (subaddress_of command))) (takes_data (words_of command))
    yields keeps_none no_act
asked_by Transmit command =
    columns legal (chain (the_cell (32 + subaddress_of command))) (sends (words_of command))
    yields keeps_none no_act
asked_by ModeStatus command = columns legal no_block no_words serves keeps_status no_act
asked_by ModeLast command = columns legal no_block no_words serves keeps_both no_act
asked_by ModeSwitch command =
    columns legal no_block no_words serves keeps_none (mode_code_of command)
asked_by ModeSend command =
    columns legal (chain (the_cell (cond (eqb (mode_code_of command) 16) 32 63))) (sends 1)
    serves keeps_none no_act
asked_by ModeTake command = columns legal (chain (the_cell 31)) (takes 1) serves keeps_none no_act
asked_by ModeReply command =
    columns legal (chain (the_cell 31)) no_words serves keeps_none (mode_code_of command)
asked_by Illegal command = columns illegal no_block no_words serves keeps_none no_act

-- what a command asks
abbrev pub asked_of : ℕ → Asked
asked_of command = asked_by (kind_of command) command

-- what the command of an open message asks
abbrev pub asks : OpenMessage → Asked
asks message = asked_of message.command

-- under busy the words of a command that yields are neither stored nor sent
abbrev pub keeps_back : Asked → OpenMessage → Bool
keeps_back asked message = message.busy && asked.yields
