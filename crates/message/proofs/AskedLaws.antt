-- The lines of the table in `specs/Asked.antt`, as the code makes them: one that asks for nothing
-- but its block, with some columns set anew. Assumes nothing.
use mathlib.Core.Path.{◌≡◌}
use mathlib.Core.Bool.{Bool, true, false, cond}
use Prim.Native.Nat.{ℕ, ◌+◌}
use lib.Dec.{eqb}
use Rattle.bus.specs.declared.kind.Kind.{Kind}
use Rattle.bus.specs.declared.kind.Kind.TheVariants.{
  Receive,
  Transmit,
  ModeStatus,
  ModeLast,
  ModeSwitch,
  ModeSend,
  ModeTake,
  ModeReply,
  Illegal,
}
use Rattle.bus.specs.Command.{subaddress_of, mode_code_of, words_of}
use Rattle.bus.specs.Kind.{kind_of}
use Rattle.card.specs.declared.place.Cell.{Cell}
use Rattle.card.specs.Memory.{the_cell}
use Rattle.message.specs.declared.asked.Asked.{Asked}
use Rattle.message.specs.Asked.{
  legal,
  Chain,
  chain,
  no_block,
  no_words,
  serves,
  keeps_none,
  no_act,
  columns,
  asked_by,
  asked_of,
}

-- nothing but the block
abbrev bare : Chain → Asked
bare chained = columns legal chained no_words serves keeps_none no_act

pub block_taken_away : (asked : Asked) → asked ≡ bare (chain (the_cell 31))
    → record {
      illegal = asked.illegal;
      block = false;
      cell = asked.cell;
      takes = asked.takes;
      sends = asked.sends;
      receive = asked.receive;
      yields = asked.yields;
      fresh = asked.fresh;
      last = asked.last;
      switch = asked.switch;
    } ≡ bare no_block
block_taken_away asked is = rw is

-- the columns that the code sets
abbrev with : Asked → Bool → ℕ → ℕ → Bool → Bool → Bool → Bool → ℕ → Asked
with asked illegal takes sends receive yields fresh last switch =
    record {
      illegal = illegal;
      block = asked.block;
      cell = asked.cell;
      takes = takes;
      sends = sends;
      receive = receive;
      yields = yields;
      fresh = fresh;
      last = last;
      switch = switch;
    }

module _ (asked : Asked) (kind : Kind) (command subaddress words code : ℕ) (cell : Cell) where
  pub kind_receive : kind ≡ Receive
      → subaddress ≡ subaddress_of command → words ≡ words_of command
      → asked ≡ bare (chain (the_cell subaddress))
      → with asked asked.illegal words asked.sends true true asked.fresh asked.last
      asked.switch ≡ asked_by kind command
  unfolding asked_by
  kind_receive is is_subaddress is_words same =
      rw (is, ← is_subaddress, ← is_words, same)

  pub kind_transmit : kind ≡ Transmit
      → subaddress ≡ subaddress_of command → words ≡ words_of command
      → asked ≡ bare (chain (the_cell (32 + subaddress)))
      → with asked asked.illegal asked.takes words asked.receive true asked.fresh
      asked.last asked.switch ≡ asked_by kind command
  unfolding asked_by
  kind_transmit is is_subaddress is_words same =
      rw (is, ← is_subaddress, ← is_words, same)

  pub kind_status : kind ≡ ModeStatus → asked ≡ bare no_block
      → with asked asked.illegal asked.takes asked.sends asked.receive
      asked.yields false asked.last asked.switch ≡ asked_by kind command
  unfolding asked_by
  kind_status is same = rw (is, same)

  pub kind_last : kind ≡ ModeLast → asked ≡ bare no_block
      → with asked asked.illegal asked.takes asked.sends asked.receive
      asked.yields false true asked.switch ≡ asked_by kind command
  unfolding asked_by
  kind_last is same = rw (is, same)

  pub kind_switch : kind ≡ ModeSwitch → code ≡ mode_code_of command → asked ≡ bare no_block
      → with asked asked.illegal asked.takes asked.sends asked.receive
      asked.yields asked.fresh asked.last code ≡ asked_by kind command
  unfolding asked_by
  kind_switch is is_code same = rw (is, ← is_code, same)

  pub kind_send : kind ≡ ModeSend → code ≡ mode_code_of command
      → cell ≡ the_cell (cond (eqb code 16) 32 63)
      → asked ≡ bare (chain cell)
      → with asked asked.illegal asked.takes 1 asked.receive asked.yields
      asked.fresh asked.last asked.switch ≡ asked_by kind command
  unfolding asked_by
  kind_send is is_code is_cell same = rw (is, ← is_code, ← is_cell, same)

  pub kind_take : kind ≡ ModeTake → asked ≡ bare (chain (the_cell 31))
      → with asked asked.illegal 1 asked.sends asked.receive asked.yields
      asked.fresh asked.last asked.switch ≡ asked_by kind command
  unfolding asked_by
  kind_take is same = rw (is, same)

  pub kind_reply : kind ≡ ModeReply → code ≡ mode_code_of command
      → asked ≡ bare (chain (the_cell 31))
      → with asked asked.illegal asked.takes asked.sends asked.receive
      asked.yields asked.fresh asked.last code ≡ asked_by kind command
  unfolding asked_by
  kind_reply is is_code same = rw (is, ← is_code, same)

  pub kind_illegal : kind ≡ Illegal → asked ≡ bare no_block
      → with asked true asked.takes asked.sends asked.receive asked.yields
      asked.fresh asked.last asked.switch ≡ asked_by kind command
  unfolding asked_by
  kind_illegal is same = rw (is, same)

  -- of the kind that the command has
  pub asked_is : kind ≡ kind_of command → asked ≡ asked_by kind command → asked ≡ asked_of command
  asked_is is same = rw (← is) same

pub ruleset kinds = (
  kind_receive,
  kind_transmit,
  kind_status,
  kind_last,
  kind_switch,
  kind_send,
  kind_take,
  kind_reply,
  kind_illegal,
)
