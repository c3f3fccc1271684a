-- Every message that starts ends within three turns, whatever its commands ask: by one command or
-- two, and whether the first of two is legal. Assumes nothing.
use Rattle.std.proofs.Common.{None, Option, Some}
use mathlib.Core.Path.{◌≡◌, refl, ap, sym, subst, ◌∙◌}
use mathlib.Core.Logic.{◌≢◌}
use mathlib.Core.Bool.{Bool, true, false}
use mathlib.Core.List.{List, [], ◌∷◌}
use Prim.Native.Nat.{ℕ, suc}
use native.Mathlib.Omega.{arith}
use Rattle.rules.proofs.Cases.{not_first}
use Rattle.bus.specs.Command.{address_of}
use Rattle.message.specs.Asked.{asked_of}
use Rattle.formats.specs.declared.row.Format.{Format}
use Rattle.formats.specs.declared.row.Row.{Row}
use Rattle.formats.specs.declared.row.Row.TheVariants.{
  ToTerminal,
  FromTerminal,
  Between,
  ModeAlone,
  ModeWithWord,
  ModeForWord,
}
use Rattle.exchange.specs.declared.order.Order.{Order}
use Rattle.exchange.specs.Order.{format_for}
use Rattle.exchange.specs.Judge.{at_first}
use Rattle.controller.specs.Control.{line_in}
use Rattle.controller.specs.State.{Desk, is_idle, with_message}
use Rattle.rack.specs.Segment.{segment, Spoken, Given}
use Rattle.rack.specs.Hearing.{Stamps, desk_turn}
use Rattle.rack.specs.Bus.{Rack, rack, turn, is_none, second_given}
use Rattle.rack.specs.Terminals.{Each, Different}
use Rattle.rack.specs.Asked.{IsIdle}
use Rattle.rack.proofs.Desk.Starting.{open_desk}
use Rattle.rack.proofs.Desk.Giving.{data_given}
use Rattle.rack.proofs.Desk.Words.{back_at}
use Rattle.rack.proofs.Desk.Turns.{given_turn}
use Rattle.rack.proofs.Desk.Nearer.{turn_late, begins_late}
use Rattle.rack.proofs.Lists.Each.{each_so, each_after, different_after}
use Rattle.rack.proofs.Message.Alone.Columns.{one_command}
use Rattle.rack.proofs.Message.Transfer.Columns.{two_commands}
use Rattle.rack.proofs.Ending.Station.{turn_keeps_station}
use Rattle.rack.proofs.Ending.Proper.{replies_proper}
use Rattle.rack.proofs.Ending.Few.{one_replies, two_reply}
use Rattle.rack.proofs.Ending.First.{settled_alone, settled_both}
use Rattle.rack.proofs.Ending.Waits.{KeptBoth, kept_both}
use Rattle.rack.proofs.Ending.Comes.{Comes, behind_turn, then_waiting, is_end, comes_later}
use Rattle.rack.proofs.Ending.AllSettle.{ends_settled}
use Rattle.rack.proofs.Ending.SomeWait.{ends_waiting}

module _ (more : ℕ) (order : Order) (clock : ℕ → Stamps) (old : Rack)
    (different : Different old.terminals) (idle : Each IsIdle old.terminals) where
  abbrev line : Bool
  line = line_in old.desk.state.control

  abbrev stamps : Stamps
  stamps = clock (suc (suc more))

  abbrev words : List ℕ
  words = data_given order old.desk

  abbrev started : Rack
  started = rack (open_desk order old.desk) old.terminals

  abbrev EndsBy : Option ℕ → Type 0
  EndsBy second =
      Comes (suc (suc (suc more))) line clock (Given (segment order.first second words) ∷ [])
      started

  -- one command
  alone_ends : EndsBy None
  alone_ends =
      let known = each_so (settled_alone line stamps order.first words) idle in
      ends_settled more line clock (segment order.first None words) started
      (each_so (λ terminal is. is.settled) known)
      (omega (
        arith,
        one_replies line stamps (Given (segment order.first None words))
            (address_of order.first) different (each_so (λ terminal is. is.elsewhere) known),
      ))
      (begins_late order old.desk)

  -- two commands, the first illegal
  illegal_ends : (second : ℕ) → (asked_of order.first).illegal ≡ true → EndsBy (Some second)
  illegal_ends second illegal =
      let said : Spoken = Given (segment order.first (Some second) words) in
      let known =
      each_so (λ terminal is.
      settled_both line stamps order.first words terminal second illegal is) idle in
      ends_settled more line clock (segment order.first (Some second) words) started
      (each_so (λ terminal is. is.settled) known)
      (two_reply line stamps said (address_of order.first) (address_of second) different
      (each_so (λ terminal is. is.beside) known))
      (begins_late order old.desk)

  -- the first legal: a status is due from the controller's side too
  module _ (second : ℕ) (legal : (asked_of order.first).illegal ≡ false)
      (status : (format_for order).status ≡ true) where
    abbrev said : Spoken
    said = Given (segment order.first (Some second) words)

    abbrev behind : Rack
    behind = behind_turn (suc (suc more)) line clock (said ∷ []) started

    known : Each (KeptBoth line stamps order.first second words) old.terminals
    known =
        each_so (λ terminal is.
        kept_both line stamps order.first second words terminal legal is) idle

    not_yet : is_end (suc (suc more)) line clock (said ∷ []) started ≡ false
    unfolding turn with_message
    not_yet =
        let waits : desk_turn line stamps said (open_desk order old.desk)
        ≡ back_at (open_desk order old.desk) order at_first old.desk.ram =
        given_turn order old.desk stamps (segment order.first (Some second) words)
        ∙ rw status in
        not_first (is_idle (desk_turn line stamps said (open_desk order old.desk)).state.message)
        (is_none (then_waiting (suc (suc more)) line clock (said ∷ []) started))
        (ap (λ (any : Desk). is_idle any.state.message) waits)

    legal_ends : EndsBy (Some second)
    unfolding turn
    legal_ends =
        comes_later (suc (suc more)) line clock (said ∷ []) started not_yet
        (ends_waiting more line clock order.first
        (then_waiting (suc (suc more)) line clock (said ∷ []) started) behind
        (each_after line stamps said (each_so (λ terminal is. is.kept) known))
        (replies_proper line stamps said (each_so (λ terminal is. is.proper) known))
        (one_replies line stamps said (address_of second) different
        (each_so (λ terminal is. is.elsewhere) known))
        (different_after line stamps said
        (each_so (λ terminal is. turn_keeps_station line stamps said terminal) idle) different)
        (turn_late line 2 stamps said (open_desk order old.desk) (begins_late order old.desk)))

  two_end : order.row ≡ Between → EndsBy (Some order.second)
  two_end is = by_legal (asked_of order.first).illegal refl
    where
      by_legal : (illegal : Bool) → (asked_of order.first).illegal ≡ illegal
          → EndsBy (Some order.second)
      by_legal true illegal = illegal_ends order.second illegal
      by_legal false legal =
          legal_ends order.second legal
          (ap (λ (any : Format). any.status) (two_commands order is).format)

  pub order_ends : EndsBy (second_given order.row order.second)
  order_ends = by_row order.row refl
    where
      alone : order.row ≢ Between → EndsBy (second_given order.row order.second)
      alone other =
          subst EndsBy (sym ((one_command order other).no_second order.second)) alone_ends

      by_row : (row : Row) → order.row ≡ row → EndsBy (second_given order.row order.second)
      by_row ToTerminal is = alone (λ same. cc)
      by_row FromTerminal is = alone (λ same. cc)
      by_row Between is = subst EndsBy (sym (two_commands order is).second) (two_end is)
      by_row ModeAlone is = alone (λ same. cc)
      by_row ModeWithWord is = alone (λ same. cc)
      by_row ModeForWord is = alone (λ same. cc)
