-- With all terminals idle the replies that wait are said one after the other, and no more come: the
-- message ends within as many turns as there are replies, and silences for the controller.
-- Assumes nothing.
use mathlib.Core.Path.{◌≡◌, refl, ap, sym, subst, ◌∙◌}
use mathlib.Core.Bool.{Bool, true}
use mathlib.Core.List.{List, [], ◌∷◌, ◌++◌, append-nil}
use Prim.Native.Nat.{ℕ, zero, suc, ◌≤◌}
use native.Mathlib.Omega.{arith}
use lib.ListN.{length}
use Rattle.terminal.specs.Event.{Outcome, quietly}
use Rattle.controller.specs.State.{is_idle}
use Rattle.rack.specs.Segment.{Spoken}
use Rattle.rack.specs.Hearing.{Stamps, turn_of, said_after}
use Rattle.rack.specs.Bus.{Rack, turn, next_of, behind_next, is_none}
use Rattle.rack.specs.Terminals.{Each}
use Rattle.rack.specs.Asked.{IsIdle}
use Rattle.rack.proofs.Terminal.Quiet.{quiet_says_nothing}
use Rattle.rack.proofs.Desk.Late.{Late, none_left}
use Rattle.rack.proofs.Desk.Nearer.{turn_late}
use Rattle.rack.proofs.Lists.Each.{each_so, all_quiet}
use Rattle.rack.proofs.Lists.Speaker.{none_replies}
use Rattle.rack.proofs.Ending.Proper.{
  AllProper,
  next_proper,
  later_proper,
  proper_is_unheard,
}
use Rattle.rack.proofs.Ending.Comes.{Comes, behind_turn, then_waiting, comes}

none_waits : (waiting : List Spoken) → length waiting ≤ 0 → is_none waiting ≡ true
none_waits [] few = refl
none_waits (next ∷ later) few = absurd (omega arith)

one_fewer : (waiting : List Spoken) (more : ℕ) → length waiting ≤ suc more
    → length (behind_next waiting) ≤ more
one_fewer [] more few = omega arith
one_fewer (next ∷ later) more few = omega arith

-- a turn of a reply
module _ (more : ℕ) (line : Bool) (clock : ℕ → Stamps) (waiting : List Spoken) (old : Rack)
    (idle : Each IsIdle old.terminals) (proper : AllProper waiting) where
  quiet : Each (λ terminal. turn_of line (clock more) (next_of waiting) terminal ≡ quietly terminal)
      old.terminals
  quiet =
      each_so (λ terminal is. proper_is_unheard line (clock more) terminal (next_proper proper) is)
      idle

  still_idle : Each IsIdle (behind_turn more line clock waiting old).terminals
  unfolding turn
  still_idle = subst (Each IsIdle) (sym (all_quiet line (clock more) (next_of waiting) quiet)) idle

  none_more : then_waiting more line clock waiting old ≡ behind_next waiting
  none_more =
      ap (λ (any : List Spoken). behind_next waiting ++ any)
      (none_replies line (clock more) (next_of waiting)
      (each_so (λ terminal is.
      ap (λ (any : Outcome). said_after any) is ∙ quiet_says_nothing terminal) quiet))
      ∙ append-nil (behind_next waiting)

  late_then : Late line (suc more) old.desk
      → Late line more (behind_turn more line clock waiting old).desk
  unfolding turn
  late_then late = turn_late line more (clock more) (next_of waiting) old.desk late

pub settled_comes : (more : ℕ) (line : Bool) (clock : ℕ → Stamps) (waiting : List Spoken)
    (old : Rack) → Each IsIdle old.terminals → AllProper waiting
    → Late line (suc more) old.desk → length waiting ≤ suc more
    → Comes (suc more) line clock waiting old
settled_comes zero line clock waiting old idle proper late few =
    let fewer : length (then_waiting zero line clock waiting old) ≤ 0 =
    rw (none_more zero line clock waiting old idle proper) (one_fewer waiting zero few) in
    comes zero line clock waiting old (still_idle zero line clock waiting old idle proper)
    (λ not_yet.
    let over : is_idle (behind_turn zero line clock waiting old).desk.state.message ≡ true =
    none_left line (behind_turn zero line clock waiting old).desk
    (late_then zero line clock waiting old idle proper late) in
    let none : is_none (then_waiting zero line clock waiting old) ≡ true =
    none_waits (then_waiting zero line clock waiting old) fewer in
    cc)
settled_comes (suc more) line clock waiting old idle proper late few =
    let same : then_waiting (suc more) line clock waiting old ≡ behind_next waiting =
    none_more (suc more) line clock waiting old idle proper in
    comes (suc more) line clock waiting old
    (still_idle (suc more) line clock waiting old idle proper)
    (λ not_yet.
    settled_comes more line clock (then_waiting (suc more) line clock waiting old)
    (behind_turn (suc more) line clock waiting old)
    (still_idle (suc more) line clock waiting old idle proper)
    (subst AllProper (sym same) (later_proper proper))
    (late_then (suc more) line clock waiting old idle proper late)
    (rw same (one_fewer waiting (suc more) few)))
