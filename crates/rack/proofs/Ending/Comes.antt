-- Turns that come to an end: by this turn, or by those behind it. Assumes nothing.
use mathlib.Core.Path.{◌≡◌, refl}
use mathlib.Core.Bool.{Bool, true, false, ◌&&◌}
use mathlib.Core.List.{List, ◌++◌}
use Prim.Native.Nat.{ℕ, suc}
use Rattle.std.proofs.Common.{Option, Some, None}
use Rattle.rules.proofs.Halves.{first_of_both}
use Rattle.controller.specs.declared.state.OpenMessage.{OpenMessage}
use Rattle.controller.specs.State.{is_idle}
use Rattle.rack.specs.Segment.{Spoken}
use Rattle.rack.specs.Hearing.{Stamps}
use Rattle.rack.specs.Bus.{
  Rack,
  turn,
  replies_to,
  next_of,
  behind_next,
  is_none,
  carry,
}
use Rattle.rack.specs.Terminals.{Each}
use Rattle.rack.specs.Asked.{IsIdle}
use Rattle.rack.specs.Ending.{ends_within, AllIdle}

-- within so many turns it ends, and all are idle then
pub record Comes (turns : ℕ) (line : Bool) (clock : ℕ → Stamps) (waiting : List Spoken) (old : Rack)
    : Type 0 where
  pub ends : ends_within turns line clock waiting old ≡ true
  pub idle : AllIdle (carry turns line clock waiting old)

idle_so : (message : Option OpenMessage) → is_idle message ≡ true → message ≡ None
idle_so None is = refl
idle_so (Some message) is = cc

module _ (more : ℕ) (line : Bool) (clock : ℕ → Stamps) (waiting : List Spoken) (old : Rack) where
  abbrev pub behind_turn : Rack
  behind_turn = turn line (clock more) (next_of waiting) old

  abbrev pub then_waiting : List Spoken
  then_waiting =
      behind_next waiting ++ replies_to line (clock more) (next_of waiting) old.terminals

  abbrev pub is_end : Bool
  is_end = is_idle behind_turn.desk.state.message && is_none then_waiting

  -- this turn does not end it
  pub comes_later : is_end ≡ false → Comes more line clock then_waiting behind_turn
      → Comes (suc more) line clock waiting old
  unfolding ends_within carry
  comes_later not_yet later =
      record { ends = rw not_yet later.ends; idle = rw not_yet later.idle }

  -- it does
  comes_now : Each IsIdle behind_turn.terminals → is_end ≡ true
      → Comes (suc more) line clock waiting old
  unfolding ends_within carry
  comes_now idle is =
      let all_idle : AllIdle behind_turn =
      record {
        desk =
            idle_so behind_turn.desk.state.message
            (first_of_both _ (is_none then_waiting) is);
        terminals = idle;
      } in
      record { ends = rw is; idle = rw is all_idle }

  -- whether it does or not
  pub comes : Each IsIdle behind_turn.terminals
      → (is_end ≡ false → Comes more line clock then_waiting behind_turn)
      → Comes (suc more) line clock waiting old
  comes idle later = by_end is_end refl
    where
      by_end : (end : Bool) → is_end ≡ end → Comes (suc more) line clock waiting old
      by_end true is = comes_now idle is
      by_end false is = comes_later is (later is)
