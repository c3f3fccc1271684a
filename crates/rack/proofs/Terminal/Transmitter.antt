-- The transmitter of a transfer at the two commands: the second one opens its message, whether the
-- first, a broadcast, had opened one or not. Assumes nothing.
use mathlib.Core.Path.{◌≡◌, refl, ap, sym, ◌∙◌}
use mathlib.Core.Bool.{Bool, true, false}
use mathlib.Core.List.{[], ◌∷◌}
use Prim.Native.Nat.{ℕ}
use Rattle.bus.specs.declared.word.Word.{Word}
use Rattle.bus.specs.Command.{address_of, is_broadcast}
use Rattle.terminal.specs.State.{Card, with_status, with_last, with_message}
use Rattle.terminal.specs.Opening.{opened_message, opened_core, opening}
use Rattle.terminal.specs.Event.{word, Outcome}
use Rattle.terminal.specs.Machine.{step}
use Rattle.rack.specs.Segment.{command_word}
use Rattle.rack.specs.Hearing.{hears}
use Rattle.rack.specs.Asked.{IsIdle, FitTransfer, is_own}
use Rattle.rack.proofs.Terminal.Own.{strange_elsewhere, own_is_home}
use Rattle.rack.proofs.Terminal.Hear.{hears_then}
use Rattle.rack.proofs.Terminal.Quiet.{quiet_command}
use Rattle.rack.proofs.Terminal.Opened.{
  message_of,
  opened_card,
  own_opens,
  opened_over_another,
}
use Rattle.rack.proofs.Terminal.Columns.{transfer_columns}
use Rattle.rack.proofs.Terminal.Second.{broadcast_is_dropped, opened_at_second}

module _ (line : Bool) (time time' first second : ℕ) (fit : FitTransfer first second) (old : Card)
    (idle : IsIdle old) (own : is_own second old ≡ true) where
  -- the commands as they come, and the card where the first is open
  abbrev first_word : Word
  first_word = command_word line false first time

  abbrev second_word : Word
  second_word = command_word line true second time'

  abbrev first_open : Card
  first_open = opened_card line false first time old

  home : old.core.station ≡ address_of second
  home = own_is_home second old fit.to_one own

  -- where the first command is own too, it is a broadcast ..
  first_to_all : is_own first old ≡ true → is_broadcast first ≡ true
  first_to_all own_IsFirst = go (is_broadcast first) refl
    where
      go : (to_all_lem : Bool) → is_broadcast first ≡ to_all_lem → is_broadcast first ≡ true
      go true is = is
      go false is =
          let strange : is_own first old ≡ false =
          strange_elsewhere first old is (λ same. fit.other_station (sym home ∙ same)) in
          cc

  -- .. and dropped
  first_is_dropped : is_broadcast first ≡ true
      → (step (word second_word) first_open).card ≡ opening second_word first_open
  unfolding opening opened_core opened_message with_message with_last with_status
  first_is_dropped to_all_lem =
      broadcast_is_dropped (message_of line false first time old) first_open
      (opened_at_second line time first second old fit) second fit.asks to_all_lem (sym home) time'

  pub second_opens : hears (first_word ∷ second_word ∷ []) old
      ≡ opened_card line true second time' old
  unfolding hears
  second_opens = by_first (is_own first old) refl
    where
      by_first : (own_IsFirst : Bool) → is_own first old ≡ own_IsFirst
          → hears (first_word ∷ second_word ∷ []) old ≡ opened_card line true second time' old
      by_first false strange =
          hears_then first_word (second_word ∷ []) old
          (ap (λ (outcome : Outcome). outcome.card)
          (quiet_command old idle.rest.idle line false first time strange))
          (own_opens line true second time' old idle.rest.idle own)
      by_first true own_IsFirst =
          let columns = transfer_columns first second fit in
          hears_then first_word (second_word ∷ []) old
          (own_opens line false first time old idle.rest.idle own_IsFirst)
          (first_is_dropped (first_to_all own_IsFirst)
          ∙ opened_over_another first_word second_word old columns.second_fresh
          columns.second_fit.not_last)
