-- What the transmitter's reply makes of a terminal that has heard the commands of a transfer: the
-- receiver takes the words, any other hears them without effect. Assumes nothing.
use Rattle.std.proofs.Common.{None}
use mathlib.Core.Path.{◌≡◌, refl, ap, sym, subst, ◌∙◌}
use mathlib.Core.Bool.{Bool, true, false}
use mathlib.Core.List.{List, []}
use Prim.Native.Nat.{ℕ, ◌≤◌}
use lib.ListN.{length}
use Rattle.bus.specs.Limits.{last_station}
use Rattle.bus.specs.Command.{address_of, is_broadcast}
use Rattle.message.specs.Asked.{asked_of}
use Rattle.terminal.specs.State.{Card}
use Rattle.terminal.specs.Event.{Outcome, quietly}
use Rattle.rack.specs.Segment.{segment, Spoken, Nothing, Said}
use Rattle.rack.specs.Hearing.{Stamps, turn_of, said_after}
use Rattle.rack.specs.Asked.{IsIdle, is_own}
use Rattle.rack.proofs.Terminal.Took.{Took}
use Rattle.rack.proofs.Terminal.Quiet.{quiet_says_nothing, quiet_at_reply}
use Rattle.rack.proofs.Terminal.BothEnds.{commands_of}
use Rattle.rack.proofs.Message.Transfer.Begun.{Begun, sends, waits, stays}

-- the transmitter's reply
abbrev pub reply_to : ℕ → ℕ → List ℕ → Spoken
reply_to second status reply = Said (address_of second) (segment status None reply)

module _ (line : Bool) (stamps later : Stamps) (first second status : ℕ) (reply : List ℕ) where
  abbrev after : Card → Outcome
  after old = turn_of line stamps (commands_of first second) old

  abbrev pub after_both : Card → Outcome
  after_both old = turn_of line later (reply_to second status reply) (after old).card

  pub data Done (old : Card) : Type 0 where
    sent : is_own second old ≡ true → Took second [] old (after old)
        → after_both old ≡ quietly (after old).card → Done old
    received : is_own second old ≡ false → is_own first old ≡ true
        → Took first reply old (after_both old) → Done old
    stayed : is_own second old ≡ false → is_own first old ≡ false
        → after_both old ≡ quietly old → Done old

  pub done : address_of status ≡ address_of second → address_of second ≤ last_station
      → length reply ≡ (asked_of first).takes → (old : Card) → IsIdle old
      → Begun line stamps first second old → Done old
  done home low full old idle (sends own took) =
      sent own took
      (quiet_at_reply line later (after old).card took.idle.rest.idle (address_of second)
      status reply home low)
  done home low full old idle (waits strange own waiting) =
      received strange own
      (waiting.takes later (address_of second) status reply refl home full)
  done home low full old idle (stays strange strange_first quiet) =
      stayed strange strange_first
      (ap (λ (any : Outcome). turn_of line later (reply_to second status reply) any.card) quiet
      ∙ quiet_at_reply line later old idle.rest.idle (address_of second) status reply home low)

  -- idle again
  pub done_idle : (old : Card) → IsIdle old → Done old → IsIdle (after_both old).card
  done_idle old idle (sent own took quiet) =
      subst (λ (any : Outcome). IsIdle any.card) (sym quiet) took.idle
  done_idle old idle (received strange own took) = took.idle
  done_idle old idle (stayed strange strange_first quiet) =
      subst (λ (any : Outcome). IsIdle any.card) (sym quiet) idle

  -- to all: nothing more comes back
  pub done_silent : is_broadcast first ≡ true → (old : Card) → Done old
      → said_after (after_both old) ≡ Nothing
  done_silent to_all_lem old (sent own took quiet) =
      ap (λ (any : Outcome). said_after any) quiet ∙ quiet_says_nothing (after old).card
  done_silent to_all_lem old (received strange own took) = took.silent to_all_lem
  done_silent to_all_lem old (stayed strange strange_first quiet) =
      ap (λ (any : Outcome). said_after any) quiet ∙ quiet_says_nothing old
