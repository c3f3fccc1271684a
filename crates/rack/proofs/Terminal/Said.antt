-- What a terminal says at the sound end of a message: nothing to a broadcast; else its status, then
-- as many words of the block as the command asks. Assumes nothing.
use Rattle.std.proofs.Common.{None}
use mathlib.Core.Path.{◌≡◌, ap, sym}
use mathlib.Core.Bool.{true, false, cond}
use mathlib.Core.List.{List}
use Prim.Native.Nat.{ℕ, zero, suc}
use lib.Dec.{eqb, eqb-suc-zero}
use Rattle.bus.specs.Command.{is_broadcast}
use Rattle.card.specs.Memory.{card_blocks}
use Rattle.card.specs.Sent.{sent_part}
use Rattle.message.specs.declared.asked.Asked.{Asked}
use Rattle.message.specs.declared.state.OpenMessage.{OpenMessage}
use Rattle.terminal.specs.declared.state.Core.{Core}
use Rattle.terminal.specs.declared.state.Reply.TheVariants.{Status, Words}
use Rattle.terminal.specs.Closing.{replies, reply_of}
use Rattle.terminal.specs.Reply.{reply_words}
use Rattle.rack.specs.Segment.{segment, Spoken, Nothing, Said}
use Rattle.rack.specs.Hearing.{said_by}
use Rattle.rack.proofs.Terminal.Sent.{none_sent}

module _ (asked : Asked) (core : Core) (message : OpenMessage) (station : ℕ) (ram : List ℕ) where
  -- what is said, at the station and over the memory of the end
  abbrev said_then : Spoken
  said_then = said_by station (reply_words ram (reply_of asked core message))

  pub broadcast_is_silent : is_broadcast message.command ≡ true → said_then ≡ Nothing
  unfolding reply_of replies
  broadcast_is_silent to_all_lem = rw to_all_lem

  pub reply_is_said : is_broadcast message.command ≡ false
      → cond message.line core.shut.b core.shut.a ≡ false
      → message.busy ≡ false → asked.last ≡ false
      → said_then
      ≡ Said station
      (segment core.status None (sent_part card_blocks ram message.block asked.sends))
  unfolding reply_of replies
  reply_is_said to_one not_shut not_busy not_last =
      rw (to_one, not_shut, not_busy, not_last) (by_sends asked.sends)
    where
      by_sends : (sends : ℕ)
          → said_by station
          (reply_words ram (cond (eqb sends 0) (Status core.status)
          (Words core.status message.block sends)))
          ≡ Said station
          (segment core.status None (sent_part card_blocks ram message.block sends))
      by_sends zero =
          ap (λ (words : List ℕ). Said station (segment core.status None words))
          (sym (none_sent card_blocks ram message.block))
      by_sends (suc sends) = rw (eqb-suc-zero sends)
