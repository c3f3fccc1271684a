-- The remembered status has the terminal's own address at setup, `own_at_setup`, after every event,
-- `own_status_stays`, and so after every run, `own_status_run`. Assumes nothing.
use Rattle.std.proofs.Common.{None, Option, Some}
use mathlib.Core.Path.{◌≡◌, refl, ◌∙◌}
use mathlib.Core.Bool.{Bool, true, false, cond}
use mathlib.Core.List.{List, [], ◌∷◌}
use Prim.Native.Nat.{ℕ, ◌<◌}
use native.Mathlib.Omega.{arith}
use Rattle.bus.specs.declared.status.Status.{Status}
use Rattle.bus.specs.declared.word.Word.{Word}
use Rattle.bus.specs.Command.{address_of}
use Rattle.bus.specs.Status.{status_word, caught_status}
use Rattle.bus.proofs.StatusLaws.{status_address, address_with_error}
use Rattle.card.specs.declared.place.Block.{Block}
use Rattle.message.specs.declared.asked.Asked.{Asked}
use Rattle.message.specs.declared.judge.WordAct.{WordAct}
use Rattle.message.specs.declared.judge.WordAct.TheVariants.{
  Ignore,
  Store,
  Check,
  TakeSecond,
  TakeStatus,
  Fault,
  Supersede,
  Drop,
}
use Rattle.message.specs.declared.judge.SilenceAct.{SilenceAct}
use Rattle.message.specs.declared.judge.SilenceAct.TheVariants as silences
use Rattle.message.specs.declared.state.OpenMessage.{OpenMessage}
use Rattle.message.specs.Asked.{asked_of, asks}
use Rattle.message.specs.Words.{own_command, on_word}
use Rattle.message.specs.Silence.{on_silence}
use Rattle.terminal.specs.State.{
  Card,
  with_table,
  with_flags,
  with_status,
  with_last,
  with_switches,
  with_message,
  core_at_setup,
}
use Rattle.terminal.specs.Opening.{opened_status, opened_core, opening}
use Rattle.terminal.specs.Closing.{closing, faulted, ended}
use Rattle.terminal.specs.Event.{
  Event,
  word,
  silence,
  read_queue,
  host_write,
  move_table,
  set_flags,
  opens,
  quietly,
}
use Rattle.terminal.specs.WordStep.{word_done, word_met, word_step}
use Rattle.terminal.specs.SilenceStep.{silence_done, silence_met, silence_step}
use Rattle.terminal.specs.Machine.{
  read_queue_step,
  host_write_step,
  move_table_step,
  set_flags_step,
  step,
  run,
}
use Rattle.terminal_laws.specs.OwnStatus.{OwnStatus}

-- the station is that of before, and the remembered status has its address
record Stays (station : ℕ) (new : Card) : Type 0 where
  same : new.core.station ≡ station
  own : OwnStatus new.core

-- ---- setup

pub own_at_setup : (station : ℕ) (table : Block) (flags : ℕ)
    → station < 32 → OwnStatus (core_at_setup station table flags)
unfolding core_at_setup
own_at_setup station table flags five_bits = omega arith

-- ---- what a message does

-- a status that is made anew has the station, and one that is kept had it
anew_or_kept : (fresh : Bool) (made : Status) (kept : ℕ) → made.station < 32
    → address_of kept ≡ made.station
    → address_of (cond fresh (status_word made) kept) ≡ made.station
anew_or_kept true made kept five_bits own = status_address made five_bits
anew_or_kept false made kept five_bits own = own

module _ (station : ℕ) (five_bits : station < 32) where
  opened_stays : (heard : Word) (old : Card) → Stays station old → Stays station (opening heard old)
  unfolding opening opened_core opened_status caught_status with_message with_last with_status
  opened_stays heard old stays =
      record {
        same = stays.same;
        own =
            anew_or_kept (asked_of heard.value).fresh _ old.core.status
            (omega (arith, stays.same, five_bits)) stays.own;
      }

  faulted_stays : (asked : Asked) (code time : ℕ) (message : OpenMessage) (old : Card)
      → Stays station old → Stays station (faulted asked code time message old)
  unfolding faulted closing with_message with_status
  faulted_stays asked code time message old stays =
      record {
        same = stays.same;
        own = address_with_error old.core.status ∙ stays.own;
      }

  ended_stays : (asked : Asked) (time : ℕ) (message : OpenMessage) (old : Card)
      → Stays station old → Stays station (ended asked time message old)
  unfolding ended closing with_message with_switches
  ended_stays asked time message old stays = record { same = stays.same; own = stays.own }

  -- ---- words and silences

  word_done_stays : (act : WordAct) (asked : Asked) (message : OpenMessage) (heard : Word)
      (old : Card)
      → Stays station old → Stays station (word_done act asked message heard old).card
  unfolding word_done with_message
  word_done_stays Ignore asked message heard old stays = stays
  word_done_stays (Store taken) asked message heard old stays =
      record { same = stays.same; own = stays.own }
  word_done_stays (Check taken) asked message heard old stays =
      record { same = stays.same; own = stays.own }
  word_done_stays (TakeSecond value) asked message heard old stays =
      record { same = stays.same; own = stays.own }
  word_done_stays TakeStatus asked message heard old stays =
      record { same = stays.same; own = stays.own }
  word_done_stays (Fault code) asked message heard old stays =
      faulted_stays asked code heard.time message old stays
  word_done_stays Supersede asked message heard old stays =
      opened_stays heard (faulted asked 7 heard.time message old)
      (faulted_stays asked 7 heard.time message old stays)
  word_done_stays Drop asked message heard old stays = opened_stays heard old stays

  word_met_stays : (message : Option OpenMessage) (heard : Word) (old : Card)
      → Stays station old → Stays station (word_met message heard old).card
  word_met_stays None heard old stays =
      go (own_command old.core.station old.core.flags heard)
    where
      go : (own : Bool) → Stays station (cond own (opens heard old) (quietly old)).card
      go true = opened_stays heard old stays
      go false = stays
  word_met_stays (Some message) heard old stays =
      word_done_stays
      (on_word old.core.station old.core.flags (asks message) message heard)
      (asks message) message heard old stays

  silence_done_stays : (act : SilenceAct) (asked : Asked) (message : OpenMessage) (time : ℕ)
      (old : Card)
      → Stays station old → Stays station (silence_done act asked message time old).card
  unfolding silence_done with_message
  silence_done_stays silences.Ignore asked message time old stays = stays
  silence_done_stays silences.AwaitStatus asked message time old stays =
      record { same = stays.same; own = stays.own }
  silence_done_stays (silences.Fault code) asked message time old stays =
      faulted_stays asked code time message old stays
  silence_done_stays silences.End asked message time old stays =
      ended_stays asked time message old stays

  silence_met_stays : (message : Option OpenMessage) (line : Bool) (time : ℕ) (old : Card)
      → Stays station old → Stays station (silence_met message line time old).card
  silence_met_stays None line time old stays = stays
  silence_met_stays (Some message) line time old stays =
      silence_done_stays (on_silence (asks message) message line) (asks message) message time old
      stays

  -- ---- every event

  step_stays : (event : Event) (old : Card)
      → Stays station old → Stays station (step event old).card
  unfolding step word_step silence_step read_queue_step host_write_step move_table_step
      set_flags_step with_table with_flags with_message
  step_stays (word heard) old stays = word_met_stays old.core.message heard old stays
  step_stays (silence line time) old stays =
      silence_met_stays old.core.message line time old stays
  step_stays read_queue old stays = record { same = stays.same; own = stays.own }
  step_stays (host_write address words) old stays = record { same = stays.same; own = stays.own }
  step_stays (move_table table) old stays = record { same = stays.same; own = stays.own }
  step_stays (set_flags flags) old stays = record { same = stays.same; own = stays.own }

  run_stays : (events : List Event) (old : Card)
      → Stays station old → Stays station (run events old)
  unfolding run
  run_stays [] old stays = stays
  run_stays (event ∷ events) old stays =
      run_stays events (step event old).card (step_stays event old stays)

-- ---- the claims

module _ (old : Card) (five_bits : old.core.station < 32) (own : OwnStatus old.core) where
  pub own_status_stays : (event : Event) → OwnStatus (step event old).card.core
  own_status_stays event =
      (step_stays old.core.station five_bits event old (record { same = refl; own = own })).own

  pub own_status_run : (events : List Event) → OwnStatus (run events old).core
  own_status_run events =
      (run_stays old.core.station five_bits events old (record { same = refl; own = own })).own
