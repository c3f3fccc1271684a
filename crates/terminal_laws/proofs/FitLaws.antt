-- A fit state stays fit: what refusal 4 asks holds after every event, `fit_stays_fit`, and so after
-- every run, `fit_run`. Of the events, the host's table block and
-- flags alone have to be in order. Assumes nothing.
use mathlib.Core.List.{List, [], ◌∷◌}
use Prim.Native.Nat.{◌≤◌, ◌<◌}
use Rattle.bus.specs.Limits.{all_flags}
use Rattle.card.specs.Memory.{card_blocks}
use Rattle.queue.proofs.FitLaws.{read_keeps_fit}
use Rattle.terminal.specs.State.{Card, with_table, with_flags, with_message}
use Rattle.terminal.specs.Event.{
  Event,
  word,
  silence,
  read_queue,
  host_write,
  move_table,
  set_flags,
}
use Rattle.terminal.specs.WordStep.{word_step}
use Rattle.terminal.specs.SilenceStep.{silence_step}
use Rattle.terminal.specs.Machine.{
  read_queue_step,
  host_write_step,
  move_table_step,
  set_flags_step,
  step,
  run,
}
use Rattle.terminal_laws.proofs.FitParts.{fit_core_parts, fit_core_whole, FitCard}
use Rattle.terminal_laws.proofs.FitMessage.{moved_fits}
use Rattle.terminal_laws.proofs.FitWord.{fit_word}
use Rattle.terminal_laws.proofs.FitSilence.{fit_silence}

-- ---- every event

-- the host's table block and flags are in order; all else is unrestricted
unfoldable pub FitEvent : Event → Type 0
FitEvent (word heard) = Unit {0}
FitEvent (silence line time) = Unit {0}
FitEvent read_queue = Unit {0}
FitEvent (host_write address words) = Unit {0}
FitEvent (move_table table) = table.0 < card_blocks
FitEvent (set_flags flags) = flags ≤ all_flags

-- no event takes a fit state to an unfit one
pub fit_stays_fit : (event : Event) (old : Card)
    → FitEvent event → FitCard old → FitCard (step event old).card
unfolding FitEvent step word_step silence_step read_queue_step host_write_step move_table_step
    set_flags_step with_table with_flags with_message
fit_stays_fit (word heard) old in_order fit =
    fit_word old.core.message heard old (fit_core_parts old.core fit.core).message fit
fit_stays_fit (silence line time) old in_order fit =
    fit_silence old.core.message line time old
    (fit_core_parts old.core fit.core).message fit
fit_stays_fit read_queue old in_order fit =
    record { core = fit.core; queue = read_keeps_fit card_blocks old.queue fit.queue }
fit_stays_fit (host_write address words) old in_order fit =
    record { core = fit.core; queue = fit.queue }
fit_stays_fit (move_table table) old in_order fit =
    let parts = fit_core_parts old.core fit.core in
    record {
      core = fit_core_whole (record {
        station = parts.station;
        table = in_order;
        flags = parts.flags;
        message = moved_fits old.core.station old.core.message parts.message;
      });
      queue = fit.queue;
    }
fit_stays_fit (set_flags flags) old in_order fit =
    let parts = fit_core_parts old.core fit.core in
    record {
      core = fit_core_whole (record {
        station = parts.station;
        table = parts.table;
        flags = in_order;
        message = parts.message;
      });
      queue = fit.queue;
    }

-- ---- a run

-- every event of the run is in order
unfoldable pub AllFit : List Event → Type 0
AllFit [] = Unit {0}
AllFit (event ∷ events) = FitEvent event × AllFit events

-- no run of events takes a fit state to an unfit one
pub fit_run : (events : List Event) (old : Card)
    → AllFit events → FitCard old → FitCard (run events old)
unfolding AllFit run
fit_run [] old in_order fit = fit
fit_run (event ∷ events) old in_order fit =
    fit_run events (step event old).card in_order.1
    (fit_stays_fit event old in_order.0 fit)
