-- A call comes to an end with an answer: it stops, its lines are in the buffer, it needs no bytes
-- behind the last, and where it is full it has taken a field: what `pieces` says of every steady
-- course. And where no setup has been read, it leaves all as it was (`unread_untouched`). Assumes
-- nothing.
use mathlib.Core.Path.{◌≡◌, refl, sym, ap, ◌∙◌}
use mathlib.Core.Logic.{◌≢◌}
use mathlib.Core.Bool.{Bool, true, false, true≢false}
use mathlib.Core.List.{List}
use Prim.Native.Nat.{ℕ, ◌+◌, ◌≤◌, ◌<◌}
use lib.ListN.{length}
use Rattle.recording.proofs.TakenLaws.{setup_seen_after}
use Rattle.lines.specs.Written.{line_room}
use Rattle.pieces.specs.declared.stop.Stop.TheVariants.{Hungry, Full}
use Rattle.pieces.specs.Steady.{KeptBy}
use Rattle.pieces.specs.AsCoded.Window.{is_going, most_turns}
use Rattle.pieces.proofs.EndLaws as general
use Rattle.pieces.proofs.HungryLaws as hungry
use Rattle.pieces.proofs.KeptLaws.{call_kept}
use Rattle.tray.specs.Run.{Tray, taking, tray_course}
use Rattle.tray.specs.AsCoded.Window.{window_run}
use Rattle.tray_laws.proofs.MetLaws.{taken_so}
use Rattle.tray_laws.proofs.SteadyLaws.{tray_is_steady}

module _ (window : List ℕ) (last : Bool) where
  -- the lines are in the buffer
  pub call_inside : (old : Tray) (out : List ℕ)
      → (window_run old window last out).put ≤ length (window_run old window last out).out
  call_inside = general.call_inside tray_course tray_is_steady window last

  -- the fields that were taken are in the window
  pub call_within : (old : Tray) (out : List ℕ)
      → (window_run old window last out).at ≤ length window
  call_within = general.call_within tray_course tray_is_steady window last

  -- the last bytes leave no call waiting
  pub last_call_waits_not : last ≡ true → (old : Tray) (out : List ℕ)
      → (window_run old window last out).stop ≢ Hungry
  last_call_waits_not = general.last_call_waits_not tray_course tray_is_steady window last

  -- a call stops
  pub call_stops : (old : Tray) (out : List ℕ) → length window < most_turns
      → is_going (window_run old window last out).stop ≡ false
  call_stops = general.call_stops tray_course tray_is_steady window last

  -- where it is full, it has taken a field
  pub full_after_a_field : (old : Tray) (out : List ℕ) → line_room ≤ length out
      → (window_run old window last out).stop ≡ Full → 0 < (window_run old window last out).at
  full_after_a_field = general.full_after_a_field tray_course tray_is_steady window last

  -- where it needs bytes, fewer are left than the longest field has
  pub hungry_few : (old : Tray) (out : List ℕ) → (window_run old window last out).stop ≡ Hungry
      → length window < (window_run old window last out).at + 133
  hungry_few = hungry.hungry_few tray_course tray_is_steady window last

-- ---- where no setup has been read

abbrev pub Untouched : Tray → Tray → Type 0
Untouched start new = new.seen.setup ≡ false → new ≡ start

-- a field that is taken has a setup before it, or is one
pub untouched_kept : (start : Tray) → KeptBy tray_course (Untouched start)
unfolding taking
untouched_kept start old bytes at next line new is so_far none =
    let read = taken_so old bytes at is in
    absurd (true≢false
    (sym (setup_seen_after bytes at old.seen read.is_read)
    ∙ ap (λ (tray : Tray). tray.seen.setup) read.is_new
    ∙ none))

-- no field was taken: all is as it was
pub unread_untouched : (window : List ℕ) (last : Bool) (old : Tray) (out : List ℕ)
    → (window_run old window last out).run.seen.setup ≡ false
    → (window_run old window last out).run ≡ old
unread_untouched window last old out =
    call_kept tray_course (Untouched old) (untouched_kept old) window last old out (λ _. refl)
