-- What keeps every caller right. A call over a window leaves a sound tray sound, `call_is_sound`,
-- and so wherever a program has come that reads a recording in pieces, its tray is sound if it
-- began so: `streamed_is_sound`, and at the end `finished_is_sound`. Assumes nothing.
use mathlib.Core.Path.{subst}
use mathlib.Core.Bool.{Bool}
use mathlib.Core.List.{List}
use Prim.Native.Nat.{ℕ, ◌-◌}
use Rattle.pieces.specs.Steady.{KeptBy}
use Rattle.pieces.proofs.KeptLaws.{call_kept, streamed_kept, finished_kept}
use Rattle.tray.specs.Run.{Tray, tray_course}
use Rattle.tray.specs.AsCoded.Window.{window_run}
use Rattle.tray_laws.specs.AsCoded.Pieces.{Streamed, Finished}
use Rattle.tray_laws.specs.Sound.{SoundTray}
use Rattle.tray_laws.proofs.MetLaws.{taken_so}
use Rattle.tray_laws.proofs.SoundLaws.{taking_is_sound}

-- every field leaves it so
sound_kept : KeptBy tray_course SoundTray
sound_kept old bytes at next line new is sound =
    let read = taken_so old bytes at is in
    subst SoundTray read.is_new
    (taking_is_sound bytes at old read.is_read sound (next - at))

pub call_is_sound : (window : List ℕ) (last : Bool) (old : Tray) (out : List ℕ) → SoundTray old
    → SoundTray (window_run old window last out).run
call_is_sound = call_kept tray_course SoundTray sound_kept

pub streamed_is_sound : {start : Tray} {ended : Bool} {input text : List ℕ} {new : Tray}
    {window : List ℕ} → SoundTray start → Streamed start ended input text new window
    → SoundTray new
streamed_is_sound = streamed_kept tray_course SoundTray sound_kept

-- .. and where a call ends the run
pub finished_is_sound : {start : Tray} {input text : List ℕ} {new : Tray} → SoundTray start
    → Finished start input text new → SoundTray new
finished_is_sound = finished_kept tray_course SoundTray sound_kept
