-- How far the contract of `run_input` reaches: neither the input nor what was answered to a read is
-- named in it, so it holds of a run that took its input to be empty, and of one whose first read
-- failed, whatever was there. Assumes nothing.
use mathlib.Core.Bool.{true, false}
use Rattle.tray.specs.Run.{Tray, tray_course}
use Rattle.tray_laws.proofs.SteadyLaws.{tray_is_steady}
use Rattle.stream.specs.Came.{Came}
use Rattle.stream.proofs.ReachLaws as general

pub empty_input_is_whole : (start : Tray) → Came tray_course start start true
empty_input_is_whole = general.empty_input_is_whole tray_course tray_is_steady

pub failed_at_once_is_not_whole : (start : Tray) → Came tray_course start start false
failed_at_once_is_not_whole = general.failed_at_once_is_not_whole tray_course tray_is_steady
