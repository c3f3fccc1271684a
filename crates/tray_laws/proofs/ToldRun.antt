-- A run of bytes that tell something goes to END: `telling_run`. Assumes nothing.
use mathlib.Core.Path.{◌≡◌, refl, sym, ap, ◌∙◌}
use mathlib.Core.Bool.{Bool}
use mathlib.Core.List.{List, [], ◌∷◌, ◌++◌, cons≢nil}
use Prim.Native.Nat.{ℕ, suc, ◌+◌}
use lib.ListN.{length}
use Rattle.recording.specs.Seen.{setup_seen}
use Rattle.recording.specs.Value.{Valued}
use Rattle.recording.specs.Accepted.{seen_after_all, Accepted}
use Rattle.recording.proofs.AcceptedLaws.{taken_after_setup}
use Rattle.lines.specs.Lines.{end_line}
use Rattle.tray.specs.Happening.{Happening, happenings}
use Rattle.pieces.specs.LastLine.{counted}
use Rattle.pieces.specs.Whole.{whole}
use Rattle.tray.specs.Run.{Tray, whole_from}
use Rattle.tray_laws.specs.Answered.{told_lines, told_card, tray_after}
use Rattle.tray_laws.specs.Told.{Tells}
use Rattle.tray_laws.proofs.OnwardLaws.{accepted_run}

length_of_happenings : (fields : List Valued) → length (happenings fields) ≡ length fields
unfolding happenings
length_of_happenings [] = refl
length_of_happenings (field ∷ rest) = ap suc (length_of_happenings rest)

module _ (start : Tray) (size : ℕ) (first : Happening) (rest : List Happening) where
  -- how far the run has come then
  abbrev farther : Tray
  farther =
      record {
        seen = setup_seen;
        card = told_card (first ∷ rest) start.card;
        fields = counted (start.fields + length (first ∷ rest));
        offset = counted (start.offset + size);
      }

  tray_told : {bytes : List ℕ} (fields : List Valued) → Accepted start.seen bytes fields
      → happenings fields ≡ first ∷ rest → tray_after start size fields ≡ farther
  unfolding tray_after happenings
  tray_told [] accepted is = absurd (cons≢nil (sym is))
  tray_told (field ∷ others) accepted is =
      let many : length (field ∷ others) ≡ length (first ∷ rest) =
      sym (length_of_happenings (field ∷ others)) ∙ ap length is in
      let after_setup : seen_after_all (field ∷ others) start.seen ≡ setup_seen =
      ap (λ (setup : Bool). record { setup = setup }) (taken_after_setup accepted) in
      rw (after_setup, is, many) refl

pub telling_run : {bytes : List ℕ} {first : Happening} {rest : List Happening} (start : Tray)
    → Tells start.seen bytes (first ∷ rest)
    → whole_from start bytes
    ≡ whole
    (told_lines (first ∷ rest) start.card
    ++ end_line (farther start (length bytes) first rest).fields)
    (farther start (length bytes) first rest)
telling_run {bytes} {first} {rest} start tells =
    accepted_run start tells.accepted
    ∙ rw (
      tray_told start (length bytes) first rest tells.fields tells.accepted tells.are,
      tells.are,
    ) refl
