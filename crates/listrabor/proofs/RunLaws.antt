-- One call of the run does a whole recording, where the sizes can be used. Assumes nothing.
use mathlib.Core.Path.{◌≡◌, refl, sym, ap, ◌∙◌}
use mathlib.Core.Bool.{Bool, true, false, cond}
use mathlib.Core.List.{List}
use Prim.Native.Nat.{ℕ, ◌^◌, ◌≤◌, ◌<◌}
use native.Mathlib.Omega.{arith}
use lib.Dec.{eqb, ltb}
use lib.ListN.{length}
use borrow.Author.Tests.{ltb-false}
use Rattle.card.specs.Memory.{card_words}
use Rattle.pieces.specs.AsCoded.Window.{most_turns}
use Rattle.tray.specs.declared.run.Tray.{Tray as HeldTray}
use Rattle.pieces.specs.declared.window.Passed.{Passed as HeldPassed}
use Rattle.pieces.specs.AsCoded.Runner.{passed_of}
use Rattle.tray.specs.Run.{Tray, tray_over}
use Rattle.tray.specs.AsCoded.Window.{Passed, window_run, whole_room}
use Rattle.tray.specs.AsCoded.Held.{tray_of, held_at_start}
use Rattle.std.specs.Prelude.{Option}
use Rattle.std.specs.Option.{is_some}
use Rattle.refusals.specs.declared.Refusal.{Refusal}
use Rattle.refusals.specs.Number.{refusal_in}
use Rattle.refusals.proofs.NumberLaws.{some_refused, none_refused}
use Rattle.tray_laws.proofs.RoomLaws.{whole_tray, whole_count, whole_bytes}
use Rattle.listrabor.specs.Lent.{size_refusal, lent, lent_run}
use Rattle.listrabor.proofs.TextLaws.{used, refused_answers_0}

module _ (recording ram out : List ℕ) (refusal : Option Refusal)
    (is_number : refusal_in refusal
    ≡ size_refusal (length recording) (length ram) (length out)) where
  -- ---- sizes that are refused

  pub all_as_it_was : (told : Bool) → told ≡ is_some refusal → told ≡ true
      → lent 0 ram out ≡ lent_run recording ram out
  all_as_it_was told is some =
      sym (refused_answers_0 recording ram out (λ none.
      some_refused refusal (sym is ∙ some) (is_number ∙ none)))

  -- ---- sizes that can be used

  module _ (told : Bool) (is_told : told ≡ is_some refusal) (none_told : told ≡ false) where
    none : refusal_in refusal ≡ 0
    none = none_refused refusal (sym is_told ∙ none_told)

    enough : whole_room (length recording) ≤ length out
    unfolding size_refusal
    enough =
        go (eqb (length ram) card_words) (ltb (length out) (whole_room (length recording))) refl
        (sym is_number ∙ none)
      where
        go : (card short : Bool) → ltb (length out) (whole_room (length recording)) ≡ short
            → ◌≡◌ {A = ℕ} (cond card (cond short 10 0) 1) 0
            → whole_room (length recording) ≤ length out
        go true true is taken = absurd (omega (arith, taken))
        go true false is taken = ltb-false (length out) (whole_room (length recording)) is
        go false short is taken = absurd (omega (arith, taken))

    pub recording_done : (run new : HeldTray) (left : HeldPassed) (ram' out' : List ℕ)
        → length out < 2 ^ 64 → run ≡ held_at_start
        → passed_of (tray_of new ram') left out' ≡ window_run (tray_of run ram) recording true out
        → lent left.put ram' out' ≡ lent_run recording ram out
    unfolding tray_over held_at_start
    recording_done run new left ram' out' long at_start is =
        let old : Tray = tray_over ram in
        let few : length recording < most_turns = omega (arith, long, enough) in
        let done : passed_of (tray_of new ram') left out' ≡ window_run old recording true out =
        is
        ∙ ap (λ (first : HeldTray). window_run (tray_of first ram) recording true out) at_start in
        ap (λ (call : Passed). lent call.put call.run.card.ram call.out) done
        ∙ rw (
          whole_count recording out enough old few,
          whole_tray recording out enough old few,
          whole_bytes recording out enough old few,
        )
        (sym (used recording ram out (sym is_number ∙ none)))

pub ruleset runs = (all_as_it_was, recording_done)
