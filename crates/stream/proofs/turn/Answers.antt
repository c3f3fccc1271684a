-- `stream::turn` meets its contract: a law for each way that it goes. Assumes nothing.
use borrow.Author.Tests.{leb-false}
use Rattle.std.proofs.Common.{refl, sym, inl, inr, ◌∙◌}
use Rattle.pieces.proofs.StopLaws.{going_over, going_hungry, full_over, full_hungry}
use Rattle.stream.specs.AsCoded.Turns.{breaks_off, unread, ends, stays, reads}
use Rattle.stream.proofs.TurnLaws.{turned, broken, past_put, some_put}
use Rattle.stream.proofs.turn.Goals as goal

pub returns-then-out-passed : goal.returns-then-out-passed
returns-then-out-passed g c =
    broken _ _ _ _ _ _ _ _ _ c.bytes.ensures.few c.bytes.ensures.same c.has_ended.ensures
    c.run_window-passed.ensures _ _ _ _ _ _ refl
    (breaks_off (past_put _ _ c.if-out-passed.true) c.take_to.ensures refl refl)

pub returns-in_err-write_lines : goal.returns-in_err-write_lines
returns-in_err-write_lines g c =
    broken _ _ _ _ _ _ _ _ _ c.bytes.ensures.few c.bytes.ensures.same c.has_ended.ensures
    c.run_window-passed.ensures _ _ _ _ _ _ c.from_residual.ensures.0
    (breaks_off (some_put _ _ (c.in_err-write_lines.ensures.some refl)) c.take_to.ensures refl
    c.from_residual.ensures.0)

pub returns-then-is_full : goal.returns-then-is_full
returns-then-is_full g c =
    broken _ _ _ _ _ _ _ _ _ c.bytes.ensures.few c.bytes.ensures.same c.has_ended.ensures
    c.run_window-passed.ensures _ _ _ _ _ _ refl (unread c.in-Hungry.is c.take_to.ensures refl)

pub returns-in_err-read-in-Hungry : goal.returns-in_err-read-in-Hungry
returns-in_err-read-in-Hungry g c =
    broken _ _ _ _ _ _ _ _ _ c.bytes.ensures.few c.bytes.ensures.same c.has_ended.ensures
    c.run_window-passed.ensures _ _ _ _ _ _
    c.from_residual-in_err-read-in-Hungry.ensures.0
    (unread c.in-Hungry.is (c.in_err-read-in-Hungry.ensures.kept ∙ c.take_to.ensures)
    c.from_residual-in_err-read-in-Hungry.ensures.0)

pub returns-in-Over : goal.returns-in-Over
returns-in-Over g c =
    turned _ _ _ _ _ _ _ _ _ c.bytes.ensures.few c.bytes.ensures.same c.has_ended.ensures
    c.run_window-passed.ensures _ _ _ _ _ _ c.in_ok-write_lines.ensures.written
    (ends c.in-Over.is c.take_to.ensures refl refl)

pub returns-in-Going : goal.returns-in-Going
returns-in-Going g c =
    turned _ _ _ _ _ _ _ _ _ c.bytes.ensures.few c.bytes.ensures.same c.has_ended.ensures
    c.run_window-passed.ensures _ _ _ _ _ _ c.in_ok-write_lines.ensures.written
    (elim c.in-Going.is [
      | inl is ↦
          stays (λ same. going_over (sym is ∙ same)) (λ same. going_hungry (sym is ∙ same))
          c.take_to.ensures refl refl
      | inr is ↦
          stays (λ same. full_over (sym is ∙ same)) (λ same. full_hungry (sym is ∙ same))
          c.take_to.ensures refl refl
    ])

pub returns-in_ok-read-in-Hungry : goal.returns-in_ok-read-in-Hungry
returns-in_ok-read-in-Hungry g c =
    turned _ _ _ _ _ _ _ _ _ c.bytes.ensures.few c.bytes.ensures.same c.has_ended.ensures
    c.run_window-passed.ensures _ _ _ _ _ _ c.in_ok-write_lines.ensures.written
    (reads c.in-Hungry.is c.take_to.ensures
    (leb-false _ _ (sym c.is_full.ensures ∙ c.if-is_full.false))
    c.in_ok-read-in-Hungry.ensures.read refl)
