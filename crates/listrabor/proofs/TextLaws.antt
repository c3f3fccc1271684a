-- What a caller reads off the answer: 0 is answered exactly where a size is refused, and over a RAM
-- of zeros the text is the program's. Assumes nothing.
use mathlib.Core.Path.{◌≡◌, ap, ◌∙◌}
use mathlib.Core.List.{List}
use Prim.Native.Nat.{ℕ, ◌<◌}
use lib.ListN.{length, replicate}
use lib.Seq.{sets}
use borrow.Author.Tests.{eq-eqb, ne_eqb}
use Rattle.card.specs.Memory.{card_words}
use Rattle.tray.specs.Run.{tray_over, tray_at_start, whole_from, printed}
use Rattle.tray_laws.proofs.PrintedLaws.{text_not_empty}
use Rattle.listrabor.specs.Lent.{size_refusal, lent, lent_after, lent_run}

module _ (recording ram out : List ℕ) where
  abbrev number : ℕ
  number = size_refusal (length recording) (length ram) (length out)

  pub used : number ≡ 0
      → lent_run recording ram out ≡ lent_after (whole_from (tray_over ram) recording) out
  unfolding lent_run
  used is = rw (eq-eqb number 0 is)

  pub refused_answers_0 : (number ≡ 0 → ⊥) → lent_run recording ram out ≡ lent 0 ram out
  unfolding lent_run
  refused_answers_0 refused = rw (ne_eqb number 0 refused)

  pub used_answers_more : number ≡ 0 → 0 < (lent_run recording ram out).count
  used_answers_more is = rw (used is) (text_not_empty (tray_over ram) recording)

  -- the text of a tray run, whose RAM starts zero
  pub prints_as_the_program : ram ≡ replicate card_words 0 → number ≡ 0
      → lent_run recording ram out
      ≡ lent (length (printed recording)) (whole_from tray_at_start recording).run.card.ram
      (sets out 0 (printed recording))
  unfolding printed tray_at_start
  prints_as_the_program zero is =
      used is
      ∙ ap (λ (memory : List ℕ). lent_after (whole_from (tray_over memory) recording) out) zero
