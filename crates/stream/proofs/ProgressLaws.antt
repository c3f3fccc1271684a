-- The laws of `specs/Progress.antt`: turn by turn is piece by piece, and so much progress allows so
-- many turns. Assumes nothing.
use mathlib.Core.Path.{◌≡◌, refl, sym, ap, subst, ◌∙◌}
use mathlib.Core.Bool.{Bool, true, false}
use mathlib.Core.List.{List}
use Prim.Native.Nat.{ℕ, ◌+◌, ◌≤◌}
use native.Mathlib.Omega.{arith}
use lib.ListN.{length, drop, length-append, length-drop}
use Rattle.pieces.specs.declared.stop.Stop.TheVariants.{Hungry}
use Rattle.pieces.specs.Course.{Course}
use Rattle.pieces.specs.Steady.{Steady}
use Rattle.pieces.specs.AsCoded.Pieces.{Streamed, begins, reads, ends, calls}
use Rattle.pieces.proofs.StopLaws.{full_over, hungry_over}
use Rattle.pieces.proofs.EndLaws.{call_within, last_call_waits_not}
use Rattle.stream.specs.Progress.{
  Far,
  call_at,
  after_call,
  Progressed,
  starts,
  takes,
  feeds,
  finds_end,
  bytes_taken,
  turns_for,
}

module _ {Run : Type 0} (course : Course Run) {longest : ℕ} (steady : Steady course longest) where
  -- a call that needs bytes was not told that the input has ended
  pub not_ended : (far : Far Run) (out : List ℕ) → (call_at course far out).stop ≡ Hungry
      → far.ended ≡ false
  not_ended far out is = go far.ended refl where
    go : (any : Bool) → far.ended ≡ any → far.ended ≡ false
    go true ended =
        absurd
        (last_call_waits_not course steady far.window far.ended ended far.run out is)
    go false ended = ended

  -- ---- piece by piece

  a_call : {start : Run} (far : Far Run) (out : List ℕ)
      → Streamed course start far.ended far.input far.text far.run far.window
      → (call_at course far out).stop ≡ Hungry
      → Streamed course start false far.input (after_call course far out).text
      (after_call course far out).run (after_call course far out).window
  a_call {start = start} far out so_far is =
      let after : Far Run = after_call course far out in
      subst (λ (any : Bool).
      Streamed course start any far.input after.text after.run after.window)
      (not_ended far out is)
      (calls out so_far (λ same. hungry_over (sym is ∙ same)))

  pub progressed_streamed : {start : Run} {turns : ℕ} {far : Far Run}
      → Progressed course start turns far
      → Streamed course start far.ended far.input far.text far.run far.window
  progressed_streamed starts = begins
  progressed_streamed (takes out so_far is took) =
      calls out (progressed_streamed so_far) (λ same. full_over (sym is ∙ same))
  progressed_streamed (feeds {far = far} out piece so_far is some) =
      reads piece (a_call far out (progressed_streamed so_far) is)
  progressed_streamed (finds_end {far = far} out so_far is room) =
      ends (a_call far out (progressed_streamed so_far) is)

  -- ---- how many turns

  -- the turn that finds the end
  found : Bool → ℕ
  found true = 1
  found false = 0

  record Counted (turns : ℕ) (far : Far Run) : Type 0 where
    left : length far.window ≤ length far.input
    few : turns ≤ length far.input + bytes_taken far + found far.ended

  counted : {start : Run} {turns : ℕ} {far : Far Run} → Progressed course start turns far
      → Counted turns far
  unfolding found
  counted starts = record { left = omega arith; few = omega arith }
  counted (takes {far = far} out so_far is took) =
      let before = counted so_far in
      let kept = length-drop (call_at course far out).at far.window in
      let within = call_within course steady far.window far.ended far.run out in
      record {
        left = omega (arith, before.left, kept);
        few = omega (arith, before.left, before.few, kept, within, took);
      }
  counted (feeds {far = far} out piece so_far is some) =
      let before = counted so_far in
      let kept = length-drop (call_at course far out).at far.window in
      let none : found far.ended ≡ 0 = ap found (not_ended far out is) in
      let read = length-append far.input piece in
      let there = length-append (drop (call_at course far out).at far.window) piece in
      record {
        left = omega (arith, before.left, kept, read, there);
        few = omega (arith, before.left, before.few, kept, none, read, there, some);
      }
  counted (finds_end {far = far} out so_far is room) =
      let before = counted so_far in
      let kept = length-drop (call_at course far out).at far.window in
      let none : found far.ended ≡ 0 = ap found (not_ended far out is) in
      record {
        left = omega (arith, before.left, kept);
        few = omega (arith, before.left, before.few, kept, none);
      }

  -- no more turns than one for each byte read, one for each byte of a field taken, and one
  pub few_turns : {start : Run} {turns : ℕ} {far : Far Run} → Progressed course start turns far
      → turns ≤ turns_for far
  unfolding found
  few_turns {far = far} so_far = go far.ended refl (counted so_far) where
    go : {turns : ℕ} (any : Bool) → far.ended ≡ any → Counted turns far → turns ≤ turns_for far
    go true is all = let one : found far.ended ≡ 1 = ap found is in omega (arith, all.few, one)
    go false is all =
        let none : found far.ended ≡ 0 = ap found is in omega (arith, all.few, none)
