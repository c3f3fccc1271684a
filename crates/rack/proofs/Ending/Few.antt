-- How many replies a turn brings: one at the most where a single station may speak, two where two
-- may, since the stations are different. Assumes nothing.
use mathlib.Core.Path.{◌≡◌, sym, ap, ◌∙◌}
use mathlib.Core.Logic.{◌≢◌}
use mathlib.Core.Bool.{Bool}
use mathlib.Core.List.{List, [], ◌∷◌}
use Prim.Native.Nat.{ℕ, suc, ◌≤◌}
use native.Mathlib.Decide.{ℕ_discrete}
use native.Mathlib.Omega.{arith}
use lib.ListN.{length}
use Rattle.rules.proofs.Choices.{by_test}
use Rattle.terminal.specs.State.{Card}
use Rattle.rack.specs.Segment.{Segment, Spoken, Nothing, Given, Said}
use Rattle.rack.specs.Hearing.{Stamps, turn_of, said_after}
use Rattle.rack.specs.Bus.{comes_before, placed, with_reply, replies_to}
use Rattle.rack.specs.Terminals.{Each, Different}
use Rattle.rack.proofs.Lists.Each.{each_so, each_both}
use Rattle.rack.proofs.Lists.Speaker.{SilentElsewhere, none_replies}

placed_long : (station : ℕ) (said : Segment) (others : List Spoken)
    → length (placed station said others) ≤ suc (length others)
unfolding placed
placed_long station said [] = omega arith
placed_long station said (next ∷ later) =
    let inner = placed_long station said later in
    by_test (λ (any : List Spoken). length any ≤ suc (suc (length later)))
    (comes_before station next) (λ _. omega arith) (λ _. omega (arith, inner))

with_long : (spoken : Spoken) (others : List Spoken)
    → length (with_reply spoken others) ≤ suc (length others)
with_long Nothing others = omega arith
with_long (Given said) others = omega arith
with_long (Said station said) others = placed_long station said others

module _ (line : Bool) (stamps : Stamps) (spoken : Spoken) where
  abbrev replies : List Card → List Spoken
  replies terminals = replies_to line stamps spoken terminals

  pub one_replies : (station : ℕ) {terminals : List Card} → Different terminals
      → Each (SilentElsewhere line stamps spoken station) terminals
      → length (replies terminals) ≤ 1
  unfolding replies_to
  one_replies station Different.nobody Each.nobody = omega arith
  one_replies station (Different.each {terminal} {terminals} apart different)
      (Each.each silent silence) =
      elim (ℕ_discrete terminal.core.station station) [
        | yes is ↦
            let none : replies terminals ≡ [] =
            none_replies line stamps spoken
            (each_so (λ other both. both.1 (λ same. both.0 (same ∙ sym is)))
            (each_both apart silence)) in
            omega (
              arith,
              with_long (said_after (turn_of line stamps spoken terminal)) (replies terminals),
              ap (λ (any : List Spoken). length any) none,
            )
        | no other ↦ rw (silent other) (one_replies station different silence)
      ]

  -- silent, unless of one of two stations
  abbrev pub SilentBeside : ℕ → ℕ → Card → Type 0
  SilentBeside station another terminal =
      terminal.core.station ≢ station → terminal.core.station ≢ another
      → said_after (turn_of line stamps spoken terminal) ≡ Nothing

  pub two_reply : (station another : ℕ) {terminals : List Card} → Different terminals
      → Each (SilentBeside station another) terminals → length (replies terminals) ≤ 2
  unfolding replies_to
  two_reply station another Different.nobody Each.nobody = omega arith
  two_reply station another (Different.each {terminal} {terminals} apart different)
      (Each.each silent silence) =
      let longer =
      with_long (said_after (turn_of line stamps spoken terminal)) (replies terminals) in
      elim (ℕ_discrete terminal.core.station station) [
        | yes is ↦
            omega (
              arith,
              longer,
              one_replies another different
                  (each_so (λ other both. both.1 (λ same. both.0 (same ∙ sym is)))
                  (each_both apart silence)),
            )
        | no other ↦
            elim (ℕ_discrete terminal.core.station another) [
              | yes is ↦
                  omega (
                    arith,
                    longer,
                    one_replies station different
                        (each_so (λ other both elsewhere.
                        both.1 elsewhere (λ same. both.0 (same ∙ sym is)))
                        (each_both apart silence)),
                  )
              | no neither ↦ rw (silent other neither) (two_reply station another different silence)
            ]
      ]
