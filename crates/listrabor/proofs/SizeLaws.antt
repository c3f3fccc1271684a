-- How long a buffer has to be, and which sizes are refused. Assumes nothing.
use mathlib.Core.Path.{◌≡◌}
use Prim.Native.Nat.{ℕ, ◌+◌, ◌-◌, ◌*◌, ◌/◌, ◌≤◌, ◌<◌}
use native.Mathlib.Omega.{arith}
use borrow.Author.Tests.{eq-eqb, ne_eqb, lt-ltb, le-ltb}
use Rattle.card.specs.Memory.{card_words}
use Rattle.lines.specs.Written.{line_room}
use Rattle.tray.specs.AsCoded.Window.{whole_room}
use Rattle.listrabor.specs.Lent.{room_for, size_refusal}

-- ---- the room of a recording

pub too_long : (bytes : ℕ) → 878416384462359592 < bytes → 18446744073709551615 ≡ room_for bytes
unfolding room_for
too_long bytes long = omega (arith, long)

pub room_there : (bytes : ℕ) → bytes ≤ 878416384462359592 → 21 * bytes + line_room ≡ room_for bytes
unfolding room_for
room_there bytes few = omega (arith, few)

-- ---- refusals

module _ (bytes words room : ℕ) where
  pub other_memory : (words ≡ card_words → ⊥) → 1 ≡ size_refusal bytes words room
  unfolding size_refusal
  other_memory other = rw (ne_eqb words card_words other)

  too_short : words ≡ card_words → room < whole_room bytes → 10 ≡ size_refusal bytes words room
  unfolding size_refusal
  too_short card short = rw (eq-eqb words card_words card, lt-ltb room (whole_room bytes) short)

  pub no_last_line : words ≡ card_words → room < line_room → 10 ≡ size_refusal bytes words room
  no_last_line card short = too_short card (omega (arith, short))

  pub few_lines : words ≡ card_words → line_room ≤ room → (room - line_room) / 21 < bytes
      → 10 ≡ size_refusal bytes words room
  few_lines card last short = too_short card (omega (arith, last, short))

  pub can_be_used : words ≡ card_words → line_room ≤ room → bytes ≤ (room - line_room) / 21
      → 0 ≡ size_refusal bytes words room
  unfolding size_refusal
  can_be_used card last enough =
      rw (
        eq-eqb words card_words card,
        le-ltb room (whole_room bytes) (omega (arith, last, enough)),
      )

pub ruleset sizes = (too_long, room_there, other_memory, no_last_line, few_lines, can_be_used)
