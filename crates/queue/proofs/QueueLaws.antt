-- The laws of `specs/Queue.antt`, on each way that the code takes. Assumes nothing.
use mathlib.Core.Path.{◌≡◌, sym, ◌∙◌}
use mathlib.Core.Bool.{Bool, true, ◌&&◌, and_assoc, and-true}
use mathlib.Core.List.{List, [], ◌∷◌}
use Prim.Native.Nat.{ℕ, ◌+◌, ◌-◌, ◌%◌, ◌≤◌, ◌<◌}
use native.Mathlib.Nat.{zero-add}
use native.Mathlib.Omega.{arith}
use lib.ListN.{get_or, set}
use borrow.Author.Tests.{lt-ltb, le-ltb, eq-eqb, ne_eqb}
use Rattle.std.specs.List.{fold}
use Rattle.bits.specs.Bit.{Weighed, weight_of}
use Rattle.queue.specs.declared.Queue.{Queue}
use Rattle.queue.specs.Queue.{
  queue_places,
  queue,
  ring_of,
  with_joined,
  oldest_word,
  without_oldest,
  without_oldest_block,
  fit_place,
  fit_places,
}

-- ---- joining

module _ (old : Queue) (block : ℕ) where
  pub joined_full : queue_places ≤ old.ring.count
      → queue old.places (ring_of old.ring.start old.ring.count true) ≡ with_joined block old
  unfolding with_joined
  joined_full full = rw (le-ltb old.ring.count queue_places full)

  pub joined_behind : old.ring.count < queue_places
      → queue (set old.places ((old.ring.start + old.ring.count) % queue_places) block)
      (ring_of old.ring.start (old.ring.count + 1) old.ring.overflow)
      ≡ with_joined block old
  unfolding with_joined
  joined_behind room = rw (lt-ltb old.ring.count queue_places room)

pub ruleset joins = (joined_full, joined_behind)

-- ---- reading

module _ (old : Queue) (mark : ℕ) (is : Weighed old.ring.overflow 1024 mark) where
  pub none_told : old.ring.count ≡ 0 → mark ≡ oldest_word old
  unfolding oldest_word
  none_told none =
      rw (is.exactly, eq-eqb old.ring.count 0 none, zero-add (weight_of old.ring.overflow 1024))

  pub oldest_told : (old.ring.count ≡ 0 → ⊥)
      → 32768 + get_or old.places (old.ring.start % queue_places) 0 % 1024 + mark
      ≡ oldest_word old
  unfolding oldest_word
  oldest_told some = rw (is.exactly, ne_eqb old.ring.count 0 some)

module _ (old : Queue) where
  pub none_left : old.ring.count ≡ 0 → old ≡ without_oldest_block old
  unfolding without_oldest
  none_left none =
      let stays : old.ring.count - 1 ≡ old.ring.count = omega arith in
      rw (eq-eqb old.ring.count 0 none, stays)

  pub oldest_left : (old.ring.count ≡ 0 → ⊥)
      → queue old.places
      (ring_of ((old.ring.start % queue_places + 1) % queue_places) (old.ring.count - 1)
      old.ring.overflow)
      ≡ without_oldest_block old
  unfolding without_oldest
  oldest_left some =
      let next : (old.ring.start % queue_places + 1) % queue_places
      ≡ (old.ring.start + 1) % queue_places =
      omega arith in
      rw (next, ne_eqb old.ring.count 0 some)

pub ruleset reads = (none_told, oldest_told, none_left, oldest_left)

-- ---- the scan for fitness

-- behind what was found so far
fit_behind : (blocks : ℕ) (fit : Bool) (places : List ℕ)
    → fold (λ fit place. fit && fit_place blocks place) fit places
    ≡ (fit && fit_places blocks places)
fit_behind blocks fit [] = sym (and-true fit)
fit_behind blocks fit (place ∷ places) =
    fit_behind blocks (fit && fit_place blocks place) places
    ∙ and_assoc fit (fit_place blocks place) (fit_places blocks places)

pub places_fit : (blocks : ℕ) (places : List ℕ)
    → fold (λ fit place. fit && fit_place blocks place) true places ≡ fit_places blocks places
places_fit blocks places = fit_behind blocks true places
