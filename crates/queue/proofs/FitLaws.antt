-- A fit queue stays fit, in the sense of refusal 4: `join_keeps_fit`, `read_keeps_fit`, and
-- `empty_is_fit` to begin with. Assumes nothing.
use mathlib.Core.Path.{◌≡◌, refl}
use mathlib.Core.Bool.{Bool, true, false, cond, ◌&&◌}
use mathlib.Core.List.{List, [], ◌∷◌}
use Prim.Native.Nat.{ℕ, zero, suc, ◌+◌, ◌%◌, ◌≤◌, ◌<◌}
use native.Mathlib.Omega.{arith}
use lib.Dec.{eqb, leb, ltb}
use lib.ListN.{set, replicate}
use borrow.Author.Tests.{leb-true, le-leb, ltb-true, lt-ltb}
use Rattle.rules.proofs.Cases.{both}
use Rattle.rules.proofs.Halves.{first_of_both, second_of_both}
use Rattle.queue.specs.declared.Queue.{Queue}
use Rattle.queue.specs.Queue.{
  queue_places,
  queue,
  empty_queue,
  has_room,
  with_joined,
  without_oldest,
  fit_place,
  fit_places,
  fit_queue,
}

-- ---- the parts

-- what refusal 4 asks of a queue, part by part
pub record FitQueue (blocks : ℕ) (old : Queue) : Type 0 where
  pub start : old.ring.start < queue_places
  pub count : old.ring.count ≤ queue_places
  pub places : fit_places blocks old.places ≡ true

-- the test taken apart ..
pub fit_queue_parts : (blocks : ℕ) (old : Queue) → fit_queue blocks old ≡ true → FitQueue blocks old
unfolding fit_queue
fit_queue_parts blocks old fit =
    let start = ltb old.ring.start queue_places in
    let count = leb old.ring.count queue_places in
    let ring : (start && count) ≡ true =
    first_of_both (start && count) (fit_places blocks old.places) fit in
    record {
      start = ltb-true old.ring.start queue_places (first_of_both start count ring);
      count = leb-true old.ring.count queue_places (second_of_both start count ring);
      places = second_of_both (start && count) (fit_places blocks old.places) fit;
    }

-- .. and put together again
pub fit_queue_whole : {blocks : ℕ} {old : Queue} → FitQueue blocks old → fit_queue blocks old ≡ true
unfolding fit_queue
fit_queue_whole {blocks} {old} parts =
    rw (
      lt-ltb old.ring.start queue_places parts.start,
      le-leb old.ring.count queue_places parts.count,
    ) parts.places

-- ---- joining

-- a fit number in one of the places, or past the last, where nothing is stored
fit_places_of_set : (blocks : ℕ) (places : List ℕ) (place block : ℕ) → block < blocks
    → fit_places blocks places ≡ true → fit_places blocks (set places place block) ≡ true
fit_places_of_set blocks [] place block small fit = refl
fit_places_of_set blocks (first ∷ places) zero block small fit =
    both (fit_place blocks block) (fit_places blocks places) (lt-ltb block blocks small)
    (second_of_both (fit_place blocks first) (fit_places blocks places) fit)
fit_places_of_set blocks (first ∷ places) (suc place) block small fit =
    both (fit_place blocks first) (fit_places blocks (set places place block))
    (first_of_both (fit_place blocks first) (fit_places blocks places) fit)
    (fit_places_of_set blocks places place block small
    (second_of_both (fit_place blocks first) (fit_places blocks places) fit))

-- the count grows by one where there is room
count_of_join : (count : ℕ) → count ≤ queue_places
    → cond (ltb count queue_places) (count + 1) count ≤ queue_places
count_of_join count fit = go (ltb count queue_places) refl
  where
    go : (room : Bool) → ltb count queue_places ≡ room → cond room (count + 1) count ≤ queue_places
    go true room = omega (arith, ltb-true count queue_places room)
    go false full = fit

-- a place changes where there is room
fit_places_of_join : (blocks : ℕ) (room : Bool) (places : List ℕ) (place block : ℕ) → block < blocks
    → fit_places blocks places ≡ true
    → fit_places blocks (cond room (set places place block) places) ≡ true
fit_places_of_join blocks true places place block small fit =
    fit_places_of_set blocks places place block small fit
fit_places_of_join blocks false places place block small fit = fit

-- the queue takes a fit number, or loses it where there is no room
pub join_keeps_fit : (blocks block : ℕ) (old : Queue) → block < blocks
    → fit_queue blocks old ≡ true → fit_queue blocks (with_joined block old) ≡ true
unfolding with_joined
join_keeps_fit blocks block old small fit =
    let parts = fit_queue_parts blocks old fit in
    fit_queue_whole (record {
      start = parts.start;
      count = count_of_join old.ring.count parts.count;
      places =
          fit_places_of_join blocks (has_room old.ring) old.places
          ((old.ring.start + old.ring.count) % queue_places) block small parts.places;
    })

-- ---- reading

-- the start stays, or goes one place on
start_of_read : (none : Bool) (start : ℕ) → start < queue_places
    → cond none start ((start + 1) % queue_places) < queue_places
start_of_read true start fit = fit
start_of_read false start fit = omega arith

-- the oldest leaves, where there is one
pub read_keeps_fit : (blocks : ℕ) (old : Queue) → fit_queue blocks old ≡ true
    → fit_queue blocks (queue old.places (without_oldest old.ring)) ≡ true
unfolding without_oldest
read_keeps_fit blocks old fit =
    let parts = fit_queue_parts blocks old fit in
    fit_queue_whole (record {
      start = start_of_read (eqb old.ring.count 0) old.ring.start parts.start;
      count = omega arith;
      places = parts.places;
    })

-- ---- setup

zeros_fit : (blocks : ℕ) → 0 < blocks → (count : ℕ)
    → fit_places blocks (replicate count 0) ≡ true
zeros_fit blocks some zero = refl
zeros_fit blocks some (suc count) =
    both (fit_place blocks 0) (fit_places blocks (replicate count 0)) (lt-ltb 0 blocks some)
    (zeros_fit blocks some count)

-- the queue at setup, on a card that has a block
pub empty_is_fit : (blocks : ℕ) → 0 < blocks → fit_queue blocks empty_queue ≡ true
unfolding fit_queue
empty_is_fit blocks some = zeros_fit blocks some queue_places
