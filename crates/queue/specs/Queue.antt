-- The queue: a ring of 256 places and its overflow mark. A place is counted modulo 256, so that the
-- place after the last is the first again. Definitions only. Assumes nothing.
use Rattle.std.specs.Prelude.{
  Bool,
  true,
  false,
  cond,
  ◌&&◌,
  List,
  [],
  ◌∷◌,
  ℕ,
  ◌+◌,
  ◌-◌,
  ◌%◌,
  eqb,
  leb,
  ltb,
  get_or,
  set,
  replicate,
}
use Rattle.bits.specs.Bit.{weight_of}
use Rattle.queue.specs.declared.Ring.{Ring}
use Rattle.queue.specs.declared.Queue.{Queue}

abbrev pub queue_places : ℕ
queue_places = 256

abbrev pub queue : List ℕ → Ring → Queue
queue places ring = record { places = places; ring = ring }

abbrev pub ring_of : ℕ → ℕ → Bool → Ring
ring_of start count overflow = record { start = start; count = count; overflow = overflow }

-- all zero
abbrev pub empty_queue : Queue
empty_queue = queue (replicate queue_places 0) (ring_of 0 0 false)

-- ---- joining: behind the others; where there is no room the newcomer is lost and overflow set

abbrev pub has_room : Ring → Bool
has_room ring = ltb ring.count queue_places

unfoldable pub with_joined : ℕ → Queue → Queue
with_joined block old =
    let ring = old.ring in
    queue
    (cond (has_room ring)
    (set old.places ((ring.start + ring.count) % queue_places) block)
    old.places)
    (ring_of ring.start
    (cond (has_room ring) (ring.count + 1) ring.count)
    (cond (has_room ring) ring.overflow true))

-- ---- reading

-- bit 15 one was there, with the oldest in bits 9 to 0; bit 10 overflow, which is never cleared
unfoldable pub oldest_word : Queue → ℕ
oldest_word old =
    cond (eqb old.ring.count 0) 0
    (32768 + get_or old.places (old.ring.start % queue_places) 0 % 1024)
    + weight_of old.ring.overflow 1024

-- the oldest leaves: its place is used again
unfoldable pub without_oldest : Ring → Ring
without_oldest ring =
    ring_of
    (cond (eqb ring.count 0) ring.start ((ring.start + 1) % queue_places))
    (ring.count - 1)
    ring.overflow

abbrev pub without_oldest_block : Queue → Queue
without_oldest_block old = queue old.places (without_oldest old.ring)

-- ---- fitness, as refusal 4 judges it: all 256 places, in use or not

-- a place holds the number of a block, on a card of so many
abbrev pub fit_place : ℕ → ℕ → Bool
fit_place blocks place = ltb place blocks

abbrev pub fit_places : ℕ → List ℕ → Bool
fit_places blocks [] = true
fit_places blocks (place ∷ places) = fit_place blocks place && fit_places blocks places

unfoldable pub fit_queue : ℕ → Queue → Bool
fit_queue blocks old =
    ltb old.ring.start queue_places
    && leb old.ring.count queue_places
    && fit_places blocks old.places
