-- What is left in the window where bytes are taken, and where a piece is read behind them.
-- Assumes nothing.
use mathlib.Core.Path.{◌≡◌, sym, ap, ◌∙◌}
use mathlib.Core.Bool.{Bool}
use mathlib.Core.List.{List, [], ◌∷◌, ◌++◌}
use Prim.Native.Nat.{ℕ, ◌+◌, ◌-◌, ◌≤◌, ◌<◌}
use native.Mathlib.Omega.{arith}
use lib.Dec.{eqb}
use lib.ListN.{length, take, drop}
use lib.Seq.{
  sets,
  slice,
  sets-eq,
  length-slice,
  length-take-le,
  take_at,
  take-append-le,
  take-append-add,
}
use borrow.Author.Tests.{le-leb, eq-eqb, ne_eqb}
use borrow.Rule.Slice.PartMut.{put_mid}
use Rattle.std.specs.Prelude.{Option}
use Rattle.std.specs.Io.KnownBytes.{Consumes, IsAtEnd}
use Rattle.lines.specs.Written.{Put, put}
use Rattle.pieces.specs.AsCoded.Rest.{kept_rest}
use Rattle.stream.specs.Progress.{buffer_bytes}
use Rattle.stream.specs.AsCoded.Turns.{Left, is_nothing, behind, ReadOn}

-- so many bytes of the window count
abbrev left_in : List ℕ → ℕ → Bool → Left
left_in bytes have ended = record { bytes = take have bytes; ended = ended }

-- ---- bytes are taken

module _ (bytes : List ℕ) (at have : ℕ) (bytes' : List ℕ) (have' : ℕ) (ended : Bool)
    (inside : have ≤ length bytes) (is : put have' bytes' ≡ kept_rest bytes at have) where
  abbrev rest : List ℕ
  rest = slice at have bytes

  long : length rest ≡ have - at
  long = length-slice at have bytes inside

  whole : put have' bytes' ≡ put (have - at) (sets bytes 0 rest)
  unfolding kept_rest
  whole = rw (le-leb have (length bytes) inside) at is

  fewer : have' ≡ have - at
  fewer = ap (λ (kept : Put). kept.next) whole

  pub still_inside : (size : ℕ) → have ≤ size → have' ≤ size
  still_inside size fits = omega (arith, fewer)

  pub taken_to : left_in bytes' have' ended ≡ behind at (left_in bytes have ended)
  taken_to =
      let moved : bytes' ≡ sets bytes 0 rest = ap (λ (kept : Put). kept.bytes) whole in
      ap (λ (left : List ℕ). record { bytes = left; ended = ended })
      (rw (fewer, moved, sets-eq rest bytes 0 (omega (arith, long)))
      (take_at rest (drop (0 + length rest) bytes) (have - at) long))

-- ---- a piece is read

nothing_counted : (piece : List ℕ) (count : ℕ) → length piece ≡ count
    → eqb count 0 ≡ is_nothing piece
nothing_counted [] count long = eq-eqb count 0 (sym long)
nothing_counted (byte ∷ more) count long = ne_eqb count 0 (λ none. absurd (omega (arith, long)))

-- the part that was lent comes back in its place, behind the bytes that are there, and so many of
-- its bytes count
pub read_on : (bytes part : List ℕ) (have room count : ℕ) (ended : Bool) (old : Left)
    (given given' : Option (List ℕ))
    → left_in bytes have ended ≡ old → have ≤ length bytes → length bytes ≡ buffer_bytes
    → count ≤ length part → length part ≡ length bytes - have
    → Consumes given given' (take count part) × (count ≡ 0 → 0 < length part → IsAtEnd given')
    → ReadOn old (left_in (put_mid have room bytes part) (have + count) (eqb count 0)) given given'
read_on bytes part have room count ended old given given' is_old inside size counts part_size
    consumed =
    let rest : List ℕ = drop room (drop have bytes) in
    let front : length (take have bytes) ≡ have = length-take-le have bytes inside in
    let long : length (take count part) ≡ count = length-take-le count part counts in
    rw (← is_old)
    (record {
      piece = take count part;
      is_new =
          rw (nothing_counted (take count part) count long)
          (ap (λ (left : List ℕ).
          record { bytes = left; ended = is_nothing (take count part) })
          (ap (λ (size : ℕ). take (size + count) (take have bytes ++ (part ++ rest))) (sym front)
          ∙ take-append-add (take have bytes) (part ++ rest) count
          ∙ ap (λ (more : List ℕ). take have bytes ++ more)
          (take-append-le count part rest counts)));
      is_given = consumed.0;
      at_end =
          λ none room_left.
          consumed.1 (sym long ∙ ap length none)
          (omega (arith, part_size, size, front, room_left));
    })
