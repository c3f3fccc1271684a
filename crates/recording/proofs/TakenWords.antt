-- The words of a host write that was taken: all are there (`taken_words_there`), and bytes that
-- come behind do not change them (`more_bytes_same_words`). Assumes nothing.
use mathlib.Core.Path.{◌≡◌}
use mathlib.Core.List.{List, ◌++◌}
use Prim.Native.Nat.{ℕ, ◌*◌, ◌≤◌}
use native.Mathlib.Omega.{arith}
use Rattle.recording.specs.declared.field.Field.TheVariants.{HostWrite}
use Rattle.recording.specs.declared.seen.Seen.{Seen}
use Rattle.recording.specs.Bytes.{bytes_left, words_at}
use Rattle.recording.specs.Reading.{Taken, read_at}
use Rattle.recording.proofs.TakenLaws.{Within, taken_within}
use Rattle.recording.proofs.InOrder.{WriteInOrder, taken_in_order}
use Rattle.recording.proofs.MoreBytes.{words_of_more}

module _ (bytes : List ℕ) (place : ℕ) (seen : Seen) {address first count next : ℕ}
    (taken : read_at bytes place seen ≡ Taken (HostWrite address first count) next) where
  write : WriteInOrder place next address first count
  write = taken_in_order bytes place seen taken

  field : Within bytes place next
  field = taken_within bytes place seen taken

  pub taken_words_there : 2 * count ≤ bytes_left bytes first
  taken_words_there = omega (arith, write.to_the_end, field.ends_inside)

  pub more_bytes_same_words : (back : List ℕ)
      → words_at (bytes ++ back) first count ≡ words_at bytes first count
  more_bytes_same_words back =
      words_of_more bytes back first count (omega (arith, write.to_the_end, field.ends_inside))
