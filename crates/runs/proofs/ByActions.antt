-- A run by the library's actions at work: document 01's recording, what reader and actions refuse
-- alike, and what is refused over memory of another length and from a state that is not fit; with
-- less asked the theorem is false. Assumes nothing.
use mathlib.Core.Path.{◌≡◌, refl}
use mathlib.Core.List.{List, [], ◌∷◌, ◌++◌}
use Prim.Native.Nat.{ℕ, zero, suc}
use native.Mathlib.Omega.{arith}
use lib.ListN.{drop, replicate}
use Rattle.card.specs.Memory.{card_words, the_block}
use Rattle.queue.specs.Queue.{empty_queue}
use Rattle.terminal.specs.State.{card, core_at_setup}
use Rattle.actions.specs.Actions.{After}
use Rattle.recording.specs.Tag.{tag_of, length_fits}
use Rattle.recording.specs.Field.{field_at}
use Rattle.recording.specs.Seen.{setup_seen}
use Rattle.recording.specs.Reading.{Reading, Taken, End, Refused, read_at}
use Rattle.tray.specs.Run.{Tray, tray_over, tray_at_start, Whole, whole_from}
use Rattle.tray_laws.specs.ByActions.{
  action_of,
  first_field,
  tray_with,
  ByActions,
  acts,
  ends,
  refuses,
}
use Rattle.tray_laws.proofs.ByActions.{run_by_actions}
use Rattle.runs.proofs.Telling.{runs}

-- ---- recordings

-- station 5, table block 1
unfoldable setup : List ℕ
setup = 0x01 ∷ 0x00 ∷ 0x03 ∷ 0x05 ∷ 0x01 ∷ 0x00 ∷ []

-- two host writes, a command with its two data words, a silence, a queue read
unfoldable behind : List ℕ
behind =
    0x05 ∷ 0x00 ∷ 0x04 ∷ 0x00 ∷ 0x43 ∷ 0x40 ∷ 0x02
    ∷ 0x05 ∷ 0x00 ∷ 0x04 ∷ 0x00 ∷ 0xBF ∷ 0x40 ∷ 0x03
    ∷ 0x02 ∷ 0x00 ∷ 0x07 ∷ 0x06 ∷ 0x28 ∷ 0x62 ∷ 0x00 ∷ 0x00 ∷ 0x00 ∷ 0x28
    ∷ 0x02 ∷ 0x00 ∷ 0x07 ∷ 0x0C ∷ 0x11 ∷ 0x11 ∷ 0x00 ∷ 0x00 ∷ 0x00 ∷ 0x3C
    ∷ 0x02 ∷ 0x00 ∷ 0x07 ∷ 0x0C ∷ 0x22 ∷ 0x22 ∷ 0x00 ∷ 0x00 ∷ 0x00 ∷ 0x50
    ∷ 0x03 ∷ 0x00 ∷ 0x05 ∷ 0x00 ∷ 0x00 ∷ 0x00 ∷ 0x00 ∷ 0x64
    ∷ 0x04 ∷ 0x00 ∷ 0x00 ∷ []

-- document 01's recording
abbrev recording : List ℕ
recording = setup ++ behind

-- ---- the numbers that the actions of its fields give

abbrev numbers_of : Reading → (Tray → List ℕ → List ℕ) → Tray → List ℕ → List ℕ
numbers_of (Taken field next) rest old bytes =
    let left : After = action_of bytes field old.card in
    left.refusal ∷ rest (tray_with field left.card next old) (drop next bytes)
numbers_of End rest old bytes = []
numbers_of (Refused number place) rest old bytes = []

-- of so many fields at the most
unfoldable numbers : ℕ → Tray → List ℕ → List ℕ
numbers zero old bytes = []
numbers (suc most) old bytes = numbers_of (read_at bytes 0 old.seen) (numbers most) old bytes

abbrev AllZero : List ℕ → Type 0
AllZero [] = Unit {0}
AllZero (number ∷ more) = (number ≡ 0) × AllZero more

-- in a run by actions they are all 0
none_refused : {old : Tray} {bytes : List ℕ} {made : Whole} → ByActions old bytes made
    → (most : ℕ) → AllZero (numbers most old bytes)
unfolding numbers
none_refused run zero = tt
none_refused {old = old} (acts {field = field} {next = next} {new = new} sound is taken more)
    (suc most) =
    rw (is, taken) (refl, none_refused {old = tray_with field new next old} more most)
none_refused (ends sound is) (suc most) = rw is tt
none_refused (refuses sound is alike) (suc most) = rw is tt

-- to unfold `all` is to unfold the recordings, the reader and the actions
unfoldable all : ℕ
unfolding runs setup behind numbers action_of tray_over tray_at_start read_at tag_of length_fits
    field_at
all = 0

-- ---- document 01's recording

-- eight fields, eight actions, none refused
the_recording_is_taken :
    numbers 9 tray_at_start recording ≡ 0 ∷ 0 ∷ 0 ∷ 0 ∷ 0 ∷ 0 ∷ 0 ∷ 0 ∷ []
unfolding all
the_recording_is_taken = refl

-- the theorem, over memory of zeros
the_recording_is_by_actions : ByActions tray_at_start recording (whole_from tray_at_start recording)
unfolding all
the_recording_is_by_actions =
    run_by_actions (replicate card_words 0) recording refl

-- ---- fields that the reader refuses for what they hold

-- the reader's number for the first field, and its action's
abbrev number_of : Reading → ℕ
number_of (Taken field next) = 0
number_of End = 0
number_of (Refused number place) = number

abbrev both_numbers : List ℕ → Tray → List ℕ
both_numbers bytes old =
    number_of (read_at bytes 0 old.seen)
    ∷ (action_of bytes (first_field bytes) old.card).refusal
    ∷ []

station_31_gets_2_from_both :
    both_numbers (0x01 ∷ 0x00 ∷ 0x03 ∷ 31 ∷ 0x01 ∷ 0x00 ∷ []) tray_at_start ≡ 2 ∷ 2 ∷ []
unfolding all
station_31_gets_2_from_both = refl

-- a station after its setup, over memory of zeros
abbrev stationed : ℕ → Tray
stationed station =
    record {
      seen = setup_seen;
      card = card (core_at_setup station (the_block 1) 0) empty_queue (replicate card_words 0);
      fields = 1;
      offset = 6;
    }

-- the second word is past the last address, 16,383
two_words_there_get_8_from_both :
    both_numbers
    (0x05 ∷ 0x00 ∷ 0x06 ∷ 0x3F ∷ 0xFF ∷ 0x12 ∷ 0x34 ∷ 0x56 ∷ 0x78 ∷ [])
    (stationed 5)
    ≡ 8 ∷ 8 ∷ []
unfolding all
two_words_there_get_8_from_both = refl

-- no byte spells 300, but reader and actions refuse any number alike
table_block_300_gets_3_from_both :
    both_numbers (0x06 ∷ 0x00 ∷ 0x01 ∷ 300 ∷ []) (stationed 5) ≡ 3 ∷ 3 ∷ []
unfolding all
table_block_300_gets_3_from_both = refl

the_table_block_comes_before_the_flags :
    both_numbers (0x01 ∷ 0x00 ∷ 0x03 ∷ 30 ∷ 300 ∷ 64 ∷ []) tray_at_start ≡ 3 ∷ 3 ∷ []
unfolding all
the_table_block_comes_before_the_flags = refl

-- ---- with less asked

-- over one word of memory what needs memory is refused by 1: host writes, words and the silence
over_one_word_it_is_refused :
    numbers 9 (tray_over (0 ∷ [])) recording ≡ 0 ∷ 1 ∷ 1 ∷ 1 ∷ 1 ∷ 1 ∷ 1 ∷ 0 ∷ []
unfolding all
over_one_word_it_is_refused = refl

-- 16,385 words are one too many
over_a_word_too_many_it_is_refused :
    numbers 9 (tray_over (replicate 16385 0)) recording ≡ 0 ∷ 1 ∷ 1 ∷ 1 ∷ 1 ∷ 1 ∷ 1 ∷ 0 ∷ []
unfolding all
over_a_word_too_many_it_is_refused = refl

not_over_any_memory :
    ((ram bytes : List ℕ) → ByActions (tray_over ram) bytes (whole_from (tray_over ram) bytes)) → ⊥
unfolding all
not_over_any_memory claim =
    let none : ◌≡◌ {A = ℕ} 1 0 =
    (none_refused (claim (0 ∷ []) recording) 2).1.0 in
    omega arith

-- from station 31 everything is refused by 4
from_station_31_it_is_refused :
    numbers 9 (stationed 31) behind ≡ 4 ∷ 4 ∷ 4 ∷ 4 ∷ 4 ∷ 4 ∷ 4 ∷ []
unfolding all
from_station_31_it_is_refused = refl
