-- The theorem over recordings at work: document 01's recording beside the same with its second data
-- word unsound, both followed by the same fields. Assumes nothing.
use mathlib.Core.Path.{◌≡◌, refl}
use mathlib.Core.List.{List, [], ◌∷◌, ◌++◌}
use Prim.Native.Nat.{ℕ}
use lib.ListN.{get_or, replicate}
use Rattle.card.specs.Memory.{card_words, the_block}
use Rattle.terminal.specs.Event.{Event, host_write, word}
use Rattle.terminal_laws.specs.OneBlock.{Alike, ThatBlock}
use Rattle.recording.specs.declared.seen.Seen.{Seen}
use Rattle.recording.specs.Tag.{tag_of, length_fits}
use Rattle.recording.specs.Field.{field_at}
use Rattle.recording.specs.Seen.{nothing_seen, setup_seen}
use Rattle.recording.specs.Reading.{read_at}
use Rattle.recording.specs.Value.{Valued, valued_at}
use Rattle.recording.specs.Accepted.{no_more, a_field, Accepted}
use Rattle.lines.specs.Lines.{status_line, queue_line, end_line}
use Rattle.pieces.specs.LastLine.{last_line}
use Rattle.pieces.specs.Whole.{whole_of, whole_by, whole_from as every_whole}
use Rattle.tray.specs.Happening.{Happening, setup, event, happening_of, happenings, happened}
use Rattle.tray.specs.Run.{
  tray_at_start,
  taking,
  taking_line,
  met_by,
  tray_course,
  whole_from,
  printed,
}
use Rattle.tray_laws.specs.Told.{Tells}
use Rattle.tray_laws.specs.OneBlock.{events, card_after, BrokenRecording, SameRecordings}
use Rattle.tray_laws.proofs.OneBlock.Theorem.{whole_accepted, one_block_recordings}
use Rattle.runs.proofs.Telling.{runs}
use Rattle.runs.proofs.OneBlock.Unsound.{met, command, sound, unsound, after, all_holds}

-- ---- the bytes

-- setup, and the host's two words
unfoldable before_bytes : List ℕ
before_bytes =
    0x01 ∷ 0x00 ∷ 0x03 ∷ 0x05 ∷ 0x01 ∷ 0x00
    ∷ 0x05 ∷ 0x00 ∷ 0x04 ∷ 0x00 ∷ 0x43 ∷ 0x40 ∷ 0x02
    ∷ 0x05 ∷ 0x00 ∷ 0x04 ∷ 0x00 ∷ 0xBF ∷ 0x40 ∷ 0x03 ∷ []

-- a word on line A, with the low byte of its time
unfoldable word_bytes : ℕ → ℕ → ℕ → ℕ → List ℕ
word_bytes marks high low time =
    0x02 ∷ 0x00 ∷ 0x07 ∷ marks ∷ high ∷ low ∷ 0x00 ∷ 0x00 ∷ 0x00 ∷ time ∷ []

-- a silence on line A
unfoldable silence_bytes : ℕ → List ℕ
silence_bytes time = 0x03 ∷ 0x00 ∷ 0x05 ∷ 0x00 ∷ 0x00 ∷ 0x00 ∷ 0x00 ∷ time ∷ []

unfoldable read_bytes : List ℕ
read_bytes = 0x04 ∷ 0x00 ∷ 0x00 ∷ []

unfoldable command_bytes : List ℕ
command_bytes = word_bytes 0x06 0x28 0x62 0x28

unfoldable sound_bytes : List ℕ
sound_bytes =
    word_bytes 0x0C 0x11 0x11 0x3C ++ (word_bytes 0x0C 0x22 0x22 0x50 ++ silence_bytes 0x64)

unfoldable unsound_bytes : List ℕ
unsound_bytes =
    word_bytes 0x0C 0x11 0x11 0x3C ++ (word_bytes 0x08 0x22 0x22 0x50 ++ silence_bytes 0x64)

unfoldable after_bytes : List ℕ
after_bytes =
    word_bytes 0x06 0x2C 0x02 0x70 ++ (silence_bytes 0x80
    ++ (word_bytes 0x06 0x28 0x62 0x90 ++ (word_bytes 0x0C 0x33 0x33 0xA0
    ++ (word_bytes 0x0C 0x44 0x44 0xB0 ++ (silence_bytes 0xC0
    ++ (word_bytes 0x06 0x2C 0x02 0xD0 ++ (silence_bytes 0xE0
    ++ (read_bytes ++ read_bytes))))))))

-- the whole recordings
abbrev sound_recording : List ℕ
sound_recording = before_bytes ++ (command_bytes ++ (sound_bytes ++ after_bytes))

abbrev unsound_recording : List ℕ
unsound_recording = before_bytes ++ (command_bytes ++ (unsound_bytes ++ after_bytes))

-- to unfold `bytes` is to unfold these, and what reads them
unfoldable bytes : ℕ
unfolding before_bytes word_bytes silence_bytes read_bytes command_bytes sound_bytes unsound_bytes
    after_bytes read_at tag_of length_fits field_at valued_at happening_of happenings events
bytes = 0

-- ---- all that is asked holds

-- the program's memory
abbrev zeros : List ℕ
zeros = replicate card_words 0

abbrev earlier : List Event
earlier = host_write 0x0043 (0x4002 ∷ []) ∷ host_write 0x00BF (0x4003 ∷ []) ∷ []

-- accepted fields, and what they tell
tells : {seen : Seen} {bytes : List ℕ} {fields : List Valued} {told : List Happening}
    → Accepted seen bytes fields → happenings fields ≡ told → Tells seen bytes told
tells {fields = fields} accepted are =
    record { fields = fields; accepted = accepted; are = are }

before_accepted : Tells nothing_seen before_bytes (setup 5 1 0 ∷ events earlier)
unfolding bytes
before_accepted = tells (a_field refl (a_field refl (a_field refl no_more))) refl

command_accepted : Tells setup_seen command_bytes (event (word command) ∷ [])
unfolding bytes
command_accepted = tells (a_field refl no_more) refl

sound_accepted : Tells setup_seen sound_bytes (events sound)
unfolding bytes
sound_accepted = tells (a_field refl (a_field refl (a_field refl no_more))) refl

unsound_accepted : Tells setup_seen unsound_bytes (events unsound)
unfolding bytes
unsound_accepted = tells (a_field refl (a_field refl (a_field refl no_more))) refl

after_accepted : Tells setup_seen after_bytes (events after)
unfolding bytes
after_accepted =
    tells (a_field refl (a_field refl (a_field refl (a_field refl (a_field refl
    (a_field refl (a_field refl (a_field refl (a_field refl (a_field refl no_more)))))))))) refl

all_asked_holds : BrokenRecording zeros 5 1 0 sound_recording unsound_recording
    earlier command sound unsound after
unfolding runs met card_after
all_asked_holds =
    record {
      one_accepted =
          whole_accepted 5 1 0 earlier command sound after
          before_accepted command_accepted sound_accepted after_accepted;
      two_accepted =
          whole_accepted 5 1 0 earlier command unsound after
          before_accepted command_accepted unsound_accepted after_accepted;
      broken = all_holds;
    }

the_recordings_are_the_same : SameRecordings zeros 5 1 0 sound_recording unsound_recording
    earlier command sound unsound after
the_recordings_are_the_same =
    one_block_recordings zeros 5 1 0 sound_recording unsound_recording earlier command sound
    unsound after all_asked_holds

-- ---- what they print

-- to unfold `run` is to unfold the whole of a tray run
unfoldable run : ℕ
unfolding bytes runs happened tray_at_start last_line taking taking_line met_by tray_course whole_of
    whole_by every_whole printed
run = 0

-- the reply to the message, and then what both print
the_sound_recording_prints : printed sound_recording
    ≡ status_line 0x2800 []
    ++ (status_line 0x2800 []
    ++ (status_line 0x2800 []
    ++ (status_line 0x2800 []
    ++ (queue_line 0x8002
    ++ (queue_line 0x8003
    ++ end_line 17)))))
unfolding run
the_sound_recording_prints = refl

-- a broken message gets no reply; message error shows in the first status alone
the_unsound_recording_prints : printed unsound_recording
    ≡ status_line 0x2C00 []
    ++ (status_line 0x2800 []
    ++ (status_line 0x2800 []
    ++ (queue_line 0x8002
    ++ (queue_line 0x8003
    ++ end_line 17))))
unfolding run
the_unsound_recording_prints = refl

-- ---- what they leave

-- the same queue and memory, but for data and service cells of block 2 ..
the_same_is_left : Alike (λ block. block ≡ the_block 2)
    (whole_from tray_at_start sound_recording).run.card
    (whole_from tray_at_start unsound_recording).run.card
unfolding runs card_after ThatBlock tray_at_start
the_same_is_left = the_recordings_are_the_same.at_end

-- .. of which the state word does differ
the_sound_state_word : get_or (whole_from tray_at_start sound_recording).run.card.ram 186 0 ≡ 0x0002
unfolding run
the_sound_state_word = refl

the_unsound_state_word :
    get_or (whole_from tray_at_start unsound_recording).run.card.ram 186 0 ≡ 0x4101
unfolding run
the_unsound_state_word = refl
