-- One broken message costs one block, at work: document 01's message beside the same cut off by the
-- next command. That is a transmit command, and every answer is the same; or it is "transmit last
-- command", which shows message error. All that is asked holds of both. Assumes nothing.
use mathlib.Core.Path.{◌≡◌, refl}
use mathlib.Core.List.{List, [], ◌∷◌}
use lib.ListN.{replicate}
use Rattle.bus.specs.Word.{word_of}
use Rattle.card.specs.Memory.{card_blocks, the_block}
use Rattle.card.specs.Sent.{sent_part}
use Rattle.terminal.specs.declared.state.Reply.TheVariants.{Silent, Words, Last}
use Rattle.terminal.specs.State.{Card}
use Rattle.terminal.specs.Event.{Event, word, read_queue, replied, queue_word}
use Rattle.terminal.specs.Machine.{run}
use Rattle.terminal_laws.specs.OneBlock.{
  nothing,
  a_word,
  a_silence,
  superseded,
  ThatBlock,
  SameAfter,
  BrokenMessage,
}
use Rattle.terminal_laws.proofs.OneBlock.Theorem.{one_block}
use Rattle.runs.proofs.OneBlock.Sparing.{spared_from, spared_from_lem}
use Rattle.runs.proofs.OneBlock.Claim.{
  command,
  sound,
  afresh_is_not_none,
  keeping_is_not_none,
}
use Rattle.runs.proofs.Telling.{
  runs,
  command_a,
  data_a,
  silence_a,
  put,
  word1,
  chained,
  words_at,
  answers,
}

-- ---- the two runs

-- the five chains, and two words to send in block 10
unfoldable met : Card
met = run (put 10 0 0xAAAA ∷ put 10 1 0xBBBB ∷ []) chained

-- the one run has `sound`; in the other the second word and the silence are missing
abbrev cut : List Event
cut = word1 ∷ []

-- a transmit message; the last command; the queue
abbrev by_transmit : List Event
by_transmit =
    command_a 0x2C62 0x70 ∷ silence_a 0x80
    ∷ command_a 0x2C12 0x90 ∷ silence_a 0xA0
    ∷ read_queue ∷ read_queue ∷ []

-- the last command; a transmit message of station 6, which opens nothing here, and the last command
-- again; a transmit message, and the last command once more; the queue
abbrev by_last : List Event
by_last =
    command_a 0x2C12 0x70 ∷ silence_a 0x80
    ∷ command_a 0x3461 0x90 ∷ silence_a 0xA0
    ∷ command_a 0x3000 0xB0 ∷ data_a 0x5555 0xC0 ∷ silence_a 0xD0
    ∷ command_a 0x2C12 0xE0 ∷ silence_a 0xF0
    ∷ command_a 0x2C62 0x100 ∷ silence_a 0x110
    ∷ command_a 0x2C12 0x120 ∷ silence_a 0x130
    ∷ read_queue ∷ read_queue ∷ []

-- ---- superseded by a transmit command

all_holds_by_transmit : BrokenMessage met command sound cut by_transmit
unfolding runs met ThatBlock spared_from
all_holds_by_transmit =
    record {
      receives = refl;
      opens = afresh_is_not_none;
      calm_one = a_word refl (a_word refl (a_silence nothing));
      calm_two = a_word refl nothing;
      both_over = superseded (word_of 0x06 0x2C62 0x70) afresh_is_not_none refl;
      spared = spared_from_lem (the_block 2) by_transmit (run (word command ∷ sound) met) refl;
    }

only_block_2_differs_by_transmit : SameAfter (λ block. block ≡ the_block 2) by_transmit
    (run (word command ∷ sound) met) (run (word command ∷ cut) met)
unfolding runs met ThatBlock
only_block_2_differs_by_transmit = one_block met command sound cut by_transmit all_holds_by_transmit

the_sound_run_answers_by_transmit : answers by_transmit (run (word command ∷ sound) met)
    ≡ replied Silent ∷ replied (Words 0x2800 (the_block 10) 2)
    ∷ replied Silent ∷ replied (Last 0x2800 0x2C62)
    ∷ queue_word 0x8002 ∷ queue_word 0x800A ∷ []
unfolding runs met
the_sound_run_answers_by_transmit = refl

-- the same: the transmit command makes the status anew, with message error 0, also for code 18
the_cut_run_answers_by_transmit : answers by_transmit (run (word command ∷ cut) met)
    ≡ replied Silent ∷ replied (Words 0x2800 (the_block 10) 2)
    ∷ replied Silent ∷ replied (Last 0x2800 0x2C62)
    ∷ queue_word 0x8002 ∷ queue_word 0x800A ∷ []
unfolding runs met
the_cut_run_answers_by_transmit = refl

-- the first data word is the same; then the second, the state word, closing time and ticks
the_sound_run_leaves_block_2 :
    words_at (128 ∷ 129 ∷ 186 ∷ 188 ∷ 189 ∷ []) (run (word command ∷ sound) met).ram
    ≡ 0x1111 ∷ 0x2222 ∷ 0x0002 ∷ 0x0064 ∷ 0x003C ∷ []
unfolding runs met
the_sound_run_leaves_block_2 = refl

-- code 7, at the time of the command that supersedes
the_cut_run_leaves_block_2 :
    words_at (128 ∷ 129 ∷ 186 ∷ 188 ∷ 189 ∷ [])
    (run (word command ∷ word1 ∷ command_a 0x2C62 0x70 ∷ []) met).ram
    ≡ 0x1111 ∷ 0x0000 ∷ 0x4701 ∷ 0x0070 ∷ 0x0048 ∷ []
unfolding runs met
the_cut_run_leaves_block_2 = refl

-- ---- superseded by "transmit last command"

all_holds_by_last : BrokenMessage met command sound cut by_last
unfolding runs met ThatBlock spared_from
all_holds_by_last =
    record {
      receives = refl;
      opens = afresh_is_not_none;
      calm_one = a_word refl (a_word refl (a_silence nothing));
      calm_two = a_word refl nothing;
      both_over = superseded (word_of 0x06 0x2C12 0x70) keeping_is_not_none refl;
      spared = spared_from_lem (the_block 2) by_last (run (word command ∷ sound) met) refl;
    }

only_block_2_differs_by_last : SameAfter (λ block. block ≡ the_block 2) by_last
    (run (word command ∷ sound) met) (run (word command ∷ cut) met)
unfolding runs met ThatBlock
only_block_2_differs_by_last = one_block met command sound cut by_last all_holds_by_last

the_sound_run_answers_by_last : answers by_last (run (word command ∷ sound) met)
    ≡ replied Silent ∷ replied (Last 0x2800 0x2862)
    ∷ replied Silent ∷ replied Silent ∷ replied Silent ∷ replied Silent ∷ replied Silent
    ∷ replied Silent ∷ replied (Last 0x2800 0x2862)
    ∷ replied Silent ∷ replied (Words 0x2800 (the_block 10) 2)
    ∷ replied Silent ∷ replied (Last 0x2800 0x2C62)
    ∷ queue_word 0x8002 ∷ queue_word 0x800A ∷ []
unfolding runs met
the_sound_run_answers_by_last = refl

-- message error in the first two replies of code 18, and not after the transmit message
the_cut_run_answers_by_last : answers by_last (run (word command ∷ cut) met)
    ≡ replied Silent ∷ replied (Last 0x2C00 0x2862)
    ∷ replied Silent ∷ replied Silent ∷ replied Silent ∷ replied Silent ∷ replied Silent
    ∷ replied Silent ∷ replied (Last 0x2C00 0x2862)
    ∷ replied Silent ∷ replied (Words 0x2800 (the_block 10) 2)
    ∷ replied Silent ∷ replied (Last 0x2800 0x2C62)
    ∷ queue_word 0x8002 ∷ queue_word 0x800A ∷ []
unfolding runs met
the_cut_run_answers_by_last = refl

-- the words of block 10, which both runs send
both_runs_send_the_same_words :
    sent_part card_blocks (run by_last (run (word command ∷ sound) met)).ram (the_block 10) 2
    ∷ sent_part card_blocks (run by_last (run (word command ∷ cut) met)).ram (the_block 10) 2
    ∷ []
    ≡ replicate 2 (0xAAAA ∷ 0xBBBB ∷ [])
unfolding runs met
both_runs_send_the_same_words = refl
