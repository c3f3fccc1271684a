-- One broken message costs one block, at work: document 01's tray run beside the same with its
-- second data word unsound. All that is asked holds, the message error bit differs in one reply,
-- and after another message nothing differs. Assumes nothing.
use mathlib.Core.Path.{◌≡◌, refl}
use mathlib.Core.List.{List, [], ◌∷◌}
use Rattle.bus.specs.declared.word.Word.{Word}
use Rattle.bus.specs.Word.{word_of}
use Rattle.card.specs.Memory.{the_block}
use Rattle.terminal.specs.declared.state.Reply.TheVariants.{Silent, Status}
use Rattle.terminal.specs.State.{Card}
use Rattle.terminal.specs.Event.{
  Event,
  word,
  read_queue,
  host_write,
  replied,
  queue_word,
}
use Rattle.terminal.specs.Machine.{run}
use Rattle.terminal_laws.specs.OneBlock.{
  nothing,
  a_word,
  a_silence,
  closed,
  ThatBlock,
  SameAfter,
  BrokenMessage,
}
use Rattle.terminal_laws.proofs.OneBlock.Theorem.{one_block}
use Rattle.runs.proofs.OneBlock.Claim.{afresh_is_not_none}
use Rattle.runs.proofs.OneBlock.Sparing.{spared_from, spared_from_lem}
use Rattle.runs.proofs.Telling.{
  runs,
  command_a,
  unsound_a,
  data_a,
  silence_a,
  word1,
  word2,
  quiet,
  at_setup,
  answers,
}

-- ---- the two runs

-- the host's words of the tray run, and its command
unfoldable pub met : Card
met = run (host_write 0x0043 (0x4002 ∷ []) ∷ host_write 0x00BF (0x4003 ∷ []) ∷ []) at_setup

abbrev pub command : Word
command = word_of 0x06 0x2862 0x28

abbrev pub sound : List Event
sound = word1 ∷ word2 ∷ quiet ∷ []

abbrev pub unsound : List Event
unsound = word1 ∷ unsound_a 0x2222 0x50 ∷ quiet ∷ []

-- "transmit status word"; a message for the next block of the chain; the status again; the queue
abbrev pub after : List Event
after =
    command_a 0x2C02 0x70 ∷ silence_a 0x80
    ∷ command_a 0x2862 0x90 ∷ data_a 0x3333 0xA0 ∷ data_a 0x4444 0xB0 ∷ silence_a 0xC0
    ∷ command_a 0x2C02 0xD0 ∷ silence_a 0xE0
    ∷ read_queue ∷ read_queue ∷ []

-- ---- all that is asked holds

pub all_holds : BrokenMessage met command sound unsound after
unfolding runs met ThatBlock spared_from
all_holds =
    record {
      receives = refl;
      opens = afresh_is_not_none;
      calm_one = a_word refl (a_word refl (a_silence nothing));
      calm_two = a_word refl (a_word refl (a_silence nothing));
      both_over = closed refl refl;
      spared = spared_from_lem (the_block 2) after (run (word command ∷ sound) met) refl;
    }

only_block_2_differs : SameAfter (λ block. block ≡ the_block 2) after
    (run (word command ∷ sound) met) (run (word command ∷ unsound) met)
unfolding runs met ThatBlock
only_block_2_differs = one_block met command sound unsound after all_holds

-- ---- what the two runs answer

the_sound_run_answers : answers after (run (word command ∷ sound) met)
    ≡ replied Silent ∷ replied (Status 0x2800)
    ∷ replied Silent ∷ replied Silent ∷ replied Silent ∷ replied (Status 0x2800)
    ∷ replied Silent ∷ replied (Status 0x2800)
    ∷ queue_word 0x8002 ∷ queue_word 0x8003 ∷ []
unfolding runs met
the_sound_run_answers = refl

-- message error in the first status, and in that alone
the_unsound_run_answers : answers after (run (word command ∷ unsound) met)
    ≡ replied Silent ∷ replied (Status 0x2C00)
    ∷ replied Silent ∷ replied Silent ∷ replied Silent ∷ replied (Status 0x2800)
    ∷ replied Silent ∷ replied (Status 0x2800)
    ∷ queue_word 0x8002 ∷ queue_word 0x8003 ∷ []
unfolding runs met
the_unsound_run_answers = refl
