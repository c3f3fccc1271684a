-- The laws of the lines in `specs/Run.antt`: what each answer prints. Assumes nothing.
use Rattle.std.proofs.Common.{
  ◌≡◌,
  ℕ,
  ◌≤◌,
  Bool,
  true,
  false,
  cond,
  eqb,
  List,
  [],
  ◌∷◌,
  length,
  take,
  drop,
  refl,
  arith,
  length-take,
  eqb-true,
}
use Rattle.card.specs.declared.place.Block.{Block}
use Rattle.card.specs.Memory.{data_cells, card_blocks, the_cell, word_address}
use Rattle.card.specs.Part.{shown_part}
use Rattle.card.specs.Sent.{sent_refusal, sent_part}
use Rattle.card.proofs.PartLaws.{shown}
use Rattle.terminal.specs.declared.state.Answer.{Answer}
use Rattle.terminal.specs.declared.state.Answer.TheVariants.{Replied, QueueWord}
use Rattle.terminal.specs.declared.state.Reply.{Reply}
use Rattle.terminal.specs.declared.state.Reply.TheVariants.{Silent, Status, Words, Last}
use Rattle.lines.specs.Lines.{queue_line, status_line}
use Rattle.lines.specs.Page.{Leaves, line_on}
use Rattle.lines.specs.Written.{Put, line_room, most_words, status_written}
use Rattle.lines.specs.declared.Page.{Page}
use Rattle.lines.proofs.LineLaws.{nothing_left}
use Rattle.lines.proofs.WrittenLaws.{few_words}
use Rattle.tray.specs.Run.{reply_line, answer_line}

-- ---- the line of a reply

-- no reply sends more than 32 words
pub few_sent : (ram : List ℕ) (block : Block) (count : ℕ)
    → length (sent_part card_blocks ram block count) ≤ most_words
unfolding shown_part
few_sent ram block count = go (eqb number 0) refl where
  number : ℕ
  number = sent_refusal card_blocks (length ram) block count

  go : (test : Bool) → eqb number 0 ≡ test
      → length (cond test (take count (drop (word_address block (the_cell 0)) ram)) []) ≤ most_words
  go true is =
      omega (
        arith,
        (shown card_blocks data_cells (length ram) block count (eqb-true number 0 is)).at_most,
        length-take count (drop (word_address block (the_cell 0)) ram),
      )
  go false is = omega arith

module _ (old : Page) (ram : List ℕ) (reply : Reply) where
  abbrev wanted : Put
  wanted = line_on old (reply_line ram reply)

  pub silent_line : reply ≡ Silent → Leaves old old wanted
  silent_line is = rw is (nothing_left line_room old)

  -- of a few words, so that none is too many
  few_line : (new : Page) (status : ℕ) (words : List ℕ) → length words ≤ most_words
      → Leaves old new (status_written old.out.now old.at status words)
      → Leaves old new (line_on old (status_line status words))
  few_line new status words few printed =
      rw (few_words old.out.now old.at status words few) at printed

  module _ (new : Page) where
    pub status_line_lem : (status : ℕ) → reply ≡ Status status
        → Leaves old new (status_written old.out.now old.at status []) → Leaves old new wanted
    status_line_lem status is printed = rw is (few_line new status [] (omega arith) printed)

    pub words_line : (status : ℕ) (block : Block) (count : ℕ) (words : List ℕ)
        → reply ≡ Words status block count
        → words ≡ sent_part card_blocks ram block count
        → Leaves old new (status_written old.out.now old.at status words) → Leaves old new wanted
    words_line status block count words is is_words printed =
        rw is
        (few_line new status (sent_part card_blocks ram block count) (few_sent ram block count)
        (rw is_words at printed))

    pub last_line : (status command : ℕ) → reply ≡ Last status command
        → Leaves old new (status_written old.out.now old.at status (command ∷ []))
        → Leaves old new wanted
    last_line status command is printed =
        rw is (few_line new status (command ∷ []) (omega arith) printed)

pub ruleset reply_lines = (silent_line, status_line_lem, words_line, last_line)

-- ---- the line of an answer

module _ (old new : Page) (ram : List ℕ) (answer : Answer) where
  pub replied_line : (reply : Reply) → answer ≡ Replied reply
      → Leaves old new (line_on old (reply_line ram reply))
      → Leaves old new (line_on old (answer_line ram answer))
  replied_line reply is printed = rw is printed

  pub queue_line_lem : (word : ℕ) → answer ≡ QueueWord word
      → Leaves old new (line_on old (queue_line word))
      → Leaves old new (line_on old (answer_line ram answer))
  queue_line_lem word is printed = rw is printed

pub ruleset answer_lines = (replied_line, queue_line_lem)
