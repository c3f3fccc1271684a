-- The laws of `specs/State.antt`: the parts of the state's text in turn, as the code puts them.
-- Assumes nothing.
use mathlib.Core.Path.{◌≡◌, refl}
use Rattle.std.proofs.Common.{Option, Some, None}
use mathlib.Core.Bool.{Bool, true, false}
use mathlib.Core.List.{List, [], ◌∷◌, ◌++◌, append_assoc, append-nil}
use Prim.Native.Nat.{ℕ, zero, suc, ◌+◌, ◌%◌}
use native.Mathlib.Nat.{add-zero}
use native.Mathlib.Numerals.{add-one}
use native.Mathlib.Omega.{arith}
use lib.ListN.{get_or}
use borrow.Author.Tests.{ne_eqb}
use Rattle.queue.specs.declared.Ring.{Ring}
use Rattle.queue.specs.Queue.{queue_places}
use Rattle.message.specs.declared.state.Stage.{Stage}
use Rattle.message.specs.declared.state.Stage.TheVariants.{
  Data,
  SecondCommand,
  AwaitingStatus,
  Skipping,
}
use Rattle.message.specs.declared.state.OpenMessage.{OpenMessage}
use Rattle.lines.specs.Digits.{hex_word, decimal}
use Rattle.lines.specs.Lines.{blank, newline}
use Rattle.lines.specs.declared.Page.{Page}
use Rattle.tray.specs.declared.run.Tray.{Tray as HeldTray}
use Rattle.shown.specs.Text.{bytes, Fits}
use Rattle.shown.specs.Item.{item, part, line}
use Rattle.tray_cells.specs.State.{
  line_name,
  second_text,
  stage_text,
  opening_text,
  fixed_text,
  progress_text,
  message_text,
  blocks_from,
  each_block,
  waiting_text,
  terminal_text,
  state_text,
}
use Rattle.shown.proofs.TextLaws.{fits_then, nothing_fits}

-- ---- one part

module _ {old new : Page} where
  pub line_a : (on : Bool) → on ≡ false → Fits old (bytes "line A ") new
      → Fits old (part "line " (line_name on)) new
  line_a on is fits = rw is fits

  pub line_b : (on : Bool) → on ≡ true → Fits old (bytes "line B ") new
      → Fits old (part "line " (line_name on)) new
  line_b on is fits = rw is fits

  module _ (second : Option ℕ) where
    pub no_second : second ≡ None → Fits old (bytes "second none ") new
        → Fits old (part "second " (second_text second)) new
    no_second is fits = rw is fits

    pub second_command : (command : ℕ) → second ≡ Some command
        → Fits old (part "second " (hex_word command)) new
        → Fits old (part "second " (second_text second)) new
    second_command command is fits = rw is fits

  module _ (stage : Stage) where
    pub stage_data : stage ≡ Data → Fits old (bytes "stage data\n") new
        → Fits old (line "stage " (stage_text stage)) new
    stage_data is fits = rw is fits

    pub stage_second : stage ≡ SecondCommand → Fits old (bytes "stage second\n") new
        → Fits old (line "stage " (stage_text stage)) new
    stage_second is fits = rw is fits

    pub stage_awaiting : stage ≡ AwaitingStatus
        → Fits old (bytes "stage awaiting\n") new
        → Fits old (line "stage " (stage_text stage)) new
    stage_awaiting is fits = rw is fits

    pub stage_skipping : stage ≡ Skipping → Fits old (bytes "stage skipping\n") new
        → Fits old (line "stage " (stage_text stage)) new
    stage_skipping is fits = rw is fits

  pub message_idle : (message : Option OpenMessage) → message ≡ None
      → Fits old (bytes "open none\n") new
      → Fits old (message_text message) new
  unfolding message_text
  message_idle message is fits = rw is fits

  pub waiting_none : (places : List ℕ) (ring : Ring) → ring.count ≡ 0
      → Fits old (bytes "waiting none\n") new
      → Fits old (waiting_text places ring) new
  unfolding waiting_text
  waiting_none places ring none fits = rw none fits

  pub state_none : (run : HeldTray) → run.seen.setup ≡ false
      → Fits old (bytes "terminal none\n") new
      → Fits old (state_text run) new
  unfolding state_text
  state_none run is fits = rw is fits

  pub state_some : (run : HeldTray) → run.seen.setup ≡ true
      → Fits old (terminal_text run.core run.queue) new
      → Fits old (state_text run) new
  unfolding state_text
  state_some run is fits = rw is fits

  pub message_open : (message : Option OpenMessage) (held : OpenMessage) → message ≡ Some held
      → Fits old (opening_text held ++ fixed_text held ++ progress_text held) new
      → Fits old (message_text message) new
  unfolding message_text
  message_open message held is fits = rw is fits

  pub waiting_some : (places : List ℕ) (ring : Ring) → (ring.count ≡ 0 → ⊥)
      → Fits old
      (item (bytes "waiting") (each_block (blocks_from places ring.start ring.count)) newline) new
      → Fits old (waiting_text places ring) new
  unfolding waiting_text
  waiting_some places ring some fits = rw (ne_eqb ring.count 0 some) fits

-- ---- the blocks that wait

block_more : (places : List ℕ) (start count : ℕ)
    → blocks_from places start (suc count)
    ≡ blocks_from places start count ++ (get_or places ((start + count) % queue_places) 0 ∷ [])
unfolding blocks_from
block_more places start zero = rw (add-zero start)
block_more places start (suc count) =
    let next : start + 1 + count ≡ start + suc count = omega arith in
    rw (block_more places (start + 1) count, next)

each_append : (blocks more : List ℕ)
    → each_block (blocks ++ more) ≡ each_block blocks ++ each_block more
unfolding each_block
each_append [] more = refl
each_append (block ∷ blocks) more =
    rw (each_append blocks more, append_assoc (decimal block) (each_block blocks) (each_block more))

each_one : (block : ℕ) → each_block (block ∷ []) ≡ (blank ∷ []) ++ decimal block
unfolding each_block
each_one block = rw (append-nil (decimal block))

pub blocks_none : (page : Page) (places : List ℕ) (start : ℕ)
    → Fits page (each_block (blocks_from places start 0)) page
unfolding each_block blocks_from
blocks_none page places start = nothing_fits page

-- one block more
pub blocks_more : {old between after new : Page} (places : List ℕ) (start index : ℕ)
    → Fits old (each_block (blocks_from places start index)) between
    → Fits between (blank ∷ []) after
    → Fits after (decimal (get_or places ((start + index) % queue_places) 0)) new
    → Fits old (each_block (blocks_from places start (index + 1))) new
blocks_more places start index before gap block =
    rw (
      add-one index,
      block_more places start index,
      each_append (blocks_from places start index)
          (get_or places ((start + index) % queue_places) 0 ∷ []),
      each_one (get_or places ((start + index) % queue_places) 0),
    )
    (fits_then before (fits_then gap block))
