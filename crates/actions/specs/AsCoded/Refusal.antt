-- Which number refuses, told before anything is done: the cut that the code makes. What it comes to
-- is said by `Actions`. Definitions only. Assumes nothing.
use Rattle.std.specs.Prelude.{Bool, cond, not, ℕ}
use Rattle.bus.specs.Limits.{is_station, are_flags}
use Rattle.card.specs.Memory.{card_blocks, the_block, is_block}

-- setup: 2 no station, 3 no block of the card, 8 spare bits in the flags
abbrev pub setup_refusal : ℕ → ℕ → ℕ → ℕ
setup_refusal station table flags =
    cond (not (is_station station)) 2
    (cond (not (is_block card_blocks (the_block table))) 3
    (cond (not (are_flags flags)) 8 0))

-- on the terminal alone: 4 not fit, then the action's own number where its input is not in order
abbrev pub alone_refusal : Bool → Bool → ℕ → ℕ
alone_refusal fit in_order number = cond (not fit) 4 (cond (not in_order) number 0)

-- over memory: 1 not the card's, then the same with 8
abbrev pub memory_refusal : Bool → Bool → Bool → ℕ
memory_refusal whole fit in_order = cond (not whole) 1 (alone_refusal fit in_order 8)
