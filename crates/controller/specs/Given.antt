-- The words to give, as a part of the controller's memory: a command and 32 words at the most.
-- Definitions only. Assumes nothing.
use Rattle.std.specs.Prelude.{List, [], ℕ, Option, Some, None}
use Rattle.card.specs.declared.place.Block.{Block}
use Rattle.card.specs.Part.{part_refusal, shown_part}
use Rattle.controller.specs.declared.start.Given.{Given}
use Rattle.controller.specs.State.{desk_blocks}

abbrev pub most_given : ℕ
most_given = 33

-- 1 where the RAM is not the controller's; 8 for a block above 255 or a count outside 1 to 33
abbrev pub given_refusal : ℕ → Block → ℕ → ℕ
given_refusal size block count = part_refusal desk_blocks most_given size block count

-- the words from the block's cell 0 on; none where the part is refused
abbrev pub given_part : List ℕ → Block → ℕ → List ℕ
given_part ram block count = shown_part desk_blocks most_given ram block count

-- what a start puts on the bus
abbrev pub given_words : List ℕ → Option Given → List ℕ
given_words ram None = []
given_words ram (Some given) = given_part ram given.block given.count
