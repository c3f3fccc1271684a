-- What a reply puts on the bus: the values of each case of `Reply`, the status and then the words
-- sent, over a memory. Definitions only. Assumes nothing.
use Rattle.std.specs.Prelude.{List, [], ◌∷◌, ℕ}
use Rattle.card.specs.Memory.{card_blocks}
use Rattle.card.specs.Sent.{sent_part}
use Rattle.terminal.specs.declared.state.Reply.{Reply}
use Rattle.terminal.specs.declared.state.Reply.TheVariants.{Silent, Status, Words, Last}

-- nothing; the status alone; the status and the words of a block; the status and the last command
abbrev pub reply_words : List ℕ → Reply → List ℕ
reply_words ram Silent = []
reply_words ram (Status status) = status ∷ []
reply_words ram (Words status block count) = status ∷ sent_part card_blocks ram block count
reply_words ram (Last status command) = status ∷ command ∷ []
