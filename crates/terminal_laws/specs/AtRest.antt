-- A card that is whole and fit, and one that is at rest too. Definitions only. Assumes nothing.
use Rattle.std.specs.Prelude.{◌≡◌, true, length, None}
use Rattle.card.specs.Memory.{card_words}
use Rattle.terminal.specs.State.{Card}
use Rattle.terminal.specs.Fitness.{fit_card}

-- the memory has the card's words and the terminal is fit: refusals 1 and 4 are not given
pub record WholeAndFit (old : Card) : Type 0 where
  pub whole_memory : length old.ram ≡ card_words
  pub fit : fit_card old ≡ true

-- .. and no message is open
pub record AtRest (old : Card) : Type 0 where
  pub whole_and_fit : WholeAndFit old
  pub idle : old.core.message ≡ None
