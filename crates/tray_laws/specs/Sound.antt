-- A tray that no action of the library refuses by 1 or 4. Definitions only. Assumes nothing.
use Rattle.std.specs.Prelude.{◌≡◌, true, length}
use Rattle.card.specs.Memory.{card_words}
use Rattle.terminal.specs.Fitness.{fit_card}
use Rattle.tray.specs.Run.{Tray}

-- the memory is the card's 16,384 words and, once a setup has been read, the terminal is fit
pub record SoundTray (old : Tray) : Type 0 where
  pub whole_memory : length old.card.ram ≡ card_words
  pub fit : old.seen.setup ≡ true → fit_card old.card ≡ true
