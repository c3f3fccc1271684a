-- Two queues that are the same stay so: a message closes, the oldest entry leaves. The runs meet
-- the queue by these laws alone. Assumes nothing.
use mathlib.Core.Path.{◌≡◌, refl, ap}
use Rattle.queue.specs.declared.Queue.{Queue}
use Rattle.queue.specs.Queue.{oldest_word, without_oldest, queue}
use Rattle.message.specs.declared.asked.Asked.{Asked}
use Rattle.message.specs.declared.state.OpenMessage.{OpenMessage}
use Rattle.terminal.specs.Closing.{closed_queue}
use Rattle.terminal_laws.specs.OneBlock.{SameQueue}

pub same_queue : (here : Queue) → SameQueue here here
same_queue here = record { entries = refl }

module _ {here there : Queue} (alike : SameQueue here there) where
  pub same_closed : (asked : Asked) (message : OpenMessage)
      → SameQueue (closed_queue asked message here) (closed_queue asked message there)
  same_closed asked message =
      record {
        entries = ap (λ (held : Queue). closed_queue asked message held) alike.entries;
      }

  -- what a read gives, and what it leaves
  pub same_oldest : oldest_word here ≡ oldest_word there
  same_oldest = ap oldest_word alike.entries

  pub same_without : SameQueue (queue here.places (without_oldest here.ring))
      (queue there.places (without_oldest there.ring))
  same_without =
      record {
        entries =
            ap (λ (held : Queue). queue held.places (without_oldest held.ring))
            alike.entries;
      }
