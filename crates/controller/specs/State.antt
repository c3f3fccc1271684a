-- What the controller holds: rule 1 of K10. Definitions only. Assumes nothing.
use Rattle.std.specs.Prelude.{Bool, true, false, List, ℕ, Option, Some, None}
use Rattle.card.specs.Memory.{words_in}
use Rattle.exchange.specs.declared.order.Order.{Order}
use Rattle.exchange.specs.declared.state.Exchange.{Exchange}
use Rattle.controller.specs.declared.state.Came.{Came}
use Rattle.controller.specs.declared.state.OpenMessage.{OpenMessage}
use Rattle.controller.specs.declared.state.Controller.{Controller}

-- the controller's own memory keeps its size, whatever a card's is: a control word has eight bits
-- for the block
abbrev pub desk_blocks : ℕ
desk_blocks = 256

abbrev pub desk_words : ℕ
desk_words = words_in desk_blocks

-- what became of a message: its fault code, 0 for none, and the mark
abbrev pub came : ℕ → Bool → Option Came
came code mark = Some (record { code = code; mark = mark })

-- the controller and its memory
pub record Desk : Type 0 where
  pub state : Controller
  pub ram : List ℕ

abbrev pub desk : Controller → List ℕ → Desk
desk state ram = record { state = state; ram = ram }

abbrev pub is_idle : Option OpenMessage → Bool
is_idle None = true
is_idle (Some message) = false

-- setup, by any control word and count: its message is due, nothing is open
abbrev pub at_setup : ℕ → ℕ → Controller
at_setup control count =
    record { control = control; count = count; due = true; result = None; message = None }

-- the open message of an order, answered so far: its first silence is behind it
abbrev pub open_back : Order → Exchange → Option OpenMessage
open_back order so_far = Some (record { order = order; progress = Some so_far })

-- the state with another message
unfoldable pub with_message : Option OpenMessage → Controller → Controller
with_message message state = record state { message = message }
