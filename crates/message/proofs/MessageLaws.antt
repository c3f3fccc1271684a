-- The laws of a message, open or not, as the code takes it apart. Assumes nothing.
use Rattle.std.proofs.Common.{Option, None, Some, MatchOption}
use mathlib.Core.Path.{◌≡◌}
use Rattle.message.specs.declared.state.OpenMessage.{OpenMessage}
use Rattle.message.specs.Message.{moved_message}

-- a table move: none stays none, and an open message is moved
pub moved_by : (message moved : Option OpenMessage) {Moves : OpenMessage → Type 0}
    → MatchOption message (moved ≡ None) Moves
    → ((held : OpenMessage) → Moves held → moved ≡ moved_message (Some held))
    → moved ≡ moved_message message
unfolding moved_message
moved_by None moved none moves = none
moved_by (Some held) moved held_moves moves = moves held held_moves
