-- `terminal::state::Core::open` meets its contract. Assumes nothing.
use Rattle.terminal.specs.Opening.{opened_core}
use Rattle.terminal.specs.State.{with_last, with_message, with_status}
use mathlib.Core.Path.{◌≡◌}
use mathlib.Core.Bool.{cond}
use Rattle.terminal.proofs.state.Core.open.Goals.{then-asked, else-asked}
use Rattle.terminal.proofs.state.Core.open.Goals as goal

pub returns : goal.returns
unfolding opened_core with_last with_message with_status
returns c =
    let asked = c.asked_of-asked.result in
    let last : c.if-asked.self ≡ cond asked.last c.args.self.now.last c.args.word.value =
    elim c.if-asked.branch [
      | then-asked w ↦ rw w.if-asked.true w.self-is
      | else-asked w ↦ rw w.if-asked.false w.self-is
    ] in
    rw (
      ← c.asked_of-asked.ensures,
      ← c.read_cell-table_word.ensures,
      last,
      c.opened_status-self.ensures,
      c.opened_message-message.ensures,
    )
