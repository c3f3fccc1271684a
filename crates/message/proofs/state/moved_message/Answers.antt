-- `message::state::moved_message` meets its contract, by the cases of the message. Assumes
-- nothing.
use borrow.Author.Rules.{rules}
use Rattle.message.specs.Message.{moved_message}
use Rattle.message.proofs.MessageLaws.{moved_by}
use Rattle.message.proofs.state.moved_message.Goals as goal

pub returns : goal.returns
unfolding moved_message
returns c = moved_by _ _ c.map.ensures.cases (λ held moves. search rules)
