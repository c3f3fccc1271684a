-- `message::OpenMessage::further` meets its contract: three fields are set anew. Assumes nothing.
use mathlib.Core.Path.{refl}
use Rattle.message.specs.Message.{further}
use Rattle.message.proofs.state.OpenMessage.further.Goals as goal

pub returns : goal.returns
unfolding further
returns c = refl
