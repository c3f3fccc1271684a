-- `controller::Controller::words_wanted`: no word of a reply stands above the highest cell. Assumes
-- nothing.
use Rattle.std.proofs.Common.{rules}
use Rattle.exchange.proofs.OrderLaws.{last_at_most}
use Rattle.controller.proofs.state.Controller.words_wanted.Goals as goal

pub wanted_at-requires : goal.wanted_at-requires
wanted_at-requires c = search (rules, last_at_most)
