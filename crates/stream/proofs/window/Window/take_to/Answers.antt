-- `stream::window::Window::take_to` meets its contract: the rest moves to the front. Assumes
-- nothing.
use Rattle.std.proofs.Common.{ap, arith, ◌∙◌, ◌≤◌, length}
use Rattle.stream.specs.AsCoded.Turns.{behind}
use Rattle.stream.proofs.WindowLaws.{taken_to, still_inside}
use Rattle.stream.proofs.window.Window.take_to.Goals as goal

pub invariant_of-self : goal.invariant_of-self
invariant_of-self c =
    let inside : c.self.inside.have ≤ length c.self.inside.bytes =
    omega (arith, c.self.told, c.self.invariant) in
    still_inside c.self.inside.bytes c.args.at c.self.inside.have _ _ c.self.inside.ended inside
    c.keep_rest-self-inside.ensures 65536 c.self.invariant

pub returns : goal.returns
returns c =
    let inside : c.self.inside.have ≤ length c.self.inside.bytes =
    omega (arith, c.self.told, c.self.invariant) in
    taken_to c.self.inside.bytes c.args.at c.self.inside.have _ _ c.self.inside.ended inside
    c.keep_rest-self-inside.ensures
    ∙ ap (behind c.args.at) c.self.view_is
