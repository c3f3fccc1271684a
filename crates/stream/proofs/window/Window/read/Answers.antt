-- `stream::window::Window::read` meets its contract: the part that was lent comes back in its
-- place. Assumes nothing.
use Rattle.std.proofs.Common.{rules, arith, Ok, ◌≡◌, ◌≤◌, length}
use Rattle.stream.proofs.WindowLaws.{read_on}
use Rattle.stream.proofs.window.Window.read.Goals as goal

pub returns-clause-read : goal.returns-clause-read
returns-clause-read g c =
    let inside : c.self.inside.have ≤ length c.self.inside.bytes =
    omega (arith, c.self.told, c.self.invariant) in
    -- so many bytes are those of a read that did not fail, whatever the code makes of its answer
    let came : c.read.result ≡ Ok c.in_ok-count.count = grind arith in
    read_on c.self.inside.bytes c.read.new.buf c.self.inside.have _ c.in_ok-count.count
    c.self.inside.ended _ (g.I.Read.remaining c.args.input.now)
    (g.I.Read.remaining c.read.new.self) c.self.view_is inside c.self.told
    (rw came at c.read.ensures.bound).0 (search rules) (rw came at c.read.ensures.bytes)
