-- `lines::Page::put` meets its contract: what is copied is stored. Assumes nothing.
use mathlib.Core.Path.{refl}
use Rattle.lines.proofs.PartLaws.{copied, wrote_bytes}
use Rattle.lines.proofs.Page.put.Goals as goal

pub returns : goal.returns
returns c =
    wrote_bytes c.args.bytes.now refl
    (rw c.copy_from_slice.ensures.after
    (copied c.args.self.now.out.now c.args.self.now.at _ c.args.bytes.now refl c.requires))
    refl
