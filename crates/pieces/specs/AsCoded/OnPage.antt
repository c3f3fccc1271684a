-- What is left where a page was printed on. Definitions only. Assumes nothing.
use Rattle.std.specs.Prelude.{◌≡◌}
use Rattle.lines.specs.declared.Page.{Page}

-- the page is over the buffer that it was over, and what is left is what is wanted
pub record OnPage {Left : Type 0} (old new : Page) (left wanted : Left) : Type 0 where
  pub same_buffer : new.out.ghost_name ≡ old.out.ghost_name
  pub is_wanted : left ≡ wanted
