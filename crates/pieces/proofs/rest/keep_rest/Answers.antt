-- `pieces::rest::keep_rest` meets its contract. Assumes nothing.
use Rattle.std.proofs.Common.{rules}
use Rattle.pieces.proofs.KeepLaws.{keeping}
use Rattle.pieces.proofs.rest.keep_rest.Goals as goal
use Rattle.pieces.proofs.rest.keep_rest.Goals.{
  then-window-end-via-then-window-end,
  then-window-end-via-else-window-end+then-end-at,
}

pub returns-then-window-end : goal.returns-then-window-end
returns-then-window-end c =
    elim c.then-window-end.branch [
      | then-window-end-via-then-window-end w ↦ search (rules, keeping)
      | then-window-end-via-else-window-end+then-end-at w ↦ search (rules, keeping)
    ]

pub returns : goal.returns
returns c = search (rules, keeping)
