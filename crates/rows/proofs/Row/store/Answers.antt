-- `rows::Row::store` meets its contract, by the laws of its loop. Assumes nothing.
use Rattle.std.proofs.Common.{rules}
use Rattle.rows.proofs.StoreLaws.{storing}
use Rattle.rows.proofs.Row.store.Goals as goal

pub loop-cell-preserved : goal.loop-cell-preserved
loop-cell-preserved c = search (rules, storing) depth 9

pub returns-after-loop-cell : goal.returns-after-loop-cell
returns-after-loop-cell c = search (rules, storing) depth 9

pub returns-in-loop-cell : goal.returns-in-loop-cell
returns-in-loop-cell c = search (rules, storing) depth 9
