-- `desk::reading::own_stands` meets its contract, by the cases of its tests. Assumes nothing.
use Rattle.std.proofs.Common.{rules}
use Rattle.desk.proofs.ReadingLaws.{own_refusals}
use Rattle.desk.proofs.reading.own_stands.Goals as goal

pub returns-then-left-lt3 : goal.returns-then-left-lt3
returns-then-left-lt3 c = search (rules, own_refusals)

pub returns-then-told-size : goal.returns-then-told-size
returns-then-told-size c = search (rules, own_refusals)

pub returns-then-left-size : goal.returns-then-left-size
returns-then-left-size c = search (rules, own_refusals)

pub returns-then-not-due : goal.returns-then-not-due
returns-then-not-due c = search (rules, own_refusals)

pub returns : goal.returns
returns c = search (rules, own_refusals)
