-- `listrabor::listrabor_run` meets its contract. Assumes nothing.
use borrow.Author.Rules.{rules}
use Rattle.listrabor.proofs.RunLaws.{runs}
use Rattle.listrabor.proofs.listrabor_run.Goals as goal

pub returns-then-is_some : goal.returns-then-is_some
returns-then-is_some c = search (rules, runs) depth 9

pub returns : goal.returns
returns c = search (rules, runs) depth 9
