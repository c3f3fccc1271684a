-- `listrabor::listrabor_room` meets its contract. Assumes nothing.
use borrow.Author.Rules.{rules}
use Rattle.listrabor.proofs.SizeLaws.{sizes}
use Rattle.listrabor.proofs.listrabor_room.Goals as goal

pub returns-then-bytes-gt-LONGEST : goal.returns-then-bytes-gt-LONGEST
returns-then-bytes-gt-LONGEST c = search (rules, sizes) depth 9

pub overflow_mul-result : goal.overflow_mul-result
overflow_mul-result c = search (rules, sizes) depth 9

pub overflow_add-result : goal.overflow_add-result
overflow_add-result c = search (rules, sizes) depth 9

pub returns : goal.returns
returns c = search (rules, sizes) depth 9
