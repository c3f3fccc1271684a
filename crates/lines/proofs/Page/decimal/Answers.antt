-- `lines::Page::decimal` meets its contract, with room and without. Assumes nothing.
use Rattle.std.proofs.Common.{rules}
use Rattle.lines.proofs.LineLaws.{with_room, without_room}
use Rattle.lines.proofs.Page.decimal.Goals as goal

pub returns-then-has_room : goal.returns-then-has_room
returns-then-has_room c = search (rules, with_room)

pub returns-else-has_room : goal.returns-else-has_room
returns-else-has_room c = search (rules, without_room)
