-- `lines::Page::numbers_line` meets its contract, with room and without. Assumes nothing.
use Rattle.std.proofs.Common.{rules}
use Rattle.lines.proofs.LineLaws.{numbers_parts, with_room, without_room}
use Rattle.lines.proofs.Page.numbers_line.Goals as goal

pub returns-then-not-has_room : goal.returns-then-not-has_room
returns-then-not-has_room c = search (rules, without_room)

pub returns : goal.returns
returns c = search (rules, with_room, numbers_parts)
