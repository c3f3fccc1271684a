-- `lines::Page::text` meets its contract, with room and without. Assumes nothing.
use Rattle.std.proofs.Common.{rules}
use Rattle.lines.proofs.LineLaws.{with_room, without_room, no_bytes, bytes_fit}
use Rattle.lines.proofs.Page.text.Goals as goal
use Rattle.lines.proofs.Page.text.Goals.{
  else-not-is_empty-via-then-not-is_empty+else-has_room,
  else-not-is_empty-via-else-not-is_empty,
}

pub put-requires : goal.put-requires
put-requires c = search (rules, bytes_fit)

pub returns-then-has_room : goal.returns-then-has_room
returns-then-has_room c = search (rules, with_room)

pub returns-else-not-is_empty : goal.returns-else-not-is_empty
returns-else-not-is_empty c =
    elim c.else-not-is_empty.branch [
      | else-not-is_empty-via-then-not-is_empty+else-has_room w ↦ search (rules, without_room)
      | else-not-is_empty-via-else-not-is_empty w ↦ search (rules, no_bytes)
    ]
