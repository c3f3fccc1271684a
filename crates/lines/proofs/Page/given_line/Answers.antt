-- `lines::Page::given_line` meets its contract, with room and without. Assumes nothing.
use Rattle.std.proofs.Common.{rules}
use Rattle.lines.proofs.LineLaws.{given_parts, given_few, given_many, with_room, without_room}
use Rattle.lines.proofs.Page.given_line.Goals as goal
use Rattle.lines.proofs.Page.given_line.Goals.{
  then-words-gt-MOST_GIVEN-via-then-words-gt-MOST_GIVEN,
  then-words-gt-MOST_GIVEN-via-else-words-gt-MOST_GIVEN+then-not-has_room,
}

pub returns-then-words-gt-MOST_GIVEN : goal.returns-then-words-gt-MOST_GIVEN
returns-then-words-gt-MOST_GIVEN c =
    elim c.then-words-gt-MOST_GIVEN.branch [
      | then-words-gt-MOST_GIVEN-via-then-words-gt-MOST_GIVEN w ↦ search (rules, given_many)
      | then-words-gt-MOST_GIVEN-via-else-words-gt-MOST_GIVEN+then-not-has_room w ↦
          search (rules, given_few, without_room)
    ]

pub returns : goal.returns
returns c = search (rules, given_few, with_room, given_parts)
