-- `lines::Page::status_line` meets its contract, with room and without. Assumes nothing.
use Rattle.std.proofs.Common.{rules}
use Rattle.lines.proofs.LineLaws.{status_parts, status_few, status_many, with_room, without_room}
use Rattle.lines.proofs.Page.status_line.Goals as goal
use Rattle.lines.proofs.Page.status_line.Goals.{
  then-words-gt-MOST_WORDS-via-then-words-gt-MOST_WORDS,
  then-words-gt-MOST_WORDS-via-else-words-gt-MOST_WORDS+then-not-has_room,
}

pub returns-then-words-gt-MOST_WORDS : goal.returns-then-words-gt-MOST_WORDS
returns-then-words-gt-MOST_WORDS c =
    elim c.then-words-gt-MOST_WORDS.branch [
      | then-words-gt-MOST_WORDS-via-then-words-gt-MOST_WORDS w ↦ search (rules, status_many)
      | then-words-gt-MOST_WORDS-via-else-words-gt-MOST_WORDS+then-not-has_room w ↦
          search (rules, status_few, without_room)
    ]

pub returns : goal.returns
returns c = search (rules, status_few, with_room, status_parts)
