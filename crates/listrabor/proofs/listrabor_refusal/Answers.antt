-- `listrabor::listrabor_refusal` meets its contract. Assumes nothing.
use borrow.Author.Rules.{rules}
use Rattle.listrabor.proofs.SizeLaws.{sizes}
use Rattle.listrabor.proofs.listrabor_refusal.Goals.{
  then-room-lt-LINE_ROOM-via-then-room-lt-LINE_ROOM,
  then-room-lt-LINE_ROOM-via-else-room-lt-LINE_ROOM+then-room-bytes,
}
use Rattle.listrabor.proofs.listrabor_refusal.Goals as goal

pub returns-then-words-ne-CARD_WORDS : goal.returns-then-words-ne-CARD_WORDS
returns-then-words-ne-CARD_WORDS c = search (rules, sizes) depth 9

pub returns-then-room-lt-LINE_ROOM : goal.returns-then-room-lt-LINE_ROOM
returns-then-room-lt-LINE_ROOM c =
    elim c.then-room-lt-LINE_ROOM.branch [
      | then-room-lt-LINE_ROOM-via-then-room-lt-LINE_ROOM w ↦ search (rules, sizes) depth 9
      | then-room-lt-LINE_ROOM-via-else-room-lt-LINE_ROOM+then-room-bytes w ↦
          search (rules, sizes) depth 9
    ]

pub returns : goal.returns
returns c = search (rules, sizes) depth 9
