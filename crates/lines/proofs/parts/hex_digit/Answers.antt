-- `lines::parts::hex_digit` meets its contract. Assumes nothing.
use Rattle.lines.proofs.PartLaws.{digit_at}
use Rattle.lines.proofs.parts.hex_digit.Goals as goal

pub returns : goal.returns
returns c = digit_at c.args.number
