-- `lines::Page::put_digits` calls itself for the tens. The measure is the places. Assumes nothing.
use Rattle.lines.proofs.Page.+put_digits.Given as goal

abbrev pub decreases-put_digits : goal.decreases-put_digits
decreases-put_digits l = l.places
