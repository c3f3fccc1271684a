-- The definitions pinned, by computation; the other worked cases are rows of `vectors`. Assumes
-- nothing.
use mathlib.Core.Path.{◌≡◌, refl}
use mathlib.Core.Bool.{true, false}
use Rattle.bus.specs.Command.{words_of}
use Rattle.bus.specs.Status.{status_word, caught_status}

-- (e) of document 01
count_0_wants_32 : words_of 0x2860 ≡ 32
count_0_wants_32 = refl

every_bit_of_a_broadcast : status_word (caught_status 5 false 0xF862 62 true false) ≡ 0x291D
unfolding status_word caught_status
every_bit_of_a_broadcast = refl
