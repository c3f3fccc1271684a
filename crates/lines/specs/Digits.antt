-- Numbers as text, a byte for each digit, the high digit first. `0` to `9` are the bytes 48 to 57,
-- `A` to `F` are 65 to 70. Definitions only. Assumes nothing.
use Rattle.std.specs.Prelude.{cond, List, [], ◌∷◌, ◌++◌, ℕ, zero, suc, ◌+◌, ◌/◌, ◌%◌, ltb}

-- ---- hex, capitals

-- the digit of a number below 16
unfoldable pub hex_digit : ℕ → ℕ
hex_digit number = cond (ltb number 10) (48 + number) (55 + number)

-- two digits
unfoldable pub hex_byte : ℕ → List ℕ
hex_byte byte = hex_digit (byte / 16 % 16) ∷ hex_digit (byte % 16) ∷ []

-- four digits
unfoldable pub hex_word : ℕ → List ℕ
hex_word word =
    hex_digit (word / 4096 % 16) ∷ hex_digit (word / 256 % 16)
    ∷ hex_digit (word / 16 % 16) ∷ hex_digit (word % 16) ∷ []

-- ---- decimal, no leading zeros

-- with so many places at the most: the tens, where there are any, then the last digit
unfoldable pub decimal_by : ℕ → ℕ → List ℕ
decimal_by zero number = []
decimal_by (suc places) number =
    cond (ltb number 10)
    ((48 + number) ∷ [])
    (decimal_by places (number / 10) ++ ((48 + number % 10) ∷ []))

-- twenty places hold every number of 64 bits
abbrev pub decimal_places : ℕ
decimal_places = 20

unfoldable pub decimal : ℕ → List ℕ
decimal number = decimal_by decimal_places number
