-- Words of digits, each a list of bytes: bytes in hexadecimal, and a number below 2^64 in decimal. Digits of both cases are taken, and so are
-- leading zeros of a number; a sign, a space or no digit at all is wrong.
use Rattle.std.specs.Prelude.{ℕ, ◌+◌, ◌-◌, ◌*◌, ◌%◌, ◌^◌, Bool, false, not, ◌||◌, Option, None, Some, List, [], ◌∷◌, ltb, leb, eqb, length, get_or}
use Rattle.wire.specs.Table.{pick}

-- ---- hexadecimal

-- what a digit stands for, `0` to `9` (48 to 57), `A` to `F` (65 to 70), `a` to `f` (97 to 102); 16 for what is none
unfoldable pub hex_digit : ℕ → ℕ
hex_digit b =
    pick (ltb b 48) 16
    (pick (leb b 57) (b - 48)
    (pick (ltb b 65) 16
    (pick (leb b 70) (b - 55)
    (pick (ltb b 97) 16
    (pick (leb b 102) (b - 87) 16)))))

-- the byte of the two digits from a place on
unfoldable pub hex_byte : List ℕ → ℕ → ℕ
hex_byte word i = 16 * (hex_digit (get_or word i 0) % 16) + hex_digit (get_or word (i + 1) 0) % 16

-- a byte of the word is no digit
unfoldable pub not_hex : List ℕ → Bool
not_hex [] = false
not_hex (b ∷ word) = leb 16 (hex_digit b) || not_hex word

-- the word is not so many digits
unfoldable pub hex_wrong : ℕ → List ℕ → Bool
hex_wrong digits word = not (eqb (length word) digits) || not_hex word

-- ---- decimal: its digits are the hexadecimal ones below 10

-- after digits that say `value`: each digit in turn; wrong is what is no digit, and a number of 2^64 or more
unfoldable pub number_from : ℕ → List ℕ → Option ℕ
number_from value [] = Some value
number_from value (b ∷ word) =
    pick (leb 10 (hex_digit b)) None
    (pick (leb (2 ^ 64) (10 * value + hex_digit b)) None (number_from (10 * value + hex_digit b) word))

-- no digit at all is wrong
unfoldable pub number_of_word : List ℕ → Option ℕ
number_of_word [] = None
number_of_word (b ∷ word) = number_from 0 (b ∷ word)
