-- The text of the recorded cases: numbers in decimal, lines.
use Rattle.std.specs.Prelude.{ℕ, ◌+◌, ◌-◌, ◌*◌, List, [], ◌∷◌, ◌==◌}
use Rattle.wire.specs.Table.{pick}

-- the digits of a number, and a space (32) after each; 48 is `0`
unfoldable pub numbers_from : ℕ → List ℕ → List ℕ
numbers_from value [] = []
numbers_from value (b ∷ l) = pick (b == 32) (value ∷ numbers_from 0 l) (numbers_from (10 * value + (b - 48)) l)

abbrev pub numbers_in : List ℕ → List ℕ
numbers_in l = numbers_from 0 l

-- each line without the newline (10) that ends it
abbrev pub on_first : ℕ → List (List ℕ) → List (List ℕ)
on_first b [] = (b ∷ []) ∷ []
on_first b (line ∷ lines) = (b ∷ line) ∷ lines

unfoldable pub lines_in : List ℕ → List (List ℕ)
lines_in [] = []
lines_in (b ∷ l) = pick (b == 10) ([] ∷ lines_in l) (on_first b (lines_in l))
