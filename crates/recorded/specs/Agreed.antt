-- Which lines of a text agree, and how many.
use Rattle.std.specs.Prelude.{ℕ, ◌+◌, Bool, true, false, ◌&&◌, List, [], ◌∷◌, drop, ◌==◌, slice_index}
use Rattle.wire.specs.Table.{pick}
use Rattle.text.specs.Marks.{before, past}
use Rattle.recorded.specs.Text.{numbers_in}
use Rattle.recorded.specs.Calls.{call_row}

unfoldable pub same_numbers : List ℕ → List ℕ → Bool
same_numbers [] [] = true
same_numbers [] (y ∷ ys) = false
same_numbers (x ∷ xs) [] = false
same_numbers (x ∷ xs) (y ∷ ys) = x == y && same_numbers xs ys

-- A case has three groups with a semicolon (59) between two: the call and what it is given, the memory that is lent, and the recorded row.
abbrev pub first_group : List ℕ → List ℕ
first_group line = numbers_in (before 59 line)

abbrev pub lent_group : List ℕ → List ℕ
lent_group line = numbers_in (before 59 (past 59 line))

abbrev pub recorded_group : List ℕ → List ℕ
recorded_group line = numbers_in (past 59 (past 59 line))

-- a case agrees over a file if its recorded row is the call's
unfoldable pub agrees : List ℕ → List ℕ → Bool
agrees s line = same_numbers (recorded_group line) (call_row (slice_index (first_group line) 0) s (drop 1 (first_group line)) (lent_group line))

-- a line that begins with `=` (61) is the file of the lines after it
unfoldable pub is_file : List ℕ → Bool
is_file line = slice_index line 0 == 61

abbrev pub one : Bool → ℕ
one true = 1
one false = 0

-- how many cases agree, from a file on
unfoldable pub agreed_in : List ℕ → List (List ℕ) → ℕ
agreed_in s [] = 0
agreed_in s (line ∷ lines) = pick (is_file line) (agreed_in (numbers_in (drop 1 line)) lines) (one (agrees s line) + agreed_in s lines)
