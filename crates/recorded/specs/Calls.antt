-- What a case has to have recorded of each call, over what it gives.
use Rattle.std.specs.Prelude.{ℕ, ◌%◌, not, List, [], ◌∷◌, ◌++◌, length, take, ◌==◌, slice_index, slice_index_or, slice_range}
use Rattle.wire.specs.Table.{Outcome}
use Rattle.wire.specs.Counts.{shortest_len, write_outcome, with_count}
use Rattle.advice.specs.Walk.{key_table}
use Rattle.advice.specs.Table.{key_outcome, places_needed}
use Rattle.writer.specs.Parts.{Parts}
use Rattle.writer.specs.Shown.{lent}
use Rattle.vekalumist.specs.Answers.{number_in, answered, placed}
use Rattle.vekalumist.specs.Calls.{version, count_call, decode_call, encode_call, flags_call, scan_call, root_call, entry_call, children_call, order_call, strict_call, digest_call, digest_table_call, slots_call, slots_after, walk_call, map_entry_call, lookup_call, values_call, write_call, write_after}

-- ---- what is given

-- given number i
abbrev pub given : List ℕ → ℕ → ℕ
given a i = slice_index a i

-- nine bytes: of a number that is none the low one
unfoldable pub marks_given : List ℕ → List ℕ
marks_given a =
    given a 0 % 256
    ∷ given a 1 % 256
    ∷ given a 2 % 256
    ∷ given a 3 % 256
    ∷ given a 4 % 256
    ∷ given a 5 % 256
    ∷ given a 6 % 256
    ∷ given a 7 % 256
    ∷ given a 8 % 256
    ∷ []

unfoldable pub layout_given : List ℕ → List ℕ
layout_given a =
    given a 0
    ∷ given a 1
    ∷ given a 2
    ∷ given a 3
    ∷ given a 4
    ∷ given a 5
    ∷ given a 6
    ∷ given a 7
    ∷ given a 8
    ∷ given a 9
    ∷ given a 10
    ∷ given a 11
    ∷ []

unfoldable pub key_given : List ℕ → List ℕ
key_given a = given a 0 ∷ given a 1 ∷ given a 2 ∷ given a 3 ∷ []

unfoldable pub entry_given : List ℕ → List ℕ
entry_given a = given a 0 ∷ given a 1 ∷ given a 2 ∷ []

-- two numbers from any places
abbrev pub bound_given : List ℕ → ℕ → ℕ → List ℕ
bound_given a i j = given a i ∷ given a j ∷ []

-- the numbers from a place up to another
unfoldable pub between : ℕ → ℕ → List ℕ → List ℕ
between from to l = slice_range l from to

-- The writer's parts: blocks, external digests and hashes are the file's bytes, the others given numbers. Their ends are given after the flags.
-- What is claimed of the order of keys comes last, and no answer depends on it.
unfoldable pub parts_given : List ℕ → List ℕ → Parts
parts_given s a =
    lent
    (given a 10 % 256)
    (between (given a 16) (given a 17) a)
    (between 0 (given a 11) s)
    (between 19 (given a 13) a)
    (between (given a 11) (given a 12) s)
    (between (given a 12) (length s) s)
    (between (given a 13) (given a 14) a)
    (between (given a 14) (given a 15) a)
    (between (given a 15) (given a 16) a)

-- ---- what is recorded

-- the number that a call returns, its place, which held 900, its answer's numbers, and the lent memory afterwards
unfoldable pub told : {A : Type 0} → (A → List ℕ) → A → Outcome A → List ℕ → List ℕ
told numbers before o after = number_in o ∷ placed 900 o ∷ (numbers (answered before o) ++ after)

-- an answer that is an array, which held the numbers from 901 on
abbrev pub blank : List ℕ
blank = 901 ∷ 902 ∷ 903 ∷ 904 ∷ 905 ∷ 906 ∷ 907 ∷ 908 ∷ 909 ∷ 910 ∷ 911 ∷ 912 ∷ 913 ∷ []

abbrev pub itself : List ℕ → List ℕ
itself l = l

abbrev pub array_told : ℕ → Outcome (List ℕ) → List ℕ → List ℕ
array_told n o after = told itself (take n blank) o after

-- an answer that is a number, and what that held
abbrev pub alone : ℕ → List ℕ
alone n = n ∷ []

abbrev pub number_told : ℕ → Outcome ℕ → List ℕ → List ℕ
number_told before o after = told alone before o after

-- no answer but that it holds
unfoldable pub check_told : Outcome (Unit {0}) → List ℕ → List ℕ
check_told o after = number_in o ∷ placed 900 o ∷ after

-- By number, over a file, the numbers that are given and the memory that is lent. Facts are the first ten given numbers, nine of them bytes; a layout
-- is the first twelve, a key the first four, an entry the first three. Lent are slots to calls 12 and 13, bytes to 14 and 18, key places to 15, 16, 17, 21
-- and 22. Calls 2, 20 and 23 record the number that they return, and nothing else.
abbrev pub calls : List (List ℕ → List ℕ → List ℕ → List ℕ)
calls =
    (λ s a l. [])
    ∷ (λ s a l. array_told 4 (count_call s (given a 0)) l)
    ∷ (λ s a l. alone (shortest_len (given a 0)))
    ∷ (λ s a l. array_told 3 (decode_call (given a 0)) l)
    ∷ (λ s a l. number_told 901 (encode_call (entry_given a)) l)
    ∷ (λ s a l. array_told 13 (scan_call s (marks_given a) (given a 9) (not (given a 10 == 0)) (bound_given a 11 12)) l)
    ∷ (λ s a l. number_told 901 (root_call s (layout_given a) (given a 12)) l)
    ∷ (λ s a l. array_told 3 (entry_call s (layout_given a) (given a 12)) l)
    ∷ (λ s a l. check_told (children_call s (layout_given a)) l)
    ∷ (λ s a l. check_told (order_call s (layout_given a)) l)
    ∷ (λ s a l. check_told (strict_call s (layout_given a)) l)
    ∷ (λ s a l. array_told 4 (digest_call s (layout_given a) (given a 12)) l)
    ∷ (λ s a l. array_told 4 (digest_table_call s (layout_given a) (given a 12) l) l)
    ∷ (λ s a l. array_told 2 (slots_call s (layout_given a) (bound_given a 12 13) (length l)) (slots_after s (layout_given a) (bound_given a 12 13) l))
    ∷ (λ s a l. number_told 901 (write_outcome l (given a 0) (given a 1)) (with_count l (given a 0) (given a 1)))
    ∷ (λ s a l. array_told 4 (walk_call (length l) s (given a 0)) (key_table s (given a 0) l))
    ∷ (λ s a l. array_told 4 (lookup_call s l (given a 4) (key_given a)) l)
    ∷ (λ s a l. array_told 3 (values_call s l (given a 4) (key_given a)) l)
    ∷ (λ s a l. number_told 901 (write_call (marks_given a) (given a 9) (parts_given s a) (length l)) (write_after (marks_given a) (given a 9) (parts_given s a) l))
    ∷ (λ s a l. number_told 91 (flags_call s) l)
    ∷ (λ s a l. alone (places_needed s (given a 0)))
    ∷ (λ s a l. array_told 4 (key_outcome s l (given a 0)) l)
    ∷ (λ s a l. array_told 6 (map_entry_call s l (given a 0)) l)
    ∷ (λ s a l. alone version)
    ∷ []

unfoldable pub call_row : ℕ → List ℕ → List ℕ → List ℕ → List ℕ
call_row k s a l = slice_index_or calls k (λ s a l. []) s a l
