-- Elements and words: an element is a number below the modulus, a word is four of them in 32 bytes. And the order of words.
use Rattle.std.specs.Prelude.{ℕ, ◌+◌, Bool, false, not, ◌||◌, List, [], ◌∷◌, ltb}
use Rattle.std.proofs.Math.Seq.{slice}
use Rattle.wire.specs.Table.{Rule, rule, Outcome, pick, first_met, At}
use Rattle.wire.specs.Refusals.{ELEMENT}
use Rattle.wire.specs.Le.{is_short, short_rule}
use Rattle.wire.specs.Rows.{numbers_of}
use Rattle.std.specs.declared.cmp.Ordering.{Ordering}
use Rattle.std.specs.declared.cmp.Ordering.TheVariants.{Less, Equal, Greater}

abbrev pub modulus : ℕ
modulus = 18446744069414584321

unfoldable pub is_element : ℕ → Bool
is_element x = ltb x modulus

-- one of the numbers is no element
unfoldable pub not_elements : List ℕ → Bool
not_elements [] = false
not_elements (x ∷ xs) = not (is_element x) || not_elements xs

abbrev pub zero_word : List ℕ
zero_word = 0 ∷ 0 ∷ 0 ∷ 0 ∷ []

-- the four numbers of the 32 bytes at a place, whether elements or not
unfoldable pub four_at : List ℕ → ℕ → List ℕ
four_at s at = numbers_of 8 4 (slice at (at + 32) s)

-- the same; all zero where the 32 bytes are not all there
unfoldable pub word_at : List ℕ → ℕ → List ℕ
word_at s at = pick (is_short s at 32) zero_word (four_at s at)

-- a word at a place: SHORT for all 32 bytes, then ELEMENT, both [the place]
unfoldable pub word_rules : List ℕ → ℕ → List Rule
word_rules s at = short_rule s at 32 ∷ rule ELEMENT at (not_elements (four_at s at)) ∷ []

unfoldable pub word_outcome : List ℕ → ℕ → Outcome (At (List ℕ))
word_outcome s at = first_met (word_rules s at) (record { value = four_at s at; next = at + 32 })

-- by the first number in which they differ
unfoldable pub word_order : List ℕ → List ℕ → Ordering
word_order [] [] = Equal
word_order [] (b ∷ bs) = Less
word_order (a ∷ cs) [] = Greater
word_order (a ∷ cs) (b ∷ bs) = pick (ltb a b) Less (pick (ltb b a) Greater (word_order cs bs))
