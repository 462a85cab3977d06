-- Words: the four numbers at a place, when they are elements, and the laws of the order:
--     order_irreflexive, order_transitive, order_total   it is a strict total order
--     order_same, order_above                            Equal is equality, and Greater is Less the other way round
-- Assumes nothing.
use mathlib.Core.Path.{◌≡◌, refl, sym, ◌∙◌}
use mathlib.Core.Bool.{Bool, true, false, not, ◌||◌, ◌&&◌}
use mathlib.Core.List.{List, [], ◌∷◌}
use mathlib.Core.Logic.{◌⊎◌, inl, inr, ⊎_elim, ◌↔◌}
use Prim.Native.Nat.{ℕ, suc, ◌+◌, ◌≤◌, ◌<◌}
use native.Mathlib.Nat.{add-zero}
use native.Mathlib.Numerals.{add-one}
use native.Mathlib.Omega.{arith}
use borrow.Author.Tests.{ltb-true, ltb-false, lt-ltb, le-ltb, eq-eqb, ne_eqb}
use lib.Dec.{ltb}
use lib.ListN.{length, get_or, drop}
use lib.Seq.{slice, length-slice, take_at, drop_at, drop-cons, drop-length}
use Rattle.wire.specs.Table.{refused, accepted, first_met}
use Rattle.wire.specs.Refusals.{SHORT, ELEMENT}
use Rattle.wire.specs.Le.{le_at, is_short, number_at}
use Rattle.wire.specs.Rows.{numbers_of}
use Rattle.std.specs.Cmp.Lexicographic.{slice_cmp}
use Rattle.std.specs.Ordering.{nat_cmp}
use Rattle.std.specs.declared.cmp.Ordering.TheVariants.{Less, Equal, Greater}
use Rattle.wire.specs.Words.{is_element, not_elements, zero_word, four_at, word_at, word_rules, word_outcome, word_order}
use Rattle.wire.proofs.Le.{slice-parts}
use Rattle.wire.proofs.Tables.{accepted_none}
use Rattle.wire.proofs.Numbers.{number_inside}

-- ---- rows of numbers at a place, over the width

-- the first of several rows, and the others; at a distance from `at`, so that it chains
pub rows_next : (k n : ℕ) (s : List ℕ) (at j m : ℕ) → at + j + k ≤ length s
    → numbers_of k (suc n) (slice (at + j) (at + (j + (k + m))) s) ≡ le_at s (at + j) k ∷ numbers_of k n (slice (at + (j + k)) (at + (j + k + m)) s)
unfolding numbers_of
rows_next k n s at j m h =
    let first = slice (at + j) (at + j + k) s in
    let rest = slice (at + j + k) (at + j + k + m) s in
    let whole : at + (j + (k + m)) ≡ at + j + (k + m) = omega arith in
    let from : at + (j + k) ≡ at + j + k = omega arith in
    let to : at + (j + k + m) ≡ at + j + k + m = omega arith in
    let l : length first ≡ k = length-slice (at + j) (at + j + k) s h ∙ omega arith in
    rw (whole, from, to, slice-parts s (at + j) k m h, take_at first rest k l, drop_at first rest k l)

no_rows : (k : ℕ) (bs : List ℕ) → numbers_of k 0 bs ≡ []
unfolding numbers_of
no_rows k bs = refl

-- the four numbers at a place are its four numbers of 8 bytes
pub four_at_lem : (s : List ℕ) (at : ℕ) → at + 32 ≤ length s → four_at s at ≡ number_at 8 s at ∷ number_at 8 s (at + 8) ∷ number_at 8 s (at + 16) ∷ number_at 8 s (at + 24) ∷ []
unfolding four_at
four_at_lem s at h =
    rw (
      rw add-zero at (rows_next 8 3 s at 0 24 (omega arith)),
      rows_next 8 2 s at 8 16 (omega arith),
      rows_next 8 1 s at 16 8 (omega arith),
      rows_next 8 0 s at 24 0 (omega arith),
      no_rows,
      number_inside 8 s at (omega arith),
      number_inside 8 s (at + 8) (omega arith),
      number_inside 8 s (at + 16) (omega arith),
      number_inside 8 s (at + 24) (omega arith),
    )

-- ---- the cases of a word at a place

-- four tests of elements, as the code joins them
pub elements_mean : (a b c d : Bool) → (not a || (not b || (not c || (not d || false)))) ≡ not (((a && b) && c) && d)
elements_mean true true true true = refl
elements_mean true true true false = refl
elements_mean true true false d = refl
elements_mean true false c d = refl
elements_mean false b c d = refl

module _ (s : List ℕ) (at : ℕ) where
  -- whether the four numbers are elements
  abbrev pub four_elements : Bool
  four_elements =
      ((is_element (number_at 8 s at) && is_element (number_at 8 s (at + 8))) && is_element (number_at 8 s (at + 16))) && is_element (number_at 8 s (at + 24))

  not_elements_lem : at + 32 ≤ length s → not_elements (four_at s at) ≡ not four_elements
  unfolding not_elements
  not_elements_lem h =
      rw (four_at_lem s at h)
      (elements_mean (is_element (number_at 8 s at)) (is_element (number_at 8 s (at + 8))) (is_element (number_at 8 s (at + 16))) (is_element (number_at 8 s (at + 24))))

  pub word_none : is_short s at 32 ≡ true → word_at s at ≡ zero_word
  unfolding word_at
  word_none e = rw e

  pub word_whole : is_short s at 32 ≡ false → word_at s at ≡ four_at s at
  unfolding word_at
  word_whole e = rw e

  pub check_short : is_short s at 32 ≡ true → word_outcome s at ≡ refused SHORT at
  unfolding word_outcome word_rules first_met
  check_short e = rw e

  pub check_element : is_short s at 32 ≡ false → four_elements ≡ false → word_outcome s at ≡ refused ELEMENT at
  unfolding word_outcome word_rules first_met
  check_element e f = rw (e, not_elements_lem (ltb-false _ _ e), f)

  pub check_whole : is_short s at 32 ≡ false → four_elements ≡ true → word_outcome s at ≡ accepted (record { value = four_at s at; next = at + 32 })
  unfolding word_outcome word_rules first_met
  check_whole e f = rw (e, not_elements_lem (ltb-false _ _ e), f)

  -- what is read after a check that accepted
  pub read_whole : (n : ℕ) → accepted (record { value = four_at s at; next = n }) ≡ word_outcome s at → accepted (record { value = word_at s at; next = n }) ≡ word_outcome s at
  unfolding word_outcome word_rules
  read_whole n said =
      let q = accepted_none (word_rules s at) (record { value = four_at s at; next = at + 32 }) (record { value = four_at s at; next = n }) (sym said) in
      rw (word_whole q.0.0) said

-- ---- the order

never : {P : Type 0} → ◌≡◌ {A = ℕ} 0 1 → P
never e = absurd (omega arith)

module _ (x y : ℕ) (a b : List ℕ) where
  pub first_below : x < y → word_order (x ∷ a) (y ∷ b) ≡ Less
  unfolding word_order
  first_below h = rw (lt-ltb x y h)

  pub first_above : y < x → word_order (x ∷ a) (y ∷ b) ≡ Greater
  unfolding word_order
  first_above h = rw (le-ltb x y (omega arith), lt-ltb y x h)

  pub first_same : x ≡ y → word_order (x ∷ a) (y ∷ b) ≡ word_order a b
  unfolding word_order
  first_same h = rw (le-ltb x y (omega arith), le-ltb y x (omega arith))

  -- the first numbers, compared
  compared : (x < y) ⊎ ((x ≡ y) ⊎ (y < x))
  compared = go (ltb x y) refl (ltb y x) refl
    where
      go : (t : Bool) → ltb x y ≡ t → (u : Bool) → ltb y x ≡ u → (x < y) ⊎ ((x ≡ y) ⊎ (y < x))
      go true e u f = inl (ltb-true x y e)
      go false e true f = inr (inr (ltb-true y x f))
      go false e false f = inr (inl (omega (arith, ltb-false x y e, ltb-false y x f)))

  below_first : word_order (x ∷ a) (y ∷ b) ≡ Less → (x < y) ⊎ ((x ≡ y) × (word_order a b ≡ Less))
  below_first e =
      ⊎_elim
      (λ h. inl h)
      (⊎_elim (λ h. inr (h, sym (first_same h) ∙ e)) (λ h. let f = first_above h in never (cc)))
      compared

-- the same, of what is left from an index on
module _ (a b : List ℕ) (i : ℕ) (la : i < length a) (lb : i < length b) where
  left : word_order (drop i a) (drop i b) ≡ word_order (get_or a i 0 ∷ drop (suc i) a) (get_or b i 0 ∷ drop (suc i) b)
  left = rw (drop-cons a i 0 la, drop-cons b i 0 lb)

  pub left_below : get_or a i 0 < get_or b i 0 → word_order (drop i a) (drop i b) ≡ Less
  left_below h = left ∙ first_below _ _ _ _ h

  pub left_above : get_or b i 0 < get_or a i 0 → word_order (drop i a) (drop i b) ≡ Greater
  left_above h = left ∙ first_above _ _ _ _ h

  pub left_same : get_or a i 0 ≡ get_or b i 0 → word_order (drop i a) (drop i b) ≡ word_order (drop (i + 1) a) (drop (i + 1) b)
  left_same h = rw add-one (left ∙ first_same _ _ _ _ h)

pub left_none : (a b : List ℕ) → word_order (drop (length a) a) (drop (length b) b) ≡ Equal
unfolding word_order
left_none a b = rw (drop-length a, drop-length b)

pub order_irreflexive : (a : List ℕ) → word_order a a ≡ Equal
unfolding word_order
order_irreflexive [] = refl
order_irreflexive (x ∷ a) = first_same x x a a refl ∙ order_irreflexive a

pub order_transitive : (a b c : List ℕ) → word_order a b ≡ Less → word_order b c ≡ Less → word_order a c ≡ Less
unfolding word_order
order_transitive [] [] c e f = f
order_transitive [] (y ∷ b) [] e f = never (cc)
order_transitive [] (y ∷ b) (z ∷ c) e f = refl
order_transitive (x ∷ a) [] c e f = never (cc)
order_transitive (x ∷ a) (y ∷ b) [] e f = never (cc)
order_transitive (x ∷ a) (y ∷ b) (z ∷ c) e f =
    ⊎_elim
    (λ h. ⊎_elim (λ k. first_below x z a c (omega arith)) (λ k. first_below x z a c (omega arith)) (below_first y z b c f))
    (λ h.
    ⊎_elim
    (λ k. first_below x z a c (omega arith))
    (λ k. first_same x z a c (h.0 ∙ k.0) ∙ order_transitive a b c h.1 k.1)
    (below_first y z b c f))
    (below_first x y a b e)

pub order_total : (a b : List ℕ) → (word_order a b ≡ Less) ⊎ ((a ≡ b) ⊎ (word_order b a ≡ Less))
unfolding word_order
order_total [] [] = inr (inl refl)
order_total [] (y ∷ b) = inl refl
order_total (x ∷ a) [] = inr (inr refl)
order_total (x ∷ a) (y ∷ b) =
    ⊎_elim
    (λ h. inl (first_below x y a b h))
    (⊎_elim
    (λ h.
    ⊎_elim
    (λ k. inl (first_same x y a b h ∙ k))
    (⊎_elim (λ k. inr (inl (cc))) (λ k. inr (inr (first_same y x b a (sym h) ∙ k))))
    (order_total a b))
    (λ h. inr (inr (first_below y x b a h))))
    (compared x y a b)

pub order_above : (a b : List ℕ) → (word_order a b ≡ Greater) ↔ (word_order b a ≡ Less)
unfolding word_order
order_above a b = (above a b, below a b)
  where
    above : (a b : List ℕ) → word_order a b ≡ Greater → word_order b a ≡ Less
    above [] [] e = never (cc)
    above [] (y ∷ b) e = never (cc)
    above (x ∷ a) [] e = refl
    above (x ∷ a) (y ∷ b) e =
        ⊎_elim
        (λ h. let f = first_below x y a b h in never (cc))
        (⊎_elim (λ h. first_same y x b a (sym h) ∙ above a b (sym (first_same x y a b h) ∙ e)) (λ h. first_below y x b a h))
        (compared x y a b)

    below : (a b : List ℕ) → word_order b a ≡ Less → word_order a b ≡ Greater
    below [] [] e = never (cc)
    below [] (y ∷ b) e = never (cc)
    below (x ∷ a) [] e = refl
    below (x ∷ a) (y ∷ b) e =
        ⊎_elim
        (λ h. first_above x y a b h)
        (λ h. first_same x y a b (sym h.0) ∙ below a b h.1)
        (below_first y x b a e)

pub order_same : (a b : List ℕ) → (word_order a b ≡ Equal) ↔ (a ≡ b)
order_same a b = (same a b, λ e. rw e (order_irreflexive b))
  where
    same : (a b : List ℕ) → word_order a b ≡ Equal → a ≡ b
    same a b e =
        ⊎_elim
        (λ h. never (cc))
        (⊎_elim (λ h. h) (λ h. let f = (order_above a b).1 h in never (cc)))
        (order_total a b)

-- the order of std, which compares lists from the first number on
pub std_order : (a b : List ℕ) → slice_cmp nat_cmp a b ≡ word_order a b
unfolding word_order
std_order [] [] = refl
std_order [] (y ∷ b) = refl
std_order (x ∷ a) [] = refl
std_order (x ∷ a) (y ∷ b) =
    ⊎_elim
    (λ h. below h)
    (⊎_elim (λ h. same h (std_order a b)) (λ h. above h))
    (compared x y a b)
  where
    below : x < y → slice_cmp nat_cmp (x ∷ a) (y ∷ b) ≡ word_order (x ∷ a) (y ∷ b)
    below h = rw (lt-ltb x y h) refl

    same : x ≡ y → slice_cmp nat_cmp a b ≡ word_order a b → slice_cmp nat_cmp (x ∷ a) (y ∷ b) ≡ word_order (x ∷ a) (y ∷ b)
    same h rest = rw h (rw (le-ltb y y (omega arith), eq-eqb y y refl) rest)

    above : y < x → slice_cmp nat_cmp (x ∷ a) (y ∷ b) ≡ word_order (x ∷ a) (y ∷ b)
    above h = rw (le-ltb x y (omega arith), lt-ltb y x h, ne_eqb x y (omega arith)) refl
