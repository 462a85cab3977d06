-- The lookup's definition, taken apart as the code goes through it: a turn of the halving, the values one by one, the stages; and the bound on
-- the number of keys compared.
-- Assumes nothing.
use mathlib.Core.Path.{◌≡◌, refl, sym, ap, ◌∙◌}
use mathlib.Core.Bool.{Bool, true, false}
use mathlib.Core.List.{List, [], ◌∷◌}
use Prim.Native.Nat.{ℕ, zero, suc, ◌+◌, ◌-◌, ◌*◌, ◌/◌, ◌^◌, ◌<◌, ◌≤◌}
use native.Mathlib.Decide.{ℕ_discrete}
use native.Mathlib.Omega.{arith}
use borrow.Author.Tests.{lt-ltb, le-ltb, ltb-true, ltb-false, ne_eqb, eqb-true, eqb-false}
use lib.Count.{leading_length}
use lib.Dec.{ltb, eqb}
use lib.ListN.{length, get_or, take, drop}
use lib.Seq.{slice}
use Rattle.std.proofs.lemmas.List.{drop-take}
use Rattle.wire.specs.Table.{rule, Outcome, refused, accepted, pick, first_met, checked, ◌>>=◌, At}
use Rattle.wire.specs.Refusals.{SHORT, ELEMENT, ROOM}
use Rattle.wire.specs.Le.{is_short, number_at}
use Rattle.wire.specs.Counts.{counted}
use Rattle.wire.specs.Words.{is_element, word_at, word_order}
use Rattle.std.specs.declared.cmp.Ordering.{Ordering}
use Rattle.std.specs.declared.cmp.Ordering.TheVariants.{Less, Equal, Greater}
use Rattle.wire.proofs.Stages.{in_turn, in_the_end, both_taken}
use Rattle.wire.proofs.Tables.{accepted_none}
use Rattle.wire.proofs.Numbers.{all_there}
use Rattle.wire.proofs.Words.{four_at_lem, word_whole, first_below, first_above}
use Rattle.advice.specs.Walk.{size, values_at}
use Rattle.advice.specs.Lookup.{Halved, met, missing, by_order, halving, Looked, found, absent, element_rules, found_rules, found_outcome, lookup_outcome, bit_length}
use Rattle.advice.specs.declared.lookup.Range.{Range}
use Rattle.advice.specs.Inner.{values_rules, values_outcome, found_values_outcome, left_outcome, turned, elements_outcome}

-- ---- the first elements of a key and of the one at a place decide where they differ

module _ (s : List ℕ) (at : ℕ) (whole : at + 32 ≤ length s) where
  abbrev others : List ℕ
  others = number_at 8 s (at + 8) ∷ number_at 8 s (at + 16) ∷ number_at 8 s (at + 24) ∷ []

  word_first : word_at s at ≡ number_at 8 s at ∷ others
  word_first = word_whole s at (le-ltb (length s) (at + 32) whole) ∙ four_at_lem s at whole

  first_decides_below : (key : List ℕ) → get_or key 0 0 < number_at 8 s at → Less ≡ word_order key (word_at s at)
  unfolding word_order
  first_decides_below [] l = rw word_first
  first_decides_below (x ∷ rest) l = rw word_first (sym (first_below x (number_at 8 s at) rest others l))

  first_decides_above : (key : List ℕ) → number_at 8 s at < get_or key 0 0 → Greater ≡ word_order key (word_at s at)
  first_decides_above [] l = absurd (omega arith)
  first_decides_above (x ∷ rest) l = rw word_first (sym (first_above x (number_at 8 s at) rest others l))

-- ---- a turn of the halving

module _ (s t key : List ℕ) where
  -- what stands in the middle
  abbrev pub middle : ℕ → ℕ → ℕ
  middle low size = get_or t (low + size / 2) 0

  none_left : (k low c : ℕ) → halving s t key k low 0 c ≡ accepted (missing c)
  unfolding halving
  none_left zero low c = refl
  none_left (suc k) low c = refl

  pub halved_none : (low size c : ℕ) → size ≡ 0 → accepted (missing c) ≡ halving s t key size low size c
  halved_none low size c e = rw e (sym (none_left 0 low c))

  -- as many tries as there are offsets are enough
  pub enough_tries : (k j low size c : ℕ) → size ≤ k → size ≤ j → halving s t key k low size c ≡ halving s t key j low size c
  unfolding halving
  enough_tries zero j low size c h g = let e : size ≡ 0 = omega arith in rw e (sym (none_left j low c))
  enough_tries (suc k) zero low size c h g = let e : size ≡ 0 = omega arith in rw e
  enough_tries (suc k) (suc j) low size c h g =
      elim (ℕ_discrete size 0) [
        | yes e ↦ rw e
        | no d ↦
            rw (
              enough_tries k j low (size / 2) (c + 1) (omega arith) (omega arith),
              enough_tries k j (low + size / 2 + 1) (size - size / 2 - 1) (c + 1) (omega arith) (omega arith),
            )
      ]

  module _ (low size c : ℕ) (some : 0 < size) where
    one_try : halving s t key size low size c ≡ halving s t key (suc (size - 1)) low size c
    one_try = enough_tries size (suc (size - 1)) low size c (omega arith) (omega arith)

    nonzero : eqb size 0 ≡ false
    nonzero = ne_eqb size 0 (omega arith)

    pub halved_short : is_short s (middle low size) 32 ≡ true → refused SHORT (middle low size) ≡ halving s t key size low size c
    unfolding halving
    halved_short e = rw (one_try, nonzero, e)

    module _ (whole : is_short s (middle low size) 32 ≡ false) where
      pub halved_same : word_order key (word_at s (middle low size)) ≡ Equal → accepted (met (middle low size) (c + 1)) ≡ halving s t key size low size c
      unfolding halving
      halved_same e = rw (one_try, nonzero, whole, e)

      pub halved_below : word_order key (word_at s (middle low size)) ≡ Less → halving s t key (size / 2) low (size / 2) (c + 1) ≡ halving s t key size low size c
      unfolding halving
      halved_below e = rw (one_try, nonzero, whole, e) (enough_tries (size / 2) (size - 1) low (size / 2) (c + 1) (omega arith) (omega arith))

      pub halved_above : word_order key (word_at s (middle low size)) ≡ Greater
          → halving s t key (size - size / 2 - 1) (low + size / 2 + 1) (size - size / 2 - 1) (c + 1) ≡ halving s t key size low size c
      unfolding halving
      halved_above e = rw (one_try, nonzero, whole, e) (enough_tries (size - size / 2 - 1) (size - 1) (low + size / 2 + 1) (size - size / 2 - 1) (c + 1) (omega arith) (omega arith))

-- ---- turns by the first elements alone

module _ (s t key : List ℕ) (r : Range) (some : 0 < r.size) where
  abbrev first : ℕ
  first = get_or key 0 0

  abbrev at : ℕ
  at = middle s t key r.low r.size

  turn_told : is_short s at 32 ≡ false → (b : Bool) → ltb first (number_at 8 s at) ≡ b → (first ≡ number_at 8 s at → ⊥) → left_outcome s t key (turned b r) ≡ left_outcome s t key r
  turn_told w true e d =
      let l : first < number_at 8 s at = ltb-true first (number_at 8 s at) e in
      halved_below s t key r.low r.size r.compared some w (sym (first_decides_below s at (all_there 32 s at w) key l))
  turn_told w false e d =
      let l : number_at 8 s at < first = omega (arith, ltb-false first (number_at 8 s at) e, d) in
      halved_above s t key r.low r.size r.compared some w (sym (first_decides_above s at (all_there 32 s at w) key l))

  -- of the range that is left the same is said
  pub turn_same : (f : ℕ) (q : Range) → q ≡ turned (ltb first f) r → is_short s at 32 ≡ false → f ≡ number_at 8 s at → (first ≡ f → ⊥) → left_outcome s t key q ≡ left_outcome s t key r
  turn_same f q is w e d = rw is (turn_told w (ltb first f) (ap (ltb first) (sym e)) (λ h. d (h ∙ sym e)))

-- ---- what an accepted halving ends with

-- By cases of the tests of one turn, of anything that is told of an accepted end: none left, an equal key, or one of the halves.
module _ (s t key : List ℕ) (P : Halved → Type 0) (k low size c : ℕ) (h : Halved) where
  pub turn_cases : halving s t key (suc k) low size c ≡ accepted h
      → (size ≡ 0 → missing c ≡ h → P h)
      → ((size ≡ 0 → ⊥) → is_short s (middle s t key low size) 32 ≡ false → word_order key (word_at s (middle s t key low size)) ≡ Equal → met (middle s t key low size) (c + 1) ≡ h → P h)
      → ((size ≡ 0 → ⊥) → word_order key (word_at s (middle s t key low size)) ≡ Less → halving s t key k low (size / 2) (c + 1) ≡ accepted h → P h)
      → ((size ≡ 0 → ⊥) → word_order key (word_at s (middle s t key low size)) ≡ Greater
      → halving s t key k (low + size / 2 + 1) (size - size / 2 - 1) (c + 1) ≡ accepted h → P h)
      → P h
  unfolding halving
  turn_cases e none same below above = go (eqb size 0) refl (is_short s (middle s t key low size) 32) refl (word_order key (word_at s (middle s t key low size))) refl e
    where
      go : (z : Bool) → eqb size 0 ≡ z → (b : Bool) → is_short s (middle s t key low size) 32 ≡ b → (o : Ordering) → word_order key (word_at s (middle s t key low size)) ≡ o
          → pick z (accepted (missing c)) (pick b (refused SHORT (middle s t key low size))
          (by_order o (halving s t key k low (size / 2) (c + 1)) (accepted (met (middle s t key low size) (c + 1))) (halving s t key k (low + size / 2 + 1) (size - size / 2 - 1) (c + 1))))
          ≡ accepted h → P h
      go true ez b eb o eo e = none (eqb-true size 0 ez) (cc)
      go false ez true eb o eo e = cc
      go false ez false eb Equal eo e = same (eqb-false size 0 ez) eb eo (cc)
      go false ez false eb Less eo e = below (eqb-false size 0 ez) eo e
      go false ez false eb Greater eo e = above (eqb-false size 0 ez) eo e

-- ---- the number of keys compared

abbrev pub compared_by : Halved → ℕ
compared_by (met at c) = c
compared_by (missing c) = c

module _ (s t key : List ℕ) (h : Halved) where
  -- a range of fewer than 2 ^ b offsets: at most b keys more
  compared_more : (k low size c b : ℕ) → size < 2 ^ b → halving s t key k low size c ≡ accepted h → compared_by h ≤ c + b
  unfolding halving
  compared_more zero low size c b l e = let q : missing c ≡ h = cc in rw (← q) (omega arith)
  compared_more (suc k) low size c zero l e =
      turn_cases s t key (λ h. compared_by h ≤ c + 0) k low size c h e
      (λ z q. rw (← q) (omega arith))
      (λ z w o q. absurd (z (omega arith)))
      (λ z o e. absurd (z (omega arith)))
      (λ z o e. absurd (z (omega arith)))
  compared_more (suc k) low size c (suc b) l e =
      turn_cases s t key (λ h. compared_by h ≤ c + suc b) k low size c h e
      (λ z q. rw (← q) (omega arith))
      (λ z w o q. rw (← q) (omega arith))
      (λ z o e. omega (arith, compared_more k low (size / 2) (c + 1) b (omega arith) e))
      (λ z o e. omega (arith, compared_more k (low + size / 2 + 1) (size - size / 2 - 1) (c + 1) b (omega arith) e))

  pub compared_within : (n b : ℕ) → n < 2 ^ b → halving s t key n 0 n 0 ≡ accepted h → compared_by h ≤ b
  compared_within n b l e = omega (arith, compared_more n 0 n 0 b l e)

  -- at most the bit length of n
  pub compared_bits : (n : ℕ) → n < 2 ^ 64 → halving s t key n 0 n 0 ≡ accepted h → compared_by h ≤ bit_length n
  unfolding bit_length
  compared_bits n l e =
      let m = leading_length 64 n l in
      omega (arith, compared_within n m.0 m.2 e, m.1)

-- an equal key is all in the file
module _ (s t key : List ℕ) (at n : ℕ) where
  pub met_whole : (k low size c : ℕ) → halving s t key k low size c ≡ accepted (met at n) → is_short s at 32 ≡ false
  unfolding halving
  met_whole zero low size c e = cc
  met_whole (suc k) low size c e =
      turn_cases s t key (λ h. is_short s at 32 ≡ false) k low size c (met at n) e
      (λ z q. cc)
      (λ z w o q. let a : middle s t key low size ≡ at = cc in rw a at w)
      (λ z o e. met_whole k low (size / 2) (c + 1) e)
      (λ z o e. met_whole k (low + size / 2 + 1) (size - size / 2 - 1) (c + 1) e)

-- ---- the values, one by one

module _ (s : List ℕ) (at : ℕ) where
  pub elements_all : (n : ℕ) → n ≡ 0 → accepted tt ≡ elements_outcome s at n
  unfolding element_rules first_met
  elements_all n e = rw e

  module _ (n : ℕ) (some : 0 < n) where
    pub elements_stop : is_element (number_at 8 s at) ≡ false → refused ELEMENT at ≡ elements_outcome s at n
    unfolding element_rules first_met
    elements_stop e = let q : n ≡ suc (n - 1) = omega arith in rw (q, e)

    pub elements_next : is_element (number_at 8 s at) ≡ true → elements_outcome s (at + 8) (n - 1) ≡ elements_outcome s at n
    unfolding element_rules first_met
    elements_next e =
        let q : n ≡ suc (n - 1) = omega arith in
        let a : elements_outcome s at (suc (n - 1)) ≡ elements_outcome s (at + 8) (n - 1) = rw e in
        sym (ap (elements_outcome s at) q ∙ a)

-- ---- the stages

module _ (s : List ℕ) (at : ℕ) where
  abbrev pub after_values : At ℕ → Outcome (At ℕ)
  after_values v = elements_outcome s v.next v.value >>= (λ _. accepted v)

  pub found_values_split : found_values_outcome s at ≡ (values_outcome s (at + 32) >>= after_values)
  unfolding found_values_outcome found_rules values_outcome values_rules
  found_values_split =
      in_turn (values_rules s (at + 32)) (record { value = (counted s (at + 32)).value; next = at + 32 + (counted s (at + 32)).len })
      (λ v. element_rules s v.next v.value) (λ v. v) after_values
      (λ v. in_the_end (element_rules s v.next v.value) tt (λ _. v))

  pub found_split : (c : ℕ) → found_outcome s (met at c) ≡ (found_values_outcome s at >>= (λ v. accepted (found v.next v.value c)))
  unfolding found_outcome found_values_outcome
  found_split c = in_the_end (found_rules s at) (record { value = (size s at).value; next = values_at s at }) (λ (v : At ℕ). found v.next v.value c)

module _ (s t : List ℕ) (n : ℕ) (key : List ℕ) where
  pub lookup_room : length t < n → refused ROOM n ≡ lookup_outcome s t n key
  unfolding lookup_outcome ◌>>=◌ first_met
  lookup_room h = rw (lt-ltb _ _ h)

  pub lookup_split : n ≤ length t → lookup_outcome s t n key ≡ (halving s t key n 0 n 0 >>= found_outcome s)
  unfolding lookup_outcome ◌>>=◌ first_met
  lookup_split room = rw (le-ltb _ _ room)

-- ---- what is found is in the file

pub bind_taken : {A B : Type 0} (m : Outcome A) (k : A → Outcome B) (v : B) → accepted v ≡ (m >>= k) → (u : A) × (accepted u ≡ m) × (accepted v ≡ k u)
bind_taken m k v e = let t = both_taken m k v (sym e) in (t.0, sym t.1, sym t.2)

found_rules_lem : (s : List ℕ) (h : Halved) (from len c : ℕ) → accepted (found from len c) ≡ found_outcome s h → from + 8 * len ≤ length s
unfolding found_outcome found_rules
found_rules_lem s (missing m) from len c e = cc
found_rules_lem s (met at m) from len c e =
    let k = accepted_none (found_rules s at) (found (values_at s at) (size s at).value m) (found from len c) (sym e) in
    let q = k.1 in
    let a : values_at s at ≡ from = cc in
    let b : (size s at).value ≡ len = cc in
    let z : values_at s at + 8 * (size s at).value ≤ length s = ltb-false (length s) (values_at s at + 8 * (size s at).value) k.0.1.1.0 in
    rw (a, b) at z

pub found_inside : (s t : List ℕ) (n : ℕ) (key : List ℕ) (from len c : ℕ) → accepted (found from len c) ≡ lookup_outcome s t n key → from + 8 * len ≤ length s
unfolding lookup_outcome
found_inside s t n key from len c e =
    let a = bind_taken (checked (rule ROOM n (ltb (length t) n) ∷ [])) (λ _. halving s t key n 0 n 0 >>= found_outcome s) (found from len c) e in
    let b = bind_taken (halving s t key n 0 n 0) (found_outcome s) (found from len c) a.2 in
    found_rules_lem s b.0 from len c b.2

-- a part of the file, as the code cuts it
pub part_at : (s : List ℕ) (from m : ℕ) → take (from + m - from) (drop from s) ≡ slice from (from + m) s
part_at s from m = let e : from + m - from ≡ m = omega arith in rw e (sym (drop-take from m s))

-- ---- the number that the lookup reports

abbrev pub compared_in : Looked → ℕ
compared_in (found at len c) = c
compared_in (absent c) = c

found_compared : (s : List ℕ) (h : Halved) (l : Looked) → accepted l ≡ found_outcome s h → compared_in l ≡ compared_by h
unfolding found_outcome
found_compared s (missing m) l e = let q : absent m ≡ l = cc in rw (← q)
found_compared s (met at m) l e = let q = (accepted_none (found_rules s at) (found (values_at s at) (size s at).value m) l (sym e)).1 in rw (← q)

-- it is at most the bit length of n
pub lookup_bits : (s t : List ℕ) (n : ℕ) (key : List ℕ) (l : Looked) → n < 2 ^ 64 → lookup_outcome s t n key ≡ accepted l → compared_in l ≤ bit_length n
unfolding lookup_outcome
lookup_bits s t n key l h e =
    let a = bind_taken (checked (rule ROOM n (ltb (length t) n) ∷ [])) (λ _. halving s t key n 0 n 0 >>= found_outcome s) l (sym e) in
    let b = bind_taken (halving s t key n 0 n 0) (found_outcome s) l a.2 in
    rw (found_compared s b.0 l b.2) (compared_bits s t key b.0 n h (sym b.1))
