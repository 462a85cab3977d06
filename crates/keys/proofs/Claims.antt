-- A claim on the order of keys. Where its numbers are below their number and each comes after the one before it, no number stands twice, so by the
-- pigeonhole each key has its place; and a key that an earlier one is stands right behind a key like it (`follows_like`). So the pass over the
-- claim, which notes the least number that follows its like, ends with the first key that stands twice (`known_ends`).
-- Assumes nothing.
use mathlib.Core.Path.{◌≡◌, refl, sym, ap, ◌∙◌}
use mathlib.Core.List.{List, [], ◌∷◌}
use mathlib.Core.Bool.{Bool, true, false, ◌&&◌, cond}
use mathlib.Core.Logic.{◌⊎◌, inl, inr, ⊎_elim}
use Prim.Native.Nat.{ℕ, zero, suc, ◌+◌, ◌*◌, ◌≤◌, ◌<◌}
use native.Mathlib.Decide.{ℕ_discrete}
use native.Mathlib.Omega.{arith}
use borrow.Author.Tests.{lt-ltb, ltb-true, ltb-false, eq-eqb, eqb-true}
use lib.Dec.{ltb, eqb}
use lib.ListN.{length, get_or}
use Rattle.wire.specs.Words.{word_order}
use Rattle.std.specs.declared.cmp.Ordering.{Ordering}
use Rattle.std.specs.declared.cmp.Ordering.TheVariants.{Less, Equal, Greater}
use Rattle.wire.proofs.Counts.{lt_or_ge}
use Rattle.wire.proofs.Words.{order_transitive, order_same}
use Rattle.keys.specs.Keys.{seen_key, or_else}
use Rattle.keys.specs.Claim.{key_at, keys_before, comes_after, in_order, first_twice, claimed}
use Rattle.std.specs.Prelude.{Option, Some, None}
use Rattle.keys.specs.Sort.{earlier}
use Rattle.keys.specs.declared.claim.Claim.{Claim}
use Rattle.keys.specs.declared.claim.Claim.TheVariants.{Wrong, Apart, Repeat}
use Rattle.keys.proofs.Keys.{Lt, Le, never, false_true, lt_irreflexive, lt_le, le_lt, le_same}
use Rattle.keys.proofs.Lent.{all_others, one_seen}
use Rattle.keys.proofs.Pigeonhole.{pigeonhole}

-- ---- (key, number): a pair rises to another

abbrev Rise : List ℕ → ℕ → List ℕ → ℕ → Type 0
Rise x a y b = Lt x y ⊎ ((x ≡ y) × (a < b))

rise_trans : (x : List ℕ) (a : ℕ) (y : List ℕ) (b : ℕ) (z : List ℕ) (c : ℕ) → Rise x a y b → Rise y b z c → Rise x a z c
rise_trans x a y b z c (inl p) (inl q) = inl (order_transitive x y z p q)
rise_trans x a y b z c (inl p) (inr q) = inl (lt_le x y z p (inr q.0))
rise_trans x a y b z c (inr p) (inl q) = inl (le_lt x y z (inr p.0) q)
rise_trans x a y b z c (inr p) (inr q) = inr (p.0 ∙ q.0, omega arith)

rise_le : (x : List ℕ) (a : ℕ) (y : List ℕ) (b : ℕ) → Rise x a y b → Le x y
rise_le x a y b (inl p) = inl p
rise_le x a y b (inr p) = inr p.0

-- with one key, the number rises
rise_number : (x : List ℕ) (a : ℕ) (y : List ℕ) (b : ℕ) → x ≡ y → Rise x a y b → a < b
rise_number x a y b e (inl p) = absurd (lt_irreflexive x (lt_le x y x p (inr (sym e))))
rise_number x a y b e (inr p) = p.1

le_from : (x y z : List ℕ) → x ≡ y → Le x z → Le y z
le_from x y z e h = rw (sym e) h

after_rise : (keys : List ℕ) (a b : ℕ) → comes_after keys a b ≡ true → Rise (key_at keys a) a (key_at keys b) b
unfolding comes_after
after_rise keys a b h = go (word_order (key_at keys a) (key_at keys b)) refl h
  where
    go : (o : Ordering) → word_order (key_at keys a) (key_at keys b) ≡ o → or_else o (ltb a b) ≡ true → Rise (key_at keys a) a (key_at keys b) b
    go Less e h = inl e
    go Equal e h = inr ((order_same (key_at keys a) (key_at keys b)).0 e, ltb-true a b h)
    go Greater e h = never (false_true (sym h))

-- ---- n numbers below n, each of which comes after the one before it

module _ (key : ℕ → List ℕ) (n : ℕ) (f : ℕ → ℕ) (below : (p : ℕ) → p < n → f p < n)
    (rise : (p : ℕ) → suc p < n → Rise (key (f p)) (f p) (key (f (suc p))) (f (suc p))) where
  -- from each to any later one
  far : (p q : ℕ) → p < q → q < n → Rise (key (f p)) (f p) (key (f q)) (f q)
  far p zero l m = absurd (omega arith)
  far p (suc q) l m =
      elim (ℕ_discrete p q) [
        | yes e ↦ rw e (rise q m)
        | no d ↦ rise_trans (key (f p)) (f p) (key (f q)) (f q) (key (f (suc q))) (f (suc q)) (far p q (omega arith) (omega arith)) (rise q m)
      ]

  -- no number stands twice
  different : (p q : ℕ) → p < q → q < n → f p ≡ f q → ⊥
  different p q l m e = let r = rise_number (key (f p)) (f p) (key (f q)) (f q) (ap key e) (far p q l m) in omega arith

  -- of two places with one key, the lower number's comes first
  in_turn : (p q : ℕ) → p < n → q < n → f p < f q → key (f p) ≡ key (f q) → p < q
  in_turn p q a b l same =
      ⊎_elim
      (λ h. h)
      (λ h.
      elim (ℕ_discrete p q) [
        | yes e ↦ let z : f p ≡ f q = ap f e in absurd (omega arith)
        | no d ↦ let r = rise_number (key (f q)) (f q) (key (f p)) (f p) (sym same) (far q p (omega arith) a) in absurd (omega arith)
      ])
      (lt_or_ge p q)

  -- and the later one's key is that of the number before it
  like : (p q : ℕ) → p < q → q < n → key (f p) ≡ key (f q) → (k : ℕ) × ((suc k < n) × ((key (f k) ≡ key (f (suc k))) × (f (suc k) ≡ f q)))
  like p zero l m same = absurd (omega arith)
  like p (suc k) l m same =
      let up : Le (key (f k)) (key (f (suc k))) = rise_le (key (f k)) (f k) (key (f (suc k))) (f (suc k)) (rise k m) in
      let down : Le (key (f p)) (key (f k)) =
      elim (ℕ_discrete p k) [ yes e ↦ inr (ap key (ap f e)) | no d ↦ rise_le (key (f p)) (f p) (key (f k)) (f k) (far p k (omega arith) (omega arith)) ] in
      (k, (m, (le_same (key (f k)) (key (f (suc k))) up (le_from (key (f p)) (key (f (suc k))) (key (f k)) same down), refl)))

  -- a key that an earlier one is follows its like
  from_places : (i j p q : ℕ) → i < j → key i ≡ key j → p < n → f p ≡ i → q < n → f q ≡ j → (k : ℕ) × ((suc k < n) × ((key (f k) ≡ key (f (suc k))) × (f (suc k) ≡ j)))
  from_places i j p q l same a at_p b at-q =
      let one : key (f p) ≡ key (f q) = ap key at_p ∙ same ∙ ap key (sym at-q) in
      let r = like p q (in_turn p q a b (omega arith) one) b one in
      (r.0, (r.1.0, (r.1.1.0, r.1.1.1 ∙ at-q)))

  pub follows_like : (i j : ℕ) → i < j → j < n → key i ≡ key j → (k : ℕ) × ((suc k < n) × ((key (f k) ≡ key (f (suc k))) × (f (suc k) ≡ j)))
  follows_like i j l m same =
      let x = pigeonhole n f below different i (omega arith) in
      let y = pigeonhole n f below different j m in
      from_places i j x.0 y.0 l same x.1.0 x.1.1 y.1.0 y.1.1

-- ---- `in_order`, by place

both : (a b : Bool) → (a && b) ≡ true → (a ≡ true) × (b ≡ true)
both true b e = (refl, e)
both false b e = never (false_true (sym e))

module _ (keys : List ℕ) (n : ℕ) where
  below_out : (l : List ℕ) → in_order keys n l ≡ true → (p : ℕ) → p < length l → get_or l p 0 < n
  unfolding in_order
  below_out [] h p m = absurd (omega arith)
  below_out (a ∷ []) h zero m = ltb-true a n h
  below_out (a ∷ []) h (suc p) m = absurd (omega arith)
  below_out (a ∷ (b ∷ l)) h zero m = ltb-true a n (both (ltb a n) (comes_after keys a b) (both (ltb a n && comes_after keys a b) (in_order keys n (b ∷ l)) h).0).0
  below_out (a ∷ (b ∷ l)) h (suc p) m = below_out (b ∷ l) (both (ltb a n && comes_after keys a b) (in_order keys n (b ∷ l)) h).1 p (omega arith)

  rise_out : (l : List ℕ) → in_order keys n l ≡ true → (p : ℕ) → suc p < length l → comes_after keys (get_or l p 0) (get_or l (suc p) 0) ≡ true
  unfolding in_order
  rise_out [] h p m = absurd (omega arith)
  rise_out (a ∷ []) h p m = absurd (omega arith)
  rise_out (a ∷ (b ∷ l)) h zero m = (both (ltb a n) (comes_after keys a b) (both (ltb a n && comes_after keys a b) (in_order keys n (b ∷ l)) h).0).1
  rise_out (a ∷ (b ∷ l)) h (suc p) m = rise_out (b ∷ l) (both (ltb a n && comes_after keys a b) (in_order keys n (b ∷ l)) h).1 p (omega arith)

  order_in : (l : List ℕ) → ((p : ℕ) → p < length l → get_or l p 0 < n) → ((p : ℕ) → suc p < length l → comes_after keys (get_or l p 0) (get_or l (suc p) 0) ≡ true)
      → in_order keys n l ≡ true
  unfolding in_order
  order_in [] below rise = refl
  order_in (a ∷ []) below rise = lt-ltb a n (below 0 (omega arith))
  order_in (a ∷ (b ∷ l)) below rise =
      rw (lt-ltb a n (below 0 (omega arith)), rise 0 (omega arith), order_in (b ∷ l) (λ p h. below (suc p) (omega arith)) (λ p h. rise (suc p) (omega arith)))

-- ---- the first key that stands twice

abbrev pub seen_at : List ℕ → ℕ → Bool
seen_at keys i = seen_key (keys_before keys i) (key_at keys i)

differ : {P : Type 0} (i : ℕ) → Repeat i ≡ Apart → P
differ i e = let z : ◌≡◌ {A = ℕ} 0 1 = cc in absurd (omega arith)

module _ (keys : List ℕ) where
  none_in : (m i : ℕ) → ((q : ℕ) → i ≤ q → q < i + m → seen_at keys q ≡ false) → first_twice keys m i ≡ Apart
  unfolding first_twice
  none_in zero i h = refl
  none_in (suc m) i h = rw (h i (omega arith) (omega arith)) (none_in m (suc i) (λ q a b. h q (omega arith) (omega arith)))

  none_out : (m i : ℕ) → first_twice keys m i ≡ Apart → (q : ℕ) → i ≤ q → q < i + m → seen_at keys q ≡ false
  unfolding first_twice
  none_out zero i h q a b = absurd (omega arith)
  none_out (suc m) i h q a b = go (seen_at keys i) refl h (λ e c. none_out m (suc i) e q c (omega arith))
    where
      go : (t : Bool) → seen_at keys i ≡ t → cond t (Repeat i) (first_twice keys m (suc i)) ≡ Apart → (first_twice keys m (suc i) ≡ Apart → suc i ≤ q → seen_at keys q ≡ false)
          → seen_at keys q ≡ false
      go true e h ih = differ i h
      go false e h ih = elim (ℕ_discrete q i) [ yes s ↦ rw s e | no d ↦ ih h (omega arith) ]

  first_in : (m i r : ℕ) → i ≤ r → r < i + m → ((q : ℕ) → i ≤ q → q < r → seen_at keys q ≡ false) → seen_at keys r ≡ true → first_twice keys m i ≡ Repeat r
  unfolding first_twice
  first_in zero i r a b h e = absurd (omega arith)
  first_in (suc m) i r a b h e =
      elim (ℕ_discrete i r) [
        | yes s ↦ rw (s, e)
        | no d ↦ rw (h i (omega arith) (omega arith)) (first_in m (suc i) r (omega arith) (omega arith) (λ q c l. h q (omega arith) l) e)
      ]

  -- what is so of the first
  pub record First (i r : ℕ) : Type 0 where
    pub from : i ≤ r
    pub seen : seen_at keys r ≡ true
    pub new : (q : ℕ) → i ≤ q → q < r → seen_at keys q ≡ false

  first_out : (m i r : ℕ) → first_twice keys m i ≡ Repeat r → First i r
  unfolding first_twice
  first_out zero i r h = differ r (sym h)
  first_out (suc m) i r h = go (seen_at keys i) refl h (λ e. first_out m (suc i) r e)
    where
      one : Repeat i ≡ Repeat r → i ≡ r
      one e = cc

      go : (t : Bool) → seen_at keys i ≡ t → cond t (Repeat i) (first_twice keys m (suc i)) ≡ Repeat r → (first_twice keys m (suc i) ≡ Repeat r → First (suc i) r) → First i r
      go true e h ih =
          let s : i ≡ r = one h in
          record { from = omega arith; seen = rw (sym s) e; new = λ q a b. absurd (omega arith) }
      go false e h ih =
          let k = ih h in
          record {
            from = omega (arith, k.from);
            seen = k.seen;
            new = λ q a b. elim (ℕ_discrete q i) [ yes s ↦ rw s e | no d ↦ k.new q (omega arith) b ];
          }

-- ---- the pass over a claim: what is known of the first j numbers

-- each is below the number of keys, and comes after the one before it
pub record Along (keys order : List ℕ) (j : ℕ) : Type 0 where
  pub below : (p : ℕ) → p < j → get_or order p 0 < length order
  pub rise : (p : ℕ) → suc p < j → comes_after keys (get_or order p 0) (get_or order (suc p) 0) ≡ true

-- the number at place p + 1 follows its like
abbrev Like : List ℕ → List ℕ → ℕ → Type 0
Like keys order p = key_at keys (get_or order p 0) ≡ key_at keys (get_or order (suc p) 0)

-- one of them, r, follows its like
abbrev Noted : List ℕ → List ℕ → ℕ → ℕ → Type 0
Noted keys order j r = (p : ℕ) × ((suc p < j) × (Like keys order p × (get_or order (suc p) 0 ≡ r)))

abbrev pub SoFar : List ℕ → List ℕ → ℕ → Option ℕ → Type 0
SoFar keys order j None = Along keys order j × ((p : ℕ) → suc p < j → Like keys order p → ⊥)
SoFar keys order j (Some r) = Along keys order j × (Noted keys order j r × ((p : ℕ) → suc p < j → Like keys order p → r ≤ get_or order (suc p) 0))

-- and what is known with them
abbrev pub Known : List ℕ → List ℕ → ℕ → Claim → Type 0
Known keys order j Wrong = in_order keys (length order) order ≡ true → ⊥
Known keys order j Apart = SoFar keys order j None
Known keys order j (Repeat r) = SoFar keys order j (Some r)

-- of all below i and of i
upto : (P : ℕ → Type 0) (i : ℕ) → ((p : ℕ) → suc p < suc i → P p) → P i → (p : ℕ) → suc p < suc (suc i) → P p
upto P i all last p l = elim (ℕ_discrete p i) [ yes e ↦ rw e last | no d ↦ all p (omega arith) ]

module _ (keys order : List ℕ) where
  pub known_first : get_or order 0 0 < length order → SoFar keys order 1 None
  known_first h = (
    record { below = λ p l. let z : p ≡ 0 = omega arith in rw z h; rise = λ p l. absurd (omega arith) },
    λ p l e. absurd (omega arith),
  )

  module _ (i : ℕ) (h : suc i < length order) where
    abbrev a : ℕ
    a = get_or order i 0

    abbrev b : ℕ
    b = get_or order (suc i) 0

    along_next : b < length order → comes_after keys a b ≡ true → Along keys order (suc i) → Along keys order (suc (suc i))
    along_next l r so =
        record {
          below = λ p m. elim (ℕ_discrete p (suc i)) [ yes e ↦ rw e l | no d ↦ so.below p (omega arith) ];
          rise = upto (λ p. comes_after keys (get_or order p 0) (get_or order (suc p) 0) ≡ true) i so.rise r;
        }

    noted_still : (r : ℕ) → Noted keys order (suc i) r → Noted keys order (suc (suc i)) r
    noted_still r k = (k.0, (omega (arith, k.1.0), k.1.1))

    -- b's key is above
    risen : (best : Option ℕ) → b < length order → comes_after keys a b ≡ true → (Like keys order i → ⊥) → SoFar keys order (suc i) best → SoFar keys order (suc (suc i)) best
    risen None l r d k = (along_next l r k.0, upto (λ p. Like keys order p → ⊥) i k.1 d)
    risen (Some x) l r d k = (
      along_next l r k.0,
      (noted_still x k.1.0, upto (λ p. Like keys order p → x ≤ get_or order (suc p) 0) i k.1.1 (λ e. absurd (d e))),
    )

    -- b's key is the same
    repeated : (best : Option ℕ) → b < length order → comes_after keys a b ≡ true → Like keys order i → SoFar keys order (suc i) best → SoFar keys order (suc (suc i)) (earlier best b)
    repeated None l r e k = (
      along_next l r k.0,
      ((i, (omega arith, (e, refl))), upto (λ p. Like keys order p → b ≤ get_or order (suc p) 0) i (λ p m q. absurd (k.1 p m q)) (λ q. omega arith)),
    )
    repeated (Some x) l r e k = go (ltb b x) refl
      where
        go : (t : Bool) → ltb b x ≡ t → SoFar keys order (suc (suc i)) (cond t (Some b) (Some x))
        go true q =
            let less : b < x = ltb-true b x q in (
              along_next l r k.0,
              ((i, (omega arith, (e, refl))), upto (λ p. Like keys order p → b ≤ get_or order (suc p) 0) i (λ p m s. let g = k.1.1 p m s in omega arith) (λ s. omega arith)),
            )
        go false q =
            let less : x ≤ b = ltb-false b x q in (
              along_next l r k.0,
              (noted_still x k.1.0, upto (λ p. Like keys order p → x ≤ get_or order (suc p) 0) i k.1.1 (λ s. less)),
            )

    apart : (o : Ordering) → word_order (key_at keys a) (key_at keys b) ≡ o → (comes_after keys a b ≡ or_else o (ltb a b)) × (o ≡ Less → Like keys order i → ⊥)
    unfolding comes_after
    apart o e = (rw e, λ f s. lt_irreflexive (key_at keys b) (rw s at (e ∙ f)))

  -- the answers of the pass, at number i of what comes after the first number x
  module _ (x : ℕ) (rest : List ℕ) (whole : order ≡ x ∷ rest) (i : ℕ) (h : i < length rest) (a : ℕ) (last : a ≡ get_or order i 0) where
    abbrev this : ℕ
    this = get_or rest i 0

    next : this ≡ get_or order (suc i) 0
    next = rw whole refl

    inside : suc i < length order
    inside = rw whole (omega arith)

    pub known_above : (best : Option ℕ) → this < length order → word_order (key_at keys a) (key_at keys this) ≡ Less → SoFar keys order (suc i) best → SoFar keys order (suc (suc i)) best
    known_above best l e k =
        let f = apart i inside Less (rw (last, next) at e) in
        risen i inside best (rw next at l) f.0 (f.1 refl) k

    pub known_same : (best : Option ℕ) → this < length order → word_order (key_at keys a) (key_at keys this) ≡ Equal → a < this → SoFar keys order (suc i) best
        → SoFar keys order (suc (suc i)) (earlier best this)
    known_same best l e m k =
        let f : word_order (key_at keys (get_or order i 0)) (key_at keys (get_or order (suc i) 0)) ≡ Equal = rw (last, next) at e in
        let n : get_or order i 0 < get_or order (suc i) 0 = rw (last, next) at m in
        rw next
        (repeated i inside best (rw next at l) ((apart i inside Equal f).0 ∙ lt-ltb _ _ n) ((order_same _ _).0 f) k)

    pub known_high : length order ≤ this → in_order keys (length order) order ≡ true → ⊥
    known_high l holds = let m = below_out keys (length order) order holds (suc i) inside in omega (arith, next)

    pub known_below : (o : Ordering) → word_order (key_at keys a) (key_at keys this) ≡ o → or_else o (ltb a this) ≡ false → in_order keys (length order) order ≡ true → ⊥
    known_below o e q holds =
        never (false_true (sym (rise_out keys (length order) order holds i inside) ∙ (apart i inside o (rw (last, next) at e)).0 ∙ rw (last, next) at q))

  -- ---- at the end

  module _ (so : Along keys order (length order)) where
    found : (i j : ℕ) → i < j → j < length order → key_at keys i ≡ key_at keys j → (k : ℕ) × ((suc k < length order) × (Like keys order k × (get_or order (suc k) 0 ≡ j)))
    found = follows_like (key_at keys) (length order) (λ p. get_or order p 0) so.below (λ p l. after_rise keys (get_or order p 0) (get_or order (suc p) 0) (so.rise p l))

    -- a key before which none is like it in the claim is no earlier one
    not_seen : (j : ℕ) → j < length order → ((k : ℕ) → suc k < length order → Like keys order k → get_or order (suc k) 0 ≡ j → ⊥) → seen_at keys j ≡ false
    not_seen j m d =
        all_others keys j (key_at keys j) (λ i l same.
        let r = found i j l m ((order_same (key_at keys i) (key_at keys j)).0 same) in
        d r.0 r.1.0 r.1.1.0 r.1.1.1)

    seen : (r : ℕ) → Noted keys order (length order) r → seen_at keys r ≡ true
    seen r k =
        let x = get_or order k.0 0 in
        let y = get_or order (suc k.0) 0 in
        let l : x < y = rise_number (key_at keys x) x (key_at keys y) y k.1.1.0 (after_rise keys x y (so.rise k.0 k.1.0)) in
        let m : x < r = omega (arith, k.1.1.1) in
        one_seen keys r x (key_at keys r) m ((order_same (key_at keys x) (key_at keys r)).1 (k.1.1.0 ∙ ap (key_at keys) k.1.1.1))

    holds : in_order keys (length order) order ≡ true
    holds = order_in keys (length order) order so.below so.rise

  module _ (long : length keys ≡ 4 * length order) where
    pub known_ends : (best : Claim) → Known keys order (length order) best → best ≡ claimed keys order
    unfolding claimed
    known_ends Wrong k = go (in_order keys (length order) order) refl
      where
        go : (t : Bool) → in_order keys (length order) order ≡ t → Wrong ≡ claimed keys order
        go true e = absurd (k e)
        go false e = rw (eq-eqb (length keys) (4 * length order) long, e)
    known_ends Apart k =
        rw (eq-eqb (length keys) (4 * length order) long, holds k.0)
        (sym (none_in keys (length order) 0 (λ q l m. not_seen k.0 q (omega arith) (λ p h like e. k.1 p h like))))
    known_ends (Repeat r) k =
        let top : r < length order = let l = k.0.below (suc k.1.0.0) k.1.0.1.0 in omega (arith, k.1.0.1.1.1) in
        rw (eq-eqb (length keys) (4 * length order) long, holds k.0)
        (sym (first_in keys (length order) 0 r (omega arith) (omega arith)
        (λ q l m. not_seen k.0 q (omega arith) (λ p h like e. let g = k.1.1 p h like in omega arith))
        (seen k.0 r k.1.0)))

  -- a claim of another length, and of no keys
  pub claim_long : (length keys ≡ 4 * length order → ⊥) → Wrong ≡ claimed keys order
  unfolding claimed
  claim_long d = go (eqb (length keys) (4 * length order)) refl
    where
      go : (t : Bool) → eqb (length keys) (4 * length order) ≡ t → Wrong ≡ claimed keys order
      go true e = absurd (d (eqb-true (length keys) (4 * length order) e))
      go false e = rw e

  pub known_none : length order ≡ 0 → Known keys order (length order) Apart
  known_none e = (record { below = λ p l. absurd (omega arith); rise = λ p l. absurd (omega arith) }, λ p l s. absurd (omega arith))

  pub first_high : length order ≤ get_or order 0 0 → 0 < length order → Known keys order (length order) Wrong
  first_high l m = λ holds. let b = below_out keys (length order) order holds 0 m in omega arith

-- ---- what a claim tells

module _ (keys order : List ℕ) where
  both_hold : (b c : Bool) (x y : Claim) → cond (b && c) x Wrong ≡ y → (y ≡ Wrong → ⊥) → (b ≡ true) × (x ≡ y)
  both_hold true true x y e d = (refl, e)
  both_hold true false x y e d = absurd (d (sym e))
  both_hold false c x y e d = absurd (d (sym e))

  pub claim_apart : claimed keys order ≡ Apart → (length keys ≡ 4 * length order) × ((q : ℕ) → q < length order → seen_at keys q ≡ false)
  unfolding claimed
  claim_apart e =
      let k = both_hold (eqb (length keys) (4 * length order)) (in_order keys (length order) order) (first_twice keys (length order) 0) Apart e (λ f. let z : ◌≡◌ {A = ℕ} 0 1 = cc in omega arith) in
      (eqb-true (length keys) (4 * length order) k.0, λ q l. none_out keys (length order) 0 k.1 q (omega arith) (omega arith))

  pub claim_repeat : (r : ℕ) → claimed keys order ≡ Repeat r → (seen_at keys r ≡ true) × ((q : ℕ) → q < r → seen_at keys q ≡ false)
  unfolding claimed
  claim_repeat r e =
      let k = both_hold (eqb (length keys) (4 * length order)) (in_order keys (length order) order) (first_twice keys (length order) 0) (Repeat r) e (λ f. let z : ◌≡◌ {A = ℕ} 0 1 = cc in omega arith) in
      let f = first_out keys (length order) 0 r k.1 in
      (f.seen, λ q l. f.new q (omega arith) l)
