-- Stages in a row: a table of several segments is the stages of the segments, one after the other.
-- Assumes nothing.
use mathlib.Core.Path.{◌≡◌, refl, sym, ap, ◌∙◌}
use mathlib.Core.List.{List, [], ◌∷◌, ◌++◌}
use mathlib.Core.Bool.{Bool, true, false}
use mathlib.Core.Logic.{◌⊎◌, inl, inr}
use Prim.Native.Nat.{ℕ}
use native.Mathlib.Omega.{arith}
use Rattle.wire.specs.Table.{Rule, Outcome, refused, accepted, pick, first_met, ◌>>=◌}

module _ {A B : Type 0} where
  pick_then : (m : Bool) (n p : ℕ) (x : Outcome B) (y : Outcome A) (k : A → Outcome B) → x ≡ (y >>= k) → pick m (refused n p) x ≡ (pick m (refused n p) y >>= k)
  unfolding ◌>>=◌
  pick_then true n p x y k e = refl
  pick_then false n p x y k e = e

  -- a segment a, and what follows it, which may depend on the values u that a accepts with
  pub in_turn : (a : List Rule) (u : A) (b : A → List Rule) (v : A → B) (k : A → Outcome B) → ((t : A) → first_met (b t) (v t) ≡ k t) → first_met (a ++ b u) (v u) ≡ (first_met a u >>= k)
  unfolding first_met ◌>>=◌
  in_turn [] u b v k h = h u
  in_turn (r ∷ rs) u b v k h = pick_then r.met r.number r.place _ _ k (in_turn rs u b v k h)

  -- the same segment with other values
  pub in_the_end : (a : List Rule) (u : A) (v : A → B) → first_met a (v u) ≡ (first_met a u >>= (λ x. accepted (v x)))
  unfolding first_met ◌>>=◌
  in_the_end [] u v = refl
  in_the_end (r ∷ rs) u v = pick_then r.met r.number r.place _ _ _ (in_the_end rs u v)

  -- What a stage said is known: a refusal stands, and what it accepts is handed on.
  pub stops : (x m : Outcome A) (k : A → Outcome B) (n p : ℕ) → x ≡ m → x ≡ refused n p → refused n p ≡ (m >>= k)
  unfolding ◌>>=◌
  stops x m k n p said e = ap (λ o. o >>= k) (sym e ∙ said)

  pub goes_on : (x m : Outcome A) (k : A → Outcome B) (w : A) (y : Outcome B) → x ≡ m → x ≡ accepted w → y ≡ k w → y ≡ (m >>= k)
  unfolding ◌>>=◌
  goes_on x m k w y said e q = q ∙ ap (λ o. o >>= k) (sym e ∙ said)

  -- what stages in a row accept, each of them accepted
  pub both_taken : (m : Outcome A) (k : A → Outcome B) (w : B) → (m >>= k) ≡ accepted w → (v : A) × (m ≡ accepted v) × (k v ≡ accepted w)
  unfolding ◌>>=◌
  both_taken (refused n p) k w e = let z : ◌≡◌ {A = ℕ} 0 1 = cc in absurd (omega arith)
  both_taken (accepted v) k w e = (v, refl, e)

  -- stages in a row that refuse: the first does, or it accepts and what follows does
  pub first_or_later : (m : Outcome A) (k : A → Outcome B) (n p : ℕ) → (m >>= k) ≡ refused n p → (m ≡ refused n p) ⊎ ((v : A) × ((m ≡ accepted v) × (k v ≡ refused n p)))
  unfolding ◌>>=◌
  first_or_later (refused a b) k n p e =
      let number : a ≡ n = cc in
      let place : b ≡ p = cc in
      inl (rw (number, place))
  first_or_later (accepted v) k n p e = inr (v, (refl, e))
