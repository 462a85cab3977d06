-- The pigeonhole: n different numbers below n are all of them.
-- Assumes nothing.
use mathlib.Core.Path.{◌≡◌, sym, ◌∙◌}
use mathlib.Core.Logic.{◌⊎◌, inl, inr, ⊎_elim}
use Prim.Native.Nat.{ℕ, zero, suc, ◌<◌}
use native.Mathlib.Decide.{ℕ_discrete}
use native.Mathlib.Omega.{arith}
use borrow.Author.Tests.{eq-eqb, ne_eqb}
use lib.Dec.{eqb}
use Rattle.wire.specs.Table.{pick}

-- suc n different numbers below suc n
module _ (n : ℕ) (f : ℕ → ℕ) (below : (i : ℕ) → i < suc n → f i < suc n) (apart : (i j : ℕ) → i < j → j < suc n → f i ≡ f j → ⊥) where
  -- the first n of them, with the last one in the place of n
  abbrev moved : ℕ → ℕ
  moved i = pick (eqb (f i) n) (f n) (f i)

  moved_is : (i : ℕ) → ((f i ≡ n) × (moved i ≡ f n)) ⊎ ((f i ≡ n → ⊥) × (moved i ≡ f i))
  moved_is i = elim (ℕ_discrete (f i) n) [ yes e ↦ inl (e, rw (eq-eqb (f i) n e)) | no d ↦ inr (d, rw (ne_eqb (f i) n d)) ]

  -- are different numbers below n
  moved_below : (i : ℕ) → i < n → moved i < n
  moved_below i l =
      ⊎_elim
      (λ a.
      let last : f n < suc n = below n (omega arith) in
      let other : f n ≡ n → ⊥ = (λ e. apart i n l (omega arith) (a.0 ∙ sym e)) in
      let m : f n < n = omega arith in
      rw a.1 m)
      (λ a. let m : f i < suc n = below i (omega arith) in let other : f i ≡ n → ⊥ = a.0 in let k : f i < n = omega arith in rw a.1 k)
      (moved_is i)

  moved_apart : (i j : ℕ) → i < j → j < n → moved i ≡ moved j → ⊥
  moved_apart i j l m e =
      ⊎_elim
      (λ a.
      ⊎_elim
      (λ b. apart i j l (omega arith) (a.0 ∙ sym b.0))
      (λ b. apart j n m (omega arith) (sym (sym a.1 ∙ e ∙ b.1)))
      (moved_is j))
      (λ a.
      ⊎_elim
      (λ b. apart i n (omega arith) (omega arith) (sym a.1 ∙ e ∙ b.1))
      (λ b. apart i j l (omega arith) (sym a.1 ∙ e ∙ b.1))
      (moved_is j))
      (moved_is i)

  -- where these are all below n, those are all below suc n
  one_more : ((k : ℕ) → k < n → (i : ℕ) × ((i < n) × (moved i ≡ k))) → (k : ℕ) → k < suc n → (i : ℕ) × ((i < suc n) × (f i ≡ k))
  one_more all k h =
      elim (ℕ_discrete (f n) k) [
        | yes e ↦ (n, (omega arith, e))
        | no d ↦ elim (ℕ_discrete k n) [ yes e ↦ highest d e (all (f n) (let m = below n (omega arith) in omega arith)) | no m ↦ lower d (all k (omega arith)) ]
      ]
    where
      highest : (f n ≡ k → ⊥) → k ≡ n → (i : ℕ) × ((i < n) × (moved i ≡ f n)) → (i : ℕ) × ((i < suc n) × (f i ≡ k))
      highest d e r =
          ⊎_elim
          (λ a. (r.0, (omega (arith, r.1.0), a.0 ∙ sym e)))
          (λ a. absurd (apart r.0 n r.1.0 (omega arith) (sym a.1 ∙ r.1.1)))
          (moved_is r.0)

      lower : (f n ≡ k → ⊥) → (i : ℕ) × ((i < n) × (moved i ≡ k)) → (i : ℕ) × ((i < suc n) × (f i ≡ k))
      lower d r =
          ⊎_elim
          (λ a. absurd (d (sym a.1 ∙ r.1.1)))
          (λ a. (r.0, (omega (arith, r.1.0), sym a.1 ∙ r.1.1)))
          (moved_is r.0)

-- n different numbers below n: each number below n is one of them
pub pigeonhole : (n : ℕ) (f : ℕ → ℕ) → ((i : ℕ) → i < n → f i < n) → ((i j : ℕ) → i < j → j < n → f i ≡ f j → ⊥)
    → (k : ℕ) → k < n → (i : ℕ) × ((i < n) × (f i ≡ k))
pigeonhole zero f below apart k h = absurd (omega arith)
pigeonhole (suc n) f below apart k h =
    one_more n f below apart (pigeonhole n (moved n f below apart) (moved_below n f below apart) (moved_apart n f below apart)) k h
