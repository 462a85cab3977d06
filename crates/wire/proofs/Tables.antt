-- The laws of rule tables.
--     accepts_exactly   a table accepts exactly if no rule is met, and then with its values
--     first_rule, rule_first   it refuses exactly with a rule that is met, all earlier ones unmet
--     same_answer       two answers of which the same is shown are equal
-- Assumes nothing.
use mathlib.Core.Path.{◌≡◌, refl, sym, ap, ◌∙◌}
use mathlib.Core.List.{List, [], ◌∷◌, ◌++◌}
use mathlib.Core.Bool.{Bool, true, false}
use mathlib.Core.Logic.{◌↔◌}
use Prim.Native.Nat.{ℕ}
use native.Mathlib.Omega.{arith}
use Rattle.wire.specs.Table.{Rule, Outcome, refused, accepted, pick, first_met, NoneMet, FirstMet}

-- ---- no rule is met

pub none_append : (a b : List Rule) → NoneMet a → NoneMet b → NoneMet (a ++ b)
none_append [] b h k = k
none_append (r ∷ a) b h k = (h.0, none_append a b h.1 k)

pub none_parts : (a b : List Rule) → NoneMet (a ++ b) → NoneMet a × NoneMet b
none_parts [] b h = (tt, h)
none_parts (r ∷ a) b h = let k = none_parts a b h.1 in ((h.0, k.0), k.1)

module _ {A : Type 0} where
  past : (m : Bool) (n p : ℕ) (x : Outcome A) (w : A) → pick m (refused n p) x ≡ accepted w → (m ≡ false) × (x ≡ accepted w)
  past true n p x w e = (cc, cc)
  past false n p x w e = (refl, e)

  pub accepted_none : (rs : List Rule) (u w : A) → first_met rs u ≡ accepted w → NoneMet rs × (u ≡ w)
  unfolding first_met
  accepted_none [] u w e = (tt, cc)
  accepted_none (r ∷ rs) u w e =
      let h = past r.met r.number r.place (first_met rs u) w e in
      let k = accepted_none rs u w h.1 in
      ((h.0, k.0), k.1)

  pub none_accepted : (rs : List Rule) (u : A) → NoneMet rs → first_met rs u ≡ accepted u
  unfolding first_met
  none_accepted [] u h = refl
  none_accepted (r ∷ rs) u h = rw h.0 (none_accepted rs u h.1)

  pub accepts_exactly : (rs : List Rule) (u w : A) → (first_met rs u ≡ accepted w) ↔ (NoneMet rs × (u ≡ w))
  accepts_exactly rs u w = (accepted_none rs u w, λ h. none_accepted rs u h.0 ∙ ap accepted h.1)

-- ---- the first rule that is met

module _ {A : Type 0} where
  step : (r : Rule) (rs : List Rule) (x : Outcome A) (n p : ℕ) → (x ≡ refused n p → FirstMet rs n p) → (m : Bool) → r.met ≡ m → pick m (refused r.number r.place) x ≡ refused n p → FirstMet (r ∷ rs) n p
  step r rs x n p rest true q e =
      record { before = []; here = r; after = rs; split = refl; unmet = tt; met = q; number = cc; place = cc }
  step r rs x n p rest false q e =
      let h = rest e in
      record {
        before = r ∷ h.before;
        here = h.here;
        after = h.after;
        split = ap (λ l. r ∷ l) h.split;
        unmet = (q, h.unmet);
        met = h.met;
        number = h.number;
        place = h.place;
      }

  met_here : (a : List Rule) (r : Rule) (b : List Rule) (u : A) (n p : ℕ) → NoneMet a → r.met ≡ true → r.number ≡ n → r.place ≡ p → first_met (a ++ (r ∷ b)) u ≡ refused n p
  unfolding first_met
  met_here [] r b u n p h m e q = rw (m, e, q)
  met_here (x ∷ a) r b u n p h m e q = rw h.0 (met_here a r b u n p h.1 m e q)

  pub first_rule : (rs : List Rule) (u : A) (n p : ℕ) → first_met rs u ≡ refused n p → FirstMet rs n p
  unfolding first_met
  first_rule [] u n p e = let z : ◌≡◌ {A = ℕ} 0 1 = cc in absurd (omega arith)
  first_rule (r ∷ rs) u n p e = step r rs (first_met rs u) n p (first_rule rs u n p) r.met refl e

  pub rule_first : (rs : List Rule) (u : A) (n p : ℕ) → FirstMet rs n p → first_met rs u ≡ refused n p
  rule_first rs u n p h = rw h.split (met_here h.before h.here h.after u n p h.unmet h.met h.number h.place)

  pub refuses_exactly : (rs : List Rule) (u : A) (n p : ℕ) → (first_met rs u ≡ refused n p) ↔ FirstMet rs n p
  refuses_exactly rs u n p = (first_rule rs u n p, rule_first rs u n p)

-- ---- the same rules at another place

abbrev pub replaced : ℕ → List Rule → List Rule
replaced p [] = []
replaced p (r ∷ rs) = record { met = r.met; number = r.number; place = p } ∷ replaced p rs

module _ {A B : Type 0} (p : ℕ) where
  pub replaced_refused : (rs : List Rule) (u : A) (v : B) (n q : ℕ) → first_met rs u ≡ refused n q → first_met (replaced p rs) v ≡ refused n p
  unfolding first_met
  replaced_refused [] u v n q e = cc
  replaced_refused (r ∷ rs) u v n q e = go (λ k. replaced_refused rs u v n q k) r.met e
    where
      go : (first_met rs u ≡ refused n q → first_met (replaced p rs) v ≡ refused n p) → (m : Bool)
          → pick m (refused r.number r.place) (first_met rs u) ≡ refused n q → pick m (refused r.number p) (first_met (replaced p rs) v) ≡ refused n p
      go later true k = let same : r.number ≡ n = cc in rw same
      go later false k = later k

-- ---- one answer

-- where the answer can be had back from what is shown of it, two answers of which the same is shown are equal
pub same_answer : {R O : Type 0} (show : R → O) (back : O → R) → ((r : R) → back (show r) ≡ r) → (o : O) (r r' : R) → show r ≡ o → show r' ≡ o → r ≡ r'
same_answer show back again o r r' e e' = sym (again r) ∙ ap back (e ∙ sym e') ∙ again r'
