-- What the clauses of an exported function say of its outcome. Assumes nothing.
use mathlib.Core.Path.{◌≡◌, refl, sym, ap, ◌∙◌}
use Prim.Native.Nat.{ℕ}
use Rattle.std.specs.Prelude.{Result, Ok, Err}
use Rattle.std.specs.Result.{OnErr}
use Rattle.wire.specs.Table.{Outcome, refused, accepted}
use Rattle.wire.specs.Shown.{shown}
use Rattle.wire.specs.declared.refusal.Refused.{Refused}
use Rattle.vekalumist.specs.Answers.{number_in, answered, placed}

-- the three clauses: the number, the answer, the place
abbrev pub Tells : {A : Type 0} → Outcome A → ℕ → A → A → ℕ → ℕ → Type 0
Tells o number before after from to = (number ≡ number_in o) × ((after ≡ answered before o) × (to ≡ placed from o))

-- where the answer is stored before it is told
pub stored : {A P : Type 0} (number : P → ℕ) (before after : A) (r : Result (Unit {0}) (Refused P)) (o : Outcome A) (from : ℕ) → shown (λ _. after) number r ≡ o
    → OnErr r (after ≡ before) → Tells o (number_in (shown (λ u. u) number r)) before after from (placed from (shown (λ u. u) number r))
unfolding number_in answered placed
stored number before after (Ok u) o from e kept = rw (← e) (refl, (refl, refl))
stored number before after (Err r) o from e kept = rw (← e) (refl, (kept, refl))

-- an acceptance: 0, the answer, and the place as it was
pub accepts : {A : Type 0} {v : A} {o : Outcome A} (before : A) (p : ℕ) → o ≡ accepted v → Tells o 0 before v p p
unfolding number_in answered placed
accepts before p e = (sym (ap number_in e), (sym (ap (answered before) e), sym (ap (placed p) e)))

-- a refusal: its number and its place, and the answer as it was
pub refuses : {A : Type 0} {n q r at : ℕ} {o : Outcome A} (before : A) (p : ℕ) → o ≡ refused n q → r ≡ n → at ≡ q → Tells o r before before p at
unfolding number_in answered placed
refuses before p e f g = (f ∙ sym (ap number_in e), (sym (ap (answered before) e), g ∙ sym (ap (placed p) e)))
