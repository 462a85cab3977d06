-- A piece as a stage of code: it answers with the refusal of its first met rule, or with its value and the place after it. The stage of a piece
-- made of others is their stages in a row, so the code's functions can follow the pieces (the Split of `scan`, from the pieces).
-- Assumes nothing.
use mathlib.Core.Path.{◌≡◌, refl}
use mathlib.Core.List.{List}
use mathlib.Core.Logic.{◌↔◌}
use Prim.Native.Nat.{ℕ}
use Rattle.wire.specs.Table.{Rule, Outcome, accepted, first_met, NoneMet, ◌>>=◌, At}
use Rattle.wire.proofs.Stages.{in_turn, in_the_end}
use Rattle.wire.proofs.Piece.{Piece, Tests, placed, Steady, then, checked, guarded}

abbrev pub stage : {A : Type 0} → Piece A → List ℕ → ℕ → Outcome (At A)
stage P s at = first_met (P.rules s at) (record { value = P.value s at; next = P.next s at })

module _ {A B : Type 0} (P : Piece A) (Q : A → Piece B) (steady : Steady P Q) (s : List ℕ) (at : ℕ) where
  abbrev pair : At A → At B → At (A × B)
  pair a b = record { value = (a.value, b.value); next = b.next }

  pub stage_then : stage (then P Q steady) s at ≡ (stage P s at >>= (λ a. stage (Q a.value) s a.next >>= (λ b. accepted (pair a b))))
  stage_then =
      in_turn (P.rules s at) (record { value = P.value s at; next = P.next s at }) (λ a. (Q a.value).rules s a.next)
      (λ a. pair a (record { value = (Q a.value).value s a.next; next = (Q a.value).next s a.next })) _
      (λ a. in_the_end ((Q a.value).rules s a.next) _ (pair a))

module _ {A : Type 0} (P : Piece A) (R : List ℕ → ℕ → A → List Rule) (G : A → Type 0)
    (means : (s : List ℕ) (at : ℕ) (v : A) → NoneMet (R s at v) ↔ G v) (steady : (v : A) → G v → G (P.trim v)) (s : List ℕ) (at : ℕ) where
  pub stage_checked : stage (checked P R G means steady) s at ≡ (stage P s at >>= (λ a. first_met (R s at a.value) a))
  stage_checked = in_turn (P.rules s at) _ (λ a. R s at a.value) (λ a. a) _ (λ a. refl)

module _ {A : Type 0} (tests : Tests) (P : Piece A) (s : List ℕ) (at : ℕ) where
  pub stage_guarded : stage (guarded tests P) s at ≡ (first_met {A = Unit {0}} (placed at tests) tt >>= (λ _. stage P s at))
  stage_guarded = in_turn (placed at tests) tt (λ _. P.rules s at) (λ _. record { value = P.value s at; next = P.next s at }) _ (λ _. refl)
