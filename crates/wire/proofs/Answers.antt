-- An answer can be had back from what is shown of it, so a promise on what is shown allows one answer. And what functions that run stages
-- need of an answer: a refusal stands, and what it accepts is handed on.
-- Assumes nothing.
use mathlib.Core.Path.{◌≡◌, refl, ap}
use Prim.Native.Nat.{ℕ}
use Rattle.std.specs.Prelude.{Result, Ok, Err}
use Rattle.wire.specs.Table.{Outcome, refused, accepted, ◌>>=◌}
use Rattle.wire.specs.Refusals.{number_of}
use Rattle.wire.specs.Shown.{shown}
use Rattle.wire.specs.declared.refusal.Refused.{Refused}
use Rattle.wire.specs.declared.units.ByteOffset.{ByteOffset}
use Rattle.wire.specs.declared.units.Cursor.{Cursor}
use Rattle.wire.proofs.Stages.{stops, goes_on}
use Rattle.wire.proofs.Tables.{same_answer}
use Rattle.wire.proofs.Refusals.{refusal_of, refusal_again}

abbrev pub place : ℕ → ByteOffset
place p = record { 0 = p }

abbrev pub cursor : ℕ → Cursor
cursor p = record { at = place p }

module _ {A B P : Type 0} (says : A → B) (number : P → ℕ) where
  -- the answer of an outcome, by what takes values and places back
  abbrev pub back : (B → A) → (ℕ → P) → Outcome B → Result A (Refused P)
  back value place (refused n p) = Err (record { why = refusal_of n; at = place p })
  back value place (accepted v) = Ok (value v)

  module _ (value : B → A) (place : ℕ → P) (values : (v : A) → value (says v) ≡ v) (places : (p : P) → place (number p) ≡ p) where
    pub again : (r : Result A (Refused P)) → back value place (shown says number r) ≡ r
    again (Ok v) = ap (λ (x : A). Ok x) (values v)
    again (Err r) = rw (refusal_again r.why, places r.at) refl

    -- so two answers of which the same is shown are equal
    pub one_answer : (o : Outcome B) (r r' : Result A (Refused P)) → shown says number r ≡ o → shown says number r' ≡ o → r ≡ r'
    one_answer = same_answer (shown says number) (back value place) again

  module _ {C : Type 0} (r : Result A (Refused P)) (m : Outcome B) (k : B → Outcome C) (said : shown says number r ≡ m) where
    pub answer_stops : (e : Refused P) → r ≡ Err e → refused (number_of e.why) (number e.at) ≡ (m >>= k)
    answer_stops e q = stops _ m k _ _ said (ap (shown says number) q)

    pub answer_goes_on : (v : A) (y : Outcome C) → r ≡ Ok v → y ≡ k (says v) → y ≡ (m >>= k)
    answer_goes_on v y q e = goes_on _ m k _ y said (ap (shown says number) q) e
