-- The cases of the definitions, for the code's proofs.
-- Assumes nothing.
use mathlib.Core.Path.{◌≡◌, refl, sym, ap, ◌∙◌}
use mathlib.Core.Bool.{Bool, true, false}
use mathlib.Core.List.{List, [], ◌∷◌}
use Prim.Native.Nat.{ℕ, ◌+◌, ◌-◌, ◌^◌, ◌<◌}
use native.Mathlib.Omega.{arith}
use borrow.Author.Tests.{le-ltb}
use lib.Dec.{ltb}
use Rattle.std.specs.Prelude.{Result, Ok, Err}
use Rattle.std.specs.Result.{MatchResult, IsErrAnd}
use Rattle.std.proofs.lemmas.Result.{err_from_is_err_and}
use Rattle.wire.specs.Table.{Outcome, Rule, refused, accepted, pick, first_met, ◌>>=◌}
use Rattle.wire.specs.Shown.{shown}
use Rattle.wire.specs.declared.refusal.Refused.{Refused}
use Rattle.wire.specs.declared.units.ByteOffset.{ByteOffset}
use Rattle.wire.specs.Le.{le_at, short_rule, number_outcome}
use Rattle.wire.proofs.Stages.{in_turn, in_the_end}
use Rattle.wire.proofs.Tables.{replaced}
use Rattle.info.specs.Entry.{entry_of, decode_rules, decode_outcome, entry_rules, entry_outcome}
use Rattle.info.specs.Shown.{shown_decoded}
use Rattle.info.specs.declared.MastNodeEntry.{MastNodeEntry}

-- a payload of one number fits
pub single_fits : (p : ℕ) → p < 2 ^ 32 → ltb (2 ^ 32 - 1) p ≡ false
single_fits p h = le-ltb (2 ^ 32 - 1) p (omega arith)

-- an answer whose refusal is told at another place
abbrev pub moved : {A : Type 0} → ℕ → Outcome A → Outcome A
moved p (refused n q) = refused n p
moved p (accepted v) = accepted v

pub replaced_moved : {A : Type 0} (p : ℕ) (rs : List Rule) (v : A) → first_met (replaced p rs) v ≡ moved p (first_met rs v)
unfolding first_met
replaced_moved p [] v = refl
replaced_moved p (r ∷ rs) v = go r.met (replaced_moved p rs v)
  where
    go : (m : Bool) → first_met (replaced p rs) v ≡ moved p (first_met rs v)
        → pick m (refused r.number p) (first_met (replaced p rs) v) ≡ moved p (pick m (refused r.number r.place) (first_met rs v))
    go true e = refl
    go false e = e

-- so is what a `map_err` by `told_at` answers
pub told : {A B P Q : Type 0} (says : A → B) (number : P → ℕ) (number' : Q → ℕ) (at : Q) (r : Result A (Refused P)) (r' : Result A (Refused Q))
    (Learnt : Refused P → Refused Q → Type 0) → ((e : Refused P) (e' : Refused Q) → Learnt e e' → e' ≡ record { why = e.why; at = at })
    → MatchResult r (λ x. r' ≡ Ok x) (λ e. IsErrAnd r' (Learnt e)) → shown says number' r' ≡ moved (number' at) (shown says number r)
told says number number' at (Ok x) r' Learnt known k = rw k
told says number number' at (Err e) r' Learnt known k = let p = err_from_is_err_and r' k in rw (p.1, known e p.0 p.2)

-- an entry at a place is a number read there, and decoded
pub entry_stages : (s : List ℕ) (at : ℕ)
    → entry_outcome s at ≡ (number_outcome 8 s at >>= (λ n. decode_outcome at n.value >>= (λ e. accepted (record { value = e; next = n.next }))))
unfolding entry_outcome entry_rules number_outcome decode_outcome
entry_stages s at =
    in_turn (short_rule s at 8 ∷ []) (record { value = le_at s at 8; next = at + 8 }) (λ n. decode_rules at n.value) (λ n. record { value = entry_of n.value; next = n.next }) _
    (λ n. in_the_end (decode_rules at n.value) (entry_of n.value) (λ e. record { value = e; next = n.next }))

-- a word that is decoded at 0, and told at another place
pub decoded_told : {Q : Type 0} (number : Q → ℕ) (at : Q) (w : ℕ) (r : Result MastNodeEntry (Refused ByteOffset)) (r' : Result MastNodeEntry (Refused Q))
    (Learnt : Refused ByteOffset → Refused Q → Type 0) → ((e : Refused ByteOffset) (e' : Refused Q) → Learnt e e' → e' ≡ record { why = e.why; at = at })
    → shown_decoded r ≡ decode_outcome 0 w → MatchResult r (λ x. r' ≡ Ok x) (λ e. IsErrAnd r' (Learnt e)) → shown (λ e. e) number r' ≡ decode_outcome (number at) w
unfolding decode_outcome decode_rules
decoded_told number at w r r' Learnt known said k =
    told (λ e. e) (λ p. p.0) number at r r' Learnt known k ∙ ap (moved (number at)) said ∙ sym (replaced_moved (number at) (decode_rules 0 w) (entry_of w))
