-- The entry words, one after the other: their rules as a pass, and their written form.
-- Assumes nothing.
use mathlib.Core.Path.{◌≡◌, refl, sym, ap, ◌∙◌}
use mathlib.Core.List.{List, [], ◌∷◌, map}
use Prim.Native.Nat.{ℕ, zero, suc, ◌+◌, ◌≤◌, ◌<◌, zero-le}
use native.Mathlib.Nat.{zero-add, add_assoc}
use native.Mathlib.Numerals.{add-one}
use native.Mathlib.Omega.{arith}
use lib.ListN.{length, drop, get_or}
use lib.Seq.{drop-cons, drop-length}
use Rattle.wire.specs.Table.{Outcome, refused, accepted, first_met, NoneMet, ◌>>=◌}
use Rattle.wire.proofs.Tables.{none_parts, none_accepted}
use Rattle.wire.proofs.Stages.{in_turn}
use Rattle.info.specs.Entry.{entry_of, decode_rules, decode_outcome, word_of, canonical}
use Rattle.info.specs.declared.MastNodeEntry.{MastNodeEntry}
use Rattle.info.proofs.Laws.{decoded_word}
use Rattle.rows.specs.Rows.{word_read, external_one, count_external, entry_pass}
use Rattle.rows.proofs.Pass.{external_le, pass_none, step_read, step_refused, step_goes_on, step_stop}
use Rattle.layout.specs.Scan.{words_rules, externals}
use Rattle.writer.specs.Writer.{written}
use Rattle.writer.specs.Inner.{words_outcome}

-- ---- the words' rules say what the pass says

-- the words from number i on, after x externals
abbrev left : List ℕ → ℕ → ℕ → Outcome ℕ
left words i x = first_met (words_rules 1 i (drop i words)) (x + externals (drop i words))

module _ (words : List ℕ) where
  abbrev pass : ℕ → Outcome ℕ
  pass n = entry_pass (word_read words) n

  left_next : (i x : ℕ) → i < length words → left words i x ≡ (word_read words i >>= (λ e. left words (i + 1) (x + external_one e)))
  unfolding words_rules externals decode_outcome
  left_next i x h =
      let here = get_or words i 0 in
      let rest = drop (i + 1) words in
      let first : drop i words ≡ here ∷ rest = rw add-one (drop-cons words i 0 h) in
      let sum : x + externals (here ∷ rest) ≡ x + external_one (entry_of here) + externals rest = sym (add_assoc x (external_one (entry_of here)) (externals rest)) in
      rw (first, sum)
      (in_turn (decode_rules i here) (entry_of here) (λ _. words_rules 1 (i + 1) rest) (λ e. x + external_one e + externals rest) _ (λ e. refl))

  left_none : (i x : ℕ) → i ≡ length words → left words i x ≡ accepted x
  unfolding words_rules externals first_met
  left_none i x e = rw (e, drop-length words) (ap accepted (omega arith))

  -- what is left after a pass so far is what the whole pass says
  left_pass : (k i x : ℕ) → i + k ≡ length words → pass i ≡ accepted x → left words i x ≡ pass (length words)
  unfolding ◌>>=◌
  left_pass zero i x e so_far = let end : i ≡ length words = omega arith in left_none i x end ∙ rw end at (sym so_far)
  left_pass (suc k) i x e so_far =
      left_next i x (omega arith) ∙ go (word_read words i) refl (λ y p. left_pass k (i + 1) y (omega arith) p)
    where
      go : (o : Outcome MastNodeEntry) → word_read words i ≡ o → ((y : ℕ) → pass (i + 1) ≡ accepted y → left words (i + 1) y ≡ pass (length words))
          → (o >>= (λ e. left words (i + 1) (x + external_one e))) ≡ pass (length words)
      go (refused n p) q rest =
          sym (step_stop (word_read words) count_external 0 i (length words) n p x (omega arith) so_far (step_refused (word_read words) count_external i x n p q))
      go (accepted e) q rest = rest (x + external_one e) (step_goes_on (word_read words) count_external 0 i x _ so_far (step_read (word_read words) count_external i x e q))

  pub words_pass : words_outcome words ≡ pass (length words)
  unfolding words_outcome
  words_pass = rw zero-add at (left_pass (length words) 0 0 (zero-add (length words)) (pass_none (word_read words) count_external 0))

-- ---- no more externals than words

pub externals_few : (words : List ℕ) → externals words ≤ length words
unfolding externals
externals_few [] = zero-le
externals_few (w ∷ ws) = let one : external_one (entry_of w) ≤ 1 = external_le (entry_of w) in omega (arith, externals_few ws)

-- ---- the written form of words that read

pub word_written : (at w : ℕ) → NoneMet (decode_rules at w) → word_of (entry_of w) ≡ canonical w
unfolding decode_outcome
word_written at w ok = decoded_word at w (entry_of w) (none_accepted (decode_rules at w) (entry_of w) ok)

pub words_written : (at : ℕ) (words : List ℕ) → NoneMet (words_rules 1 at words) → written words ≡ map canonical words
unfolding words_rules
words_written at [] ok = refl
words_written at (w ∷ ws) ok =
    let k = none_parts (decode_rules at w) (words_rules 1 (at + 1) ws) ok in
    rw (word_written at w k.0, words_written (at + 1) ws k.1)
