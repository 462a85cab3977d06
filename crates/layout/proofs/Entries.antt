-- The scan's rules of the entries, over the words and with byte places, say what the pass over the rows says, with row numbers.
-- Assumes nothing.
use mathlib.Core.Path.{◌≡◌, refl, sym, ap, ◌∙◌}
use mathlib.Core.Bool.{Bool, true, false, not}
use mathlib.Core.List.{List, [], ◌∷◌, ◌++◌}
use Prim.Native.Nat.{ℕ, zero, suc, ◌+◌, ◌*◌, ◌^◌, ◌≤◌, ◌<◌}
use native.Mathlib.Nat.{zero-add, add-zero}
use native.Mathlib.Omega.{arith}
use borrow.Author.Tests.{eq-eqb, ne_eqb}
use lib.Dec.{eqb}
use lib.ListN.{length, length-append}
use lib.Seq.{slice}
use Rattle.wire.specs.Table.{rule, Outcome, refused, accepted, pick, first_met, checked, ◌>>=◌}
use Rattle.wire.specs.Refusals.{TAG, PAYLOAD, EXTERNALS}
use Rattle.wire.specs.Le.{le_at}
use Rattle.wire.specs.Rows.{numbers_of}
use Rattle.wire.proofs.Tables.{replaced_refused}
use Rattle.wire.proofs.Stages.{in_turn, in_the_end}
use Rattle.wire.proofs.Words.{rows_next}
use Rattle.info.specs.Entry.{entry_of, bad_tag, bad_payload, decode_rules, decode_outcome}
use Rattle.info.specs.declared.MastNodeEntry.{MastNodeEntry}
use Rattle.rows.specs.Rows.{row_word, row_rules, row_outcome, node_pass, external_one, count_external, entry_pass}
use Rattle.layout.specs.Scan.{words_rules, externals}
use Rattle.layout.specs.Steps.{Nodes, node_count, words_at, entry_section_rules}
use Rattle.rows.proofs.RowLaws.{inside_row}

-- ---- one word more at the end

-- n rows at a distance from `at`
abbrev rows_from : List ℕ → ℕ → ℕ → ℕ → List ℕ
rows_from s at j n = numbers_of 8 n (slice (at + j) (at + (j + 8 * n)) s)

rows_first : (s : List ℕ) (at j n : ℕ) → at + j + 8 ≤ length s → rows_from s at j (suc n) ≡ le_at s (at + j) 8 ∷ rows_from s at (j + 8) n
rows_first s at j n h =
    let e : j + 8 * suc n ≡ j + (8 + 8 * n) = omega arith in
    rw e (rows_next 8 n s at j (8 * n) h)

rows_last : (s : List ℕ) (at j n : ℕ) → at + (j + 8 * suc n) ≤ length s → rows_from s at j (suc n) ≡ rows_from s at j n ++ (le_at s (at + (j + 8 * n)) 8 ∷ [])
unfolding numbers_of
rows_last s at j zero h =
    let e : j + 8 * 0 ≡ j = omega arith in
    rows_first s at j 0 (omega arith) ∙ rw e
rows_last s at j (suc n) h =
    let e : j + 8 * suc n ≡ j + 8 + 8 * n = omega arith in
    let f : at + j + 8 ≤ length s = omega arith in
    rows_first s at j (suc n) f
    ∙ ap (λ (l : List ℕ). le_at s (at + j) 8 ∷ l) (rows_last s at (j + 8) n (omega arith))
    ∙ ap (λ (k : ℕ). le_at s (at + j) 8 ∷ (rows_from s at (j + 8) n ++ (le_at s (at + k) 8 ∷ []))) (sym e)
    ∙ ap (λ (l : List ℕ). l ++ (le_at s (at + (j + 8 * suc n)) 8 ∷ [])) (sym (rows_first s at j n f))

words_last : (s : List ℕ) (first n : ℕ) → first + 8 * suc n ≤ length s → words_at s first (suc n) ≡ words_at s first n ++ (row_word s first n ∷ [])
words_last s first n h = simp (zero-add, add-zero) at (rows_last s first 0 n (omega arith))

rules_last : (at : ℕ) (ws : List ℕ) (w : ℕ) → words_rules 8 at (ws ++ (w ∷ [])) ≡ words_rules 8 at ws ++ decode_rules (at + 8 * length ws) w
unfolding words_rules decode_rules
rules_last at [] w = let e : at + 8 * 0 ≡ at = omega arith in rw e
rules_last at (x ∷ ws) w =
    let e : at + 8 + 8 * length ws ≡ at + 8 * suc (length ws) = omega arith in
    rw (rules_last (at + 8) ws w, e)

externals_last : (ws : List ℕ) (w : ℕ) → externals (ws ++ (w ∷ [])) ≡ externals ws + external_one (entry_of w)
unfolding externals
externals_last [] w = omega arith
externals_last (x ∷ ws) w = rw (externals_last ws w) (omega arith)

words_none : (s : List ℕ) (first : ℕ) → words_at s first 0 ≡ []
unfolding numbers_of
words_none s first = refl

words_long : (s : List ℕ) (first n : ℕ) → first + 8 * n ≤ length s → length (words_at s first n) ≡ n
words_long s first zero h = ap length (words_none s first)
words_long s first (suc n) h =
    ap length (words_last s first n h) ∙ length-append (words_at s first n) (row_word s first n ∷ []) ∙ omega (arith, words_long s first n (omega arith))

-- ---- row numbers as byte places

abbrev pub at_byte : ℕ → Outcome ℕ → Outcome ℕ
at_byte first (refused k i) = refused k (first + 8 * i)
at_byte first (accepted x) = accepted x

word_at_byte : (first n w x : ℕ)
    → (decode_outcome (first + 8 * n) w >>= count_external n x) ≡ at_byte first (decode_outcome n w >>= count_external n x)
unfolding decode_outcome decode_rules first_met ◌>>=◌
word_at_byte first n w x = go (bad_tag w) (bad_payload w)
  where
    go : (t p : Bool)
        → ((pick {A = Outcome MastNodeEntry} t (refused TAG (first + 8 * n)) (pick p (refused PAYLOAD (first + 8 * n)) (accepted (entry_of w)))) >>= count_external n x)
        ≡ at_byte first ((pick {A = Outcome MastNodeEntry} t (refused TAG n) (pick p (refused PAYLOAD n) (accepted (entry_of w)))) >>= count_external n x)
    go true p = refl
    go false true = refl
    go false false = refl

module _ (s : List ℕ) (first : ℕ) (fits : length s < 2 ^ 64) where
  abbrev of_words : List ℕ → Outcome ℕ
  of_words ws = first_met (words_rules 8 first ws) (externals ws)

  one_more : (ws : List ℕ) (w : ℕ) → of_words (ws ++ (w ∷ [])) ≡ (of_words ws >>= (λ x. decode_outcome (first + 8 * length ws) w >>= count_external (length ws) x))
  unfolding decode_outcome
  one_more ws w =
      rw (rules_last first ws w, externals_last ws w)
      (in_turn (words_rules 8 first ws) (externals ws) (λ _. decode_rules (first + 8 * length ws) w) (λ x. x + external_one (entry_of w)) _
      (λ x. in_the_end (decode_rules (first + 8 * length ws) w) (entry_of w) (λ e. x + external_one e)))

  step : (n w : ℕ) (row : Outcome MastNodeEntry) → row ≡ decode_outcome n w → (o : Outcome ℕ)
      → (at_byte first o >>= (λ x. decode_outcome (first + 8 * n) w >>= count_external n x)) ≡ at_byte first (o >>= (λ x. row >>= count_external n x))
  unfolding ◌>>=◌
  step n w row e (refused k i) = refl
  step n w row e (accepted x) = rw e (word_at_byte first n w x)

  -- the words' rules say what the pass says
  pub words_pass : (n : ℕ) → first + 8 * n ≤ length s → of_words (words_at s first n) ≡ at_byte first (entry_pass (row_outcome s first) n)
  unfolding node_pass words_rules externals first_met
  words_pass zero h = rw (words_none s first)
  words_pass (suc n) h =
      let below : first + 8 * n ≤ length s = omega arith in
      rw (words_last s first n h, one_more (words_at s first n) (row_word s first n), words_long s first n below, words_pass n below)
      (step n (row_word s first n) (row_outcome s first n) (inside_row s first n (suc n) h fits (omega arith)) (entry_pass (row_outcome s first) n))

-- ---- the stage of the entries

-- the row of a refusal is its place, and a row that was passed
row_place_lem : (s : List ℕ) (first i k p : ℕ) → row_outcome s first i ≡ refused k p → p ≡ i
unfolding row_outcome row_rules decode_rules
row_place_lem s first i k p e =
    let again = replaced_refused i (row_rules s first i) (entry_of (row_word s first i)) (entry_of (row_word s first i)) k p e in
    cc

pub pass_row : (s : List ℕ) (first n k p : ℕ) → entry_pass (row_outcome s first) n ≡ refused k p → p < n
unfolding node_pass ◌>>=◌
pass_row s first zero k p e = let z : ◌≡◌ {A = ℕ} 0 1 = cc in absurd (omega arith)
pass_row s first (suc n) k p e = go (entry_pass (row_outcome s first) n) (λ q. pass_row s first n k p q) e
  where
    last : (o : Outcome MastNodeEntry) (x : ℕ) → (o ≡ refused k p → p ≡ n) → (o >>= count_external n x) ≡ refused k p → p < suc n
    last (refused a b) x h q = omega (arith, h (cc))
    last (accepted e) x h q = let z : ◌≡◌ {A = ℕ} 0 1 = cc in absurd (omega arith)

    go : (o : Outcome ℕ) → (o ≡ refused k p → p < n) → (o >>= (λ x. row_outcome s first n >>= count_external n x)) ≡ refused k p → p < suc n
    go (refused a b) h q = omega (arith, h (cc))
    go (accepted x) h q = last (row_outcome s first n) x (row_place_lem s first n k p) q

module _ (s : List ℕ) (first : ℕ) (h : Nodes) (inside : first + 8 * node_count h ≤ length s) (fits : length s < 2 ^ 64) where
  -- the pass, and then the number of externals
  stage : checked (entry_section_rules first h s)
      ≡ (at_byte first (entry_pass (row_outcome s first) (node_count h)) >>= (λ x. checked (rule EXTERNALS h.internal.next.0 (not (eqb x h.external.count)) ∷ [])))
  unfolding entry_section_rules
  stage =
      let words = words_at s first (node_count h) in
      in_turn (words_rules 8 first words) (externals words) (λ x. rule EXTERNALS h.internal.next.0 (not (eqb x h.external.count)) ∷ []) (λ _. tt) _ (λ x. refl)
      ∙ rw (words_pass s first fits (node_count h) inside)

  pub entries_refused : (k i : ℕ) → entry_pass (row_outcome s first) (node_count h) ≡ refused k i → checked (entry_section_rules first h s) ≡ refused k (first + 8 * i)
  unfolding ◌>>=◌
  entries_refused k i e = stage ∙ rw e

  pub entries_differ : (x : ℕ) → entry_pass (row_outcome s first) (node_count h) ≡ accepted x → (x ≡ h.external.count → ⊥) → checked (entry_section_rules first h s) ≡ refused EXTERNALS h.internal.next.0
  unfolding ◌>>=◌ first_met
  entries_differ x e d = stage ∙ rw (e, ne_eqb x h.external.count d)

  pub entries_pass : (x : ℕ) → entry_pass (row_outcome s first) (node_count h) ≡ accepted x → x ≡ h.external.count → checked (entry_section_rules first h s) ≡ accepted tt
  unfolding ◌>>=◌ first_met
  entries_pass x e d = stage ∙ rw (e, eq-eqb x h.external.count d)
