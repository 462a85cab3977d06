-- The keys of the map: when a key is of elements, the highest of those before it, and what is left of the rules after some.
-- Assumes nothing.
use mathlib.Core.Path.{◌≡◌, refl, sym, ap, ◌∙◌}
use mathlib.Core.List.{List, [], ◌∷◌}
use mathlib.Core.Bool.{Bool, true, false}
use mathlib.Core.Logic.{◌⊎◌, inr, ⊎_elim}
use Prim.Native.Nat.{ℕ, zero, suc, ◌+◌, ◌-◌, ◌*◌, ◌≤◌, ◌<◌}
use native.Mathlib.Nat.{sub-zero}
use native.Mathlib.Numerals.{add-one}
use native.Mathlib.Omega.{arith}
use lib.ListN.{length, take, drop, drop_of_length-le}
use lib.Seq.{take_all, drop-cons, drop-drop}
use Rattle.wire.specs.Table.{Outcome, refused, accepted, pick, first_met, checked}
use Rattle.wire.specs.Refusals.{ELEMENT, DUPLICATE}
use Rattle.wire.specs.Words.{not_elements, word_order}
use Rattle.std.specs.declared.cmp.Ordering.TheVariants.{Less, Equal, Greater}
use Rattle.wire.proofs.Counts.{lt_or_ge}
use Rattle.wire.proofs.Words.{order_irreflexive, order_transitive, order_same}
use Rattle.std.specs.declared.iter.Rev.{Rev}
use Rattle.std.specs.declared.ops.Range.{Range}
use Rattle.std.specs.Iterator.Adapters.{rev_source, rev_steps}
use Rattle.std.specs.Range.{range_steps_back}
use Rattle.std.specs.List.{list_any}
use Rattle.std.specs.Cmp.Lexicographic.{pointwise, bytes_decides}
use Rattle.std.specs.Prelude.{Option, Some, None, eqb}
use Rattle.std.specs.declared.cmp.Ordering.{Ordering}
use Rattle.std.proofs.lemmas.Iterator.{YieldsList}
use Rattle.std.proofs.lemmas.Iterator.Consumers.{YieldsList-from_shown}
use Rattle.keys.specs.Keys.{same_key, seen_key}
use Rattle.keys.specs.Claim.{key_at, keys_before, claimed}
use Rattle.keys.specs.declared.claim.Claim.{Claim}
use Rattle.keys.specs.declared.claim.Claim.TheVariants.{Apart, Repeat}
use Rattle.keys.proofs.Lent.{key_whole, seen_none, all_others}
use Rattle.keys.proofs.Claims.{claim_apart, claim_repeat}
use Rattle.writer.specs.Writer.{key_rules}
use Rattle.writer.specs.Inner.{Top, FirstTwice}

-- ---- the keys before a number

length-before : (keys : List ℕ) (n : ℕ) → length (keys_before keys n) ≡ n
unfolding keys_before
length-before keys zero = refl
length-before keys (suc n) = ap suc (length-before keys n)

abbrev pub steps_back : Rev (Range ℕ) → Option ℕ → Rev (Range ℕ) → Type 0
steps_back = rev_steps (range_steps_back (λ x y. y - x) (λ x y. y ≡ x + 1))

-- as `(0..n).rev()` takes them
pub keys_back : (keys : List ℕ) (n : ℕ) {s : Rev (Range ℕ)} → rev_source s ≡ record { start = 0; end = n } → YieldsList steps_back (key_at keys) s (keys_before keys n)
unfolding keys_before
keys_back keys n {s} e =
    let whole : left_back s ≡ keys_before keys n = rw (e, sub-zero) (take_all n (keys_before keys n) (omega (arith, length-before keys n))) in
    rw whole at (YieldsList-from_shown steps_back (key_at keys) left_back none_left one_off s)
  where
    -- the keys of the numbers that a range has left
    left_back : Rev (Range ℕ) → List (List ℕ)
    left_back u = take (u.iter.end - u.iter.start) (keys_before keys u.iter.end)

    none_left : (u t : Rev (Range ℕ)) → steps_back u None t → length (left_back u) ≡ 0
    none_left u t p = rw p.1.0

    one_off : (u : Rev (Range ℕ)) (x : ℕ) (t : Rev (Range ℕ)) → steps_back u (Some x) t → left_back u ≡ key_at keys x ∷ left_back t
    one_off u x t p =
        let end : u.iter.end ≡ suc x = omega (arith, p.1) in
        let many : u.iter.end - u.iter.start ≡ suc (t.iter.end - t.iter.start) = omega (arith, p.0, p.1) in
        rw (many, end, p.1.1)

-- keys are the same where their numbers are
pub key_eq : (a b : List ℕ) → pointwise eqb a b ≡ same_key a b
unfolding same_key
key_eq a b = go (word_order a b) refl
  where
    decides : (pointwise eqb a b ≡ true → a ≡ b) × (a ≡ b → pointwise eqb a b ≡ true)
    decides = bytes_decides a b

    differ : (o : Ordering) → word_order a b ≡ o → (o ≡ Equal → ⊥) → (t : Bool) → pointwise eqb a b ≡ t → t ≡ false
    differ o e n true q = absurd (n (sym e ∙ (order_same a b).1 (decides.0 q)))
    differ o e n false q = refl

    go : (o : Ordering) → word_order a b ≡ o → pointwise eqb a b ≡ same_key a b
    go Equal e = rw e (decides.1 ((order_same a b).0 e))
    go Less e = rw e (differ Less e (λ q. cc) (pointwise eqb a b) refl)
    go Greater e = rw e (differ Greater e (λ q. cc) (pointwise eqb a b) refl)

pub seen_any : (key : List ℕ) (ks : List (List ℕ)) → list_any (λ k. same_key k key) ks ≡ seen_key ks key
unfolding seen_key
seen_any key [] = refl
seen_any key (k ∷ ks) = rw (seen_any key ks)

-- ---- the highest key so far

module _ (keys : List ℕ) (i top : ℕ) (key : List ℕ) where
  -- a key above the highest is none of them
  pub above_all : Top keys i top → (word_order (key_at keys top) key ≡ Less) → seen_key (keys_before keys i) key ≡ false
  above_all t b =
      ⊎_elim
      (λ z. rw z (seen_none keys key))
      (λ k. all_others keys i key (λ j l e. k.1 j l (rw (← (order_same (key_at keys j) key).0 e) at b)))
      t

-- and is the highest itself; any other leaves it so
module _ (keys : List ℕ) (i top : ℕ) where
  pub top_moves : Top keys i top → (i ≡ 0) ⊎ (word_order (key_at keys top) (key_at keys i) ≡ Less) → Top keys (i + 1) i
  top_moves t b = inr (omega arith, λ j l e. ⊎_elim (λ m. before j m e t b) (λ m. let same : j ≡ i = omega arith in itself (rw same at e)) (lt_or_ge j i))
    where
      itself : word_order (key_at keys i) (key_at keys i) ≡ Less → ⊥
      itself e = let n = order_irreflexive (key_at keys i) in cc

      before : (j : ℕ) → j < i → word_order (key_at keys i) (key_at keys j) ≡ Less → Top keys i top → (i ≡ 0) ⊎ (word_order (key_at keys top) (key_at keys i) ≡ Less) → ⊥
      before j m e t b =
          ⊎_elim
          (λ z. omega arith)
          (λ k. ⊎_elim (λ z. omega arith) (λ u. k.1 j m (order_transitive (key_at keys top) (key_at keys i) (key_at keys j) u e)) b)
          t

  -- a key below the one at `top` is not the first
  pub not_first : top ≤ i → word_order (key_at keys top) (key_at keys i) ≡ Greater → i ≡ 0 → ⊥
  not_first h a z =
      let same : top ≡ i = omega arith in
      let itself : word_order (key_at keys i) (key_at keys i) ≡ Greater = rw same at a in
      let n = order_irreflexive (key_at keys i) in
      cc

  pub top_stays : Top keys i top → word_order (key_at keys top) (key_at keys i) ≡ Greater → (i ≡ 0 → ⊥) → Top keys (i + 1) top
  top_stays t a n =
      ⊎_elim
      (λ z. absurd (n z))
      (λ k. inr (omega arith, λ j l e. ⊎_elim (λ m. k.1 j m e) (λ m. let same : j ≡ i = omega arith in let less = rw same at e in cc) (lt_or_ge j i)))
      t

-- ---- the rules from number i on

abbrev pub left : List ℕ → List ℕ → ℕ → Outcome (Unit {0})
left keys lengths i = checked (key_rules i (keys_before keys i) (drop (4 * i) keys) (drop i lengths))

pub left_all : (keys lengths : List ℕ) → left keys lengths 0 ≡ checked (key_rules 0 [] keys lengths)
unfolding keys_before
left_all keys lengths = refl

module _ (keys lengths : List ℕ) (i : ℕ) where
  module _ (long : length keys ≡ 4 * length lengths) (h : i < length lengths) where
    unroll : left keys lengths i
        ≡ pick (not_elements (key_at keys i)) (refused ELEMENT i) (pick (seen_key (keys_before keys i) (key_at keys i)) (refused DUPLICATE i) (left keys lengths (i + 1)))
    unfolding key_rules keys_before first_met
    unroll =
        let four : 4 * suc i ≡ 4 * i + 4 = omega arith in
        let whole : key_at keys i ≡ take 4 (drop (4 * i) keys) = key_whole keys i (omega arith) in
        rw (add-one, drop-cons lengths i 0 h, four, drop-drop, whole) (rw add-one)

    module _ {key : List ℕ} (here : key ≡ key_at keys i) where
      pub no_word : true ≡ not_elements key → refused ELEMENT i ≡ left keys lengths i
      no_word e = sym (unroll ∙ rw (← here, ← e))

      pub repeated : false ≡ not_elements key → seen_key (keys_before keys i) key ≡ true → refused DUPLICATE i ≡ left keys lengths i
      repeated e d = sym (unroll ∙ rw (← here, ← e, d))

      pub new_key : false ≡ not_elements key → seen_key (keys_before keys i) key ≡ false → left keys lengths (i + 1) ≡ left keys lengths i
      new_key e d = sym (unroll ∙ rw (← here, ← e, d))

  pub left_none : length lengths ≤ i → accepted tt ≡ left keys lengths i
  unfolding key_rules first_met
  left_none e = rw (drop_of_length-le lengths e)

-- ---- what a claim tells of the keys

pub none_known : (keys lengths order : List ℕ) → length keys ≡ 4 * length lengths → (c : Claim) → c ≡ Apart → c ≡ claimed keys order → FirstTwice keys (length lengths) (length lengths)
none_known keys lengths order long c e said =
    let k = claim_apart keys order (sym said ∙ e) in
    (λ i h l. k.1 i (omega (arith, k.0)), λ h. absurd (omega arith))

pub first_known : (keys order : List ℕ) (n r : ℕ) (c : Claim) → c ≡ Repeat r → c ≡ claimed keys order → FirstTwice keys n r
first_known keys order n r c e said = let k = claim_repeat keys order r (sym said ∙ e) in (λ i h l. k.1 i l, λ h. k.0)
