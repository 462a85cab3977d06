-- Keys lent as numbers: a key's four numbers, and whether it is one of those before it.
-- Assumes nothing.
use mathlib.Core.Path.{◌≡◌, refl, ap, ◌∙◌}
use mathlib.Core.List.{List, [], ◌∷◌}
use mathlib.Core.Bool.{true, false}
use mathlib.Core.Logic.{⊎_elim}
use Prim.Native.Nat.{ℕ, zero, suc, ◌+◌, ◌*◌, ◌≤◌, ◌<◌}
use native.Mathlib.Numerals.{add-one}
use native.Mathlib.Omega.{arith}
use borrow.Author.Tests.{lt-ltb, le-ltb}
use lib.ListN.{length, take, drop, get_or}
use lib.Seq.{drop-cons}
use Rattle.wire.specs.Words.{zero_word, word_order}
use Rattle.std.specs.declared.cmp.Ordering.{Ordering}
use Rattle.std.specs.declared.cmp.Ordering.TheVariants.{Less, Equal, Greater}
use Rattle.wire.proofs.Counts.{lt_or_ge}
use Rattle.std.specs.Ordering.{is_eq}
use Rattle.keys.specs.Keys.{same_key, seen_key}
use Rattle.keys.specs.Claim.{key_at, keys_before}

-- ---- the numbers of a key

take_next : (n : ℕ) (keys : List ℕ) (k m : ℕ) → m ≡ k + 1 → k < length keys → take (suc n) (drop k keys) ≡ get_or keys k 0 ∷ take n (drop m keys)
take_next n keys k m e h = rw (e, add-one) (ap (take (suc n)) (drop-cons keys k 0 h))

four_numbers : (keys : List ℕ) (k : ℕ) → k + 4 ≤ length keys
    → take 4 (drop k keys) ≡ get_or keys k 0 ∷ get_or keys (k + 1) 0 ∷ get_or keys (k + 2) 0 ∷ get_or keys (k + 3) 0 ∷ []
four_numbers keys k h =
    take_next 3 keys k (k + 1) refl (omega arith)
    ∙ ap (λ (l : List ℕ). get_or keys k 0 ∷ l) (take_next 2 keys (k + 1) (k + 2) (omega arith) (omega arith)
    ∙ ap (λ (l : List ℕ). get_or keys (k + 1) 0 ∷ l) (take_next 1 keys (k + 2) (k + 3) (omega arith) (omega arith)
    ∙ ap (λ (l : List ℕ). get_or keys (k + 2) 0 ∷ l) (take_next 0 keys (k + 3) (k + 4) (omega arith) (omega arith))))

module _ (keys : List ℕ) (i : ℕ) where
  pub key_none : length keys < 4 * i + 4 → key_at keys i ≡ zero_word
  unfolding key_at
  key_none h = rw (lt-ltb (length keys) (4 * i + 4) h)

  pub key_whole : 4 * i + 4 ≤ length keys → key_at keys i ≡ take 4 (drop (4 * i) keys)
  unfolding key_at
  key_whole h = rw (le-ltb (length keys) (4 * i + 4) h)

  pub key_numbers : 4 * i + 4 ≤ length keys
      → key_at keys i ≡ get_or keys (4 * i) 0 ∷ get_or keys (4 * i + 1) 0 ∷ get_or keys (4 * i + 2) 0 ∷ get_or keys (4 * i + 3) 0 ∷ []
  key_numbers h = key_whole h ∙ four_numbers keys (4 * i) h

-- ---- one of the keys before

module _ (keys : List ℕ) (i : ℕ) (key : List ℕ) where
  -- compared with the last of them
  pub seen_here : word_order (key_at keys i) key ≡ Equal → seen_key (keys_before keys (suc i)) key ≡ true
  unfolding keys_before seen_key same_key
  seen_here e = rw e

  pub seen_on : is_eq (word_order (key_at keys i) key) ≡ false → seen_key (keys_before keys (suc i)) key ≡ seen_key (keys_before keys i) key
  unfolding keys_before seen_key same_key
  seen_on e = rw e

pub seen_none : (keys key : List ℕ) → seen_key (keys_before keys 0) key ≡ false
unfolding keys_before seen_key
seen_none keys key = refl

-- none of them is the key
pub all_others : (keys : List ℕ) (i : ℕ) (key : List ℕ) → ((j : ℕ) → j < i → word_order (key_at keys j) key ≡ Equal → ⊥) → seen_key (keys_before keys i) key ≡ false
all_others keys zero key h = seen_none keys key
all_others keys (suc i) key h =
    seen_on keys i key (other (word_order (key_at keys i) key) (h i (omega arith))) ∙ all_others keys i key (λ j l. h j (omega arith))
  where
    other : (o : Ordering) → (o ≡ Equal → ⊥) → is_eq o ≡ false
    other Less n = refl
    other Equal n = absurd (n refl)
    other Greater n = refl

-- number j is one of them
pub one_seen : (keys : List ℕ) (i j : ℕ) (key : List ℕ) → j < i → word_order (key_at keys j) key ≡ Equal → seen_key (keys_before keys i) key ≡ true
one_seen keys zero j key h e = absurd (omega arith)
one_seen keys (suc i) j key h e = go (word_order (key_at keys i) key) refl (λ l. one_seen keys i j key l e)
  where
    earlier : is_eq (word_order (key_at keys i) key) ≡ false → (j < i → seen_key (keys_before keys i) key ≡ true) → seen_key (keys_before keys (suc i)) key ≡ true
    earlier n ih =
        ⊎_elim
        (λ l. seen_on keys i key n ∙ ih l)
        (λ m. let same : j ≡ i = omega arith in seen_here keys i key (rw same at e))
        (lt_or_ge j i)

    go : (o : Ordering) → word_order (key_at keys i) key ≡ o → (j < i → seen_key (keys_before keys i) key ≡ true) → seen_key (keys_before keys (suc i)) key ≡ true
    go Equal q ih = seen_here keys i key q
    go Less q ih = earlier (rw q) ih
    go Greater q ih = earlier (rw q) ih
