-- Rows of numbers, each as n bytes, lowest first, as they are written one by one. Assumes nothing.
use mathlib.Core.Path.{◌≡◌, sym, ap, ◌∙◌}
use mathlib.Core.List.{List, [], ◌∷◌, ◌++◌, map, append_assoc, append-nil}
use Prim.Native.Nat.{ℕ, zero, suc, ◌+◌, ◌*◌, ◌-◌, ◌≤◌, ◌<◌}
use native.Mathlib.Omega.{arith}
use lib.ListN.{length, take, drop, get_or, length-map, length-drop}
use lib.Seq.{take_all, length-take-le}
use borrow.Rule.Slice.PartMut.{put_mid}
use native.Mathlib.Nat.{mul-zero, mul-suc, add-sub_cancel_left}
use native.Mathlib.Numerals.{add-one}
use Rattle.std.proofs.lemmas.Nat.{mul-le}
use Rattle.std.proofs.lemmas.Slice.{take-put_mid}
use Rattle.wire.proofs.Le.{length-le_bytes}
use Rattle.wire.specs.Le.{le_bytes}
use Rattle.wire.specs.Rows.{rows}
use Rattle.wire.proofs.Leaves.{length-rows}

-- one row more stands at the end
pub rows_more : {X : Type 0} (n : ℕ) (value : X → ℕ) (xs : List X) (i : ℕ) (x : X) (row : List ℕ) → i < length xs → x ≡ get_or xs i x → row ≡ le_bytes n (value x)
    → rows n (map value (take i xs)) ++ row ≡ rows n (map value (take (suc i) xs))
unfolding rows
rows_more n value [] i x row h e r = absurd (omega arith)
rows_more n value (y ∷ xs) zero x row h e r = r ∙ ap (λ z. le_bytes n (value z)) e ∙ sym (append-nil (le_bytes n (value y)))
rows_more n value (y ∷ xs) (suc i) x row h e r =
    append_assoc (le_bytes n (value y)) (rows n (map value (take i xs))) row
    ∙ ap (λ (l : List ℕ). le_bytes n (value y) ++ l) (rows_more n value xs i x row (omega arith) e r)

-- the loop that writes them: the first i rows of a part are written
pub record Rowed {X : Type 0} (n : ℕ) (value : X → ℕ) (xs : List X) (i : ℕ) (part : List ℕ) : Type 0 where
  pub is : take (n * i) part ≡ rows n (map value (take i xs))

pub rowed_none : {X : Type 0} (n : ℕ) (value : X → ℕ) (xs : List X) (part : List ℕ) → Rowed n value xs 0 part
unfolding rows
rowed_none n value xs part = record { is = rw mul-zero }

module _ {X : Type 0} {n : ℕ} {value : X → ℕ} {xs : List X} {i : ℕ} {part : List ℕ} (h : Rowed n value xs i part) (long : length part ≡ n * length xs) where
  -- one row more, where the number's bytes went into its part
  pub rowed_more : {x : X} {v : ℕ} {row : List ℕ} → i < length xs → x ≡ get_or xs i x → v ≡ value x
      → row ≡ le_bytes (length (take (n * i + n - n * i) (drop (n * i) part))) v → Rowed n value xs (i + 1) (put_mid (n * i) (n * i + n - n * i) part row)
  rowed_more {x} {v} {row} l e s r =
      let next : n * (i + 1) ≡ n * i + n = rw (add-one, mul-suc) (omega arith) in
      let room : n * (i + 1) ≤ length part = rw long (mul-le n (i + 1) n (length xs) (omega arith) (omega arith)) in
      let whole : row ≡ le_bytes n (value x) = r ∙ ap (λ k. le_bytes k v) (rw add-sub_cancel_left (length-take-le n _ (rw length-drop (omega arith)))) ∙ ap (le_bytes n) s in
      let wide : length row ≡ n = ap length whole ∙ length-le_bytes n (value x) in
      record {
        is =
            take-put_mid (n * i) _ part row (n * (i + 1)) (omega arith) (omega arith)
            ∙ ap (λ (l : List ℕ). l ++ row) h.is ∙ rw add-one (rows_more n value xs i x row l e whole);
      }

  -- every row is
  pub rowed_all : length xs ≤ i → i ≤ length xs → part ≡ rows n (map value xs)
  rowed_all g l =
      let all : i ≡ length xs = omega arith in
      sym (take_all (n * i) part (rw (all, long) (omega arith))) ∙ h.is ∙ ap (λ (l : List X). rows n (map value l)) (take_all i xs g)

-- rows of what is made of each number
pub length_mapped : (n : ℕ) (g : ℕ → ℕ) (nums : List ℕ) → length (rows n (map g nums)) ≡ n * length nums
length_mapped n g nums = length-rows n (map g nums) ∙ ap (λ (m : ℕ). n * m) (length-map nums g)
