-- Lists in two widths: pairs at each place, and where the width is the same, the same list.
-- Assumes nothing.
use Rattle.std.proofs.Common.{◌≡◌, ℕ, suc, ◌+◌, ◌<◌, ◌≤◌, List, [], ◌∷◌, length, ◌∙◌, arith, refl, subst, map, zero, get_or, set, take, take_all, take-suc, take-suc-set, add-one, ⊎_elim}
use Rattle.std.specs.Array.{IsFromFnResultFrom, IsFromFnResult}
use Rattle.std.specs.Fn.{Called}
use denote.Param.Members.{Mut}
use Rattle.std.proofs.lemmas.List.FromFn.{fill_by_all}
use Rattle.std.proofs.lemmas.Slice.Zip.{all_zipped_more}
use Rattle.wire.proofs.Counts.{lt_or_ge}
use Rattle.std.specs.List.{AllZip, AllWithin, zip, range_with_len}

-- what holds of each pair
pub all_zip_pairs : {A B : Type 0} (R : A → B → Type 0) (xs : List A) (ys : List B) → length xs ≡ length ys → AllWithin (λ p. R p.0 p.1) (zip xs ys) 0 (length (zip xs ys)) → AllZip R xs ys
all_zip_pairs R [] [] e h = tt
all_zip_pairs R [] (y ∷ ys) e h = absurd (omega arith)
all_zip_pairs R (x ∷ xs) [] e h = absurd (omega arith)
all_zip_pairs R (x ∷ xs) (y ∷ ys) e h =
    let f : length xs ≡ length ys = omega arith in
    (h 0 (x, y) (omega arith) (omega arith), all_zip_pairs R xs ys f (λ k d p q. h (suc k) d (omega arith) (omega arith)))

-- what `array::from_fn` makes, where each call gives h of its number and leaves the closure as it was
module _ {F : Type 0} (g : Mut F (ℕ × Unit {0}) ℕ) (h : ℕ → ℕ) (f : F) (gives : (i : ℕ) (y : ℕ) (q : F) → Called g f (i, tt) y q → (q ≡ f) × (y ≡ h i)) where
  made_from : (ys : List ℕ) (q : F) (i n : ℕ) → q ≡ f → IsFromFnResultFrom g q ys i n → (k : ℕ) → i ≤ k → k < i + n → get_or ys k 0 ≡ h k
  made_from ys q i zero e m k low high = absurd (omega arith)
  made_from ys q i (suc n) e (t, y, at, call, more) k low high =
      let c = gives i y t (subst (λ s. Called g s (i, tt) y t) e call) in
      ⊎_elim
      (λ (p : i < k). made_from ys t (i + 1) n c.0 more k (omega arith) (omega arith))
      (λ (p : k ≤ i). let s : k ≡ i = omega arith in rw s (at.1 0 ∙ c.1))
      (lt_or_ge i k)

  pub made : (ys : List ℕ) (n : ℕ) → IsFromFnResult g f ys n → ys ≡ map h (range_with_len 0 n)
  made ys n m = fill_by_all h ys n 0 m.long (λ k l. made_from ys f 0 n refl m.each k (omega arith) (omega arith))

-- one more number is stored in its width
pub stored_more : {A : Type 0} (R : ℕ → A → Type 0) (l : List ℕ) (out : List A) (i : ℕ) (y : A) → i < length l → i < length out → R (get_or l i 0) y →
    AllZip R (take i l) (take i out) → AllZip R (take (i + 1) l) (take (i + 1) (set out i y))
stored_more R l out i y h k r z = rw (add-one i, take-suc l i 0 h, take-suc-set out i y k) (all_zipped_more R (take i l) (take i out) (get_or l i 0) y z r)

pub stored_all : {A : Type 0} (R : ℕ → A → Type 0) (l : List ℕ) (out : List A) (i : ℕ) → length l ≤ i → length out ≤ i → AllZip R (take i l) (take i out) → AllZip R l out
stored_all R l out i h k z = rw (take_all i l h, take_all i out k) at z
