-- The laws of texts: a list cut at its first mark, and the number that a text begins with.
-- Assumes nothing.
use Rattle.std.proofs.Common.{◌≡◌, ℕ, suc, ◌+◌, ◌-◌, ◌*◌, ◌^◌, ◌<◌, ◌≤◌, Bool, true, false, leb, eqb, List, [], ◌∷◌, ◌++◌, length, get_or, take, drop, Option, Some, None, position, sym, refl, ap, ◌∙◌, length-append, length-drop, length-set, set, arith, add-one, take-append-drop, drop_of_length-le, take_all, drop-cons}
use Rattle.std.specs.List.{AllZip}
use Rattle.std.proofs.lemmas.Bool.Decides.{nat_tests}
use Rattle.std.proofs.lemmas.List.{nil_from_length}
use Rattle.std.proofs.lemmas.List.Quantifiers.{position-Some}
use borrow.Author.Tests.{leb-false, eqb-true}
use Rattle.wire.specs.Table.{pick}
use Rattle.text.specs.Marks.{before, past}
use Rattle.text.specs.Digits.{hex_digit, number_from, number_of_word}
use Rattle.text.proofs.Marks.{before_place, before_take, past_drop}
use Rattle.text.proofs.DigitLaws.{digit_is}
use Rattle.recorded.proofs.Copies.{stored_more}
use Rattle.recorded.specs.Text.{numbers_from, numbers_in}
use Rattle.recorded.specs.Inner.{SplitsAt, NoMark, BeginsWith}

-- ---- cut where `position` finds the mark

module _ (mark : ℕ) (l : List ℕ) where
  pub splits_at : (i : ℕ) → position (λ b. eqb b mark) l ≡ Some i → SplitsAt l mark (take i l) (take (length l - (i + 1)) (drop (i + 1) l))
  splits_at i e =
      let found = position-Some (λ b. eqb b mark) l i 0 e in
      let here : get_or l i 0 ≡ mark = eqb-true (get_or l i 0) mark found.1 in
      let p : length (before mark l) ≡ i = grind (arith, nat_tests, before_place mark l) in
      let q : i + 1 ≡ suc (length (before mark l)) = omega arith in
      let rest : take (length l - (i + 1)) (drop (i + 1) l) ≡ drop (i + 1) l = take_all (length l - (i + 1)) (drop (i + 1) l) (rw (length-drop (i + 1) l) (omega arith)) in
      record {
        whole = sym (take-append-drop i l) ∙ rw (rest, drop-cons l i 0 found.0, here, add-one i);
        front_is = rw (sym p) (before_take mark l);
        back_is = rest ∙ rw q (sym (past_drop mark l));
      }

  pub no_mark : position (λ b. eqb b mark) l ≡ None → NoMark l mark
  no_mark e =
      let p : length l ≤ length (before mark l) = grind (arith, nat_tests, before_place mark l) in
      let q : length l ≤ suc (length (before mark l)) = omega arith in
      record {
        front_is = sym (take_all (length (before mark l)) l p) ∙ before_take mark l;
        back_is = sym (past_drop mark l ∙ drop_of_length-le l q);
      }

-- what is past a mark is shorter
pub past_shorter : (mark : ℕ) (l : List ℕ) → 0 < length l → length (past mark l) < length l
past_shorter mark l h = rw (past_drop mark l, length-drop (suc (length (before mark l))) l) (omega arith)

-- ---- the number that a text begins with, before a space

-- a decimal digit is no space, and says what follows `0`
plain_digit : (b : ℕ) → hex_digit b < 10 → (eqb b 32 ≡ false) × (b - 48 ≡ hex_digit b)
plain_digit b h = grind (arith, nat_tests, digit_is)

digit_read : (a c : Bool) (x : Option ℕ) (v : ℕ) → pick a None (pick c None x) ≡ Some v → (a ≡ false) × (x ≡ Some v)
digit_read true c x v e = cc
digit_read false true x v e = cc
digit_read false false x v e = (refl, e)

number_reads : (w rest : List ℕ) (value v : ℕ) → number_from value w ≡ Some v → numbers_from value (w ++ 32 ∷ rest) ≡ v ∷ numbers_in rest
unfolding number_from numbers_from
number_reads [] rest value v e = let q : value ≡ v = cc in rw q
number_reads (b ∷ w) rest value v e =
    let d = digit_read (leb 10 (hex_digit b)) (leb (2 ^ 64) (10 * value + hex_digit b)) (number_from (10 * value + hex_digit b) w) v e in
    let p = plain_digit b (leb-false 10 (hex_digit b) d.0) in
    rw (p.0, p.1) (number_reads w rest (10 * value + hex_digit b) v d.1)

some_number : (w : List ℕ) (v : ℕ) → number_of_word w ≡ Some v → number_from 0 w ≡ Some v
unfolding number_of_word
some_number [] v e = cc
some_number (b ∷ w) v e = e

-- up to the space, no digit at all, or a number
module _ (l digits rest : List ℕ) (cut : SplitsAt l 32 digits rest) where
  begins : (v : ℕ) → number_from 0 digits ≡ Some v → BeginsWith l v rest
  begins v e =
      record {
        shorter = omega (arith, simp length-append at (ap length cut.whole));
        reads = rw cut.whole (number_reads digits rest 0 v e);
      }

  pub begins_0 : length digits ≡ 0 → BeginsWith l 0 rest
  unfolding number_from
  begins_0 h = let e : digits ≡ [] = nil_from_length digits h in begins 0 (rw e)

  pub begins_number : (v : ℕ) → number_of_word digits ≡ Some v → BeginsWith l v rest
  begins_number v e = begins v (some_number digits v e)

-- ---- the numbers of a text

-- the first of them are stored, in their width, and those of the rest are left
pub record Stored {A : Type 0} (R : ℕ → A → Type 0) (l : List ℕ) (out : List A) (count : ℕ) (rest : List ℕ) : Type 0 where
  pub room : count ≤ length out
  pub some : AllZip R (take count (numbers_in l)) (take count out)
  pub left : drop count (numbers_in l) ≡ numbers_in rest

pub none_stored : {A : Type 0} (R : ℕ → A → Type 0) (l : List ℕ) (out : List A) → Stored R l out 0 l
none_stored R l out = record { room = omega arith; some = tt; left = refl }

module _ {A : Type 0} (R : ℕ → A → Type 0) (l : List ℕ) (out : List A) (count : ℕ) (rest : List ℕ) (h : Stored R l out count rest) where
  pub one_stored : (value : ℕ) (after : List ℕ) (y : A) → BeginsWith rest value after → count < length out → R value y → Stored R l (set out count y) (count + 1) after
  one_stored value after y b k r =
      let e : drop count (numbers_in l) ≡ value ∷ numbers_in after = h.left ∙ b.reads in
      let n = ap length e in
      let i : count < length (numbers_in l) = omega (arith, simp length-drop at n) in
      let d = sym (drop-cons (numbers_in l) count 0 i) ∙ e in
      let v : get_or (numbers_in l) count 0 ≡ value = cc in
      record {
        room = rw (length-set out count y) (omega arith);
        some = stored_more R (numbers_in l) out count y i k (rw v r) h.some;
        left = rw (add-one count) cc;
      }

  pub all_stored : length rest ≡ 0 → AllZip R (numbers_in l) (take count out)
  unfolding numbers_from
  all_stored e =
      let z : rest ≡ [] = nil_from_length rest e in
      let n = ap length (rw z at h.left) in
      let k : length (numbers_in l) ≤ count = omega (arith, simp length-drop at n) in
      rw (take_all count (numbers_in l) k) at h.some
