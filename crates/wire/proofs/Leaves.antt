-- The pieces that are not made of others: a count, some bytes, one byte, given bytes, rows of numbers; and `many`.
-- Assumes nothing.
use mathlib.Core.Path.{◌≡◌, refl, sym, ap, ◌∙◌}
use mathlib.Core.List.{List, [], ◌∷◌, ◌++◌}
use mathlib.Core.Bool.{Bool, true, false, not, ◌||◌}
use Prim.Native.Nat.{ℕ, zero, suc, ◌+◌, ◌*◌, ◌^◌, ◌≤◌, ◌<◌}
use native.Mathlib.Decide.{ℕ_discrete}
use native.Mathlib.Nat.{add-zero}
use native.Mathlib.Omega.{arith}
use lib.Dec.{ltb, eqb, lit<}
use lib.ListN.{length, get_or, take, drop, length-append, length-drop, take-append-drop}
use lib.Seq.{slice, slice_empty, slice-cons, length-slice, take_at, drop_at, length-take-le, ext_get_or, get_or-drop, get_or-take}
use borrow.Author.Tests.{ltb-false, le-ltb, eqb-true, eq-eqb, not-false}
use Rattle.wire.specs.Table.{rule, NoneMet}
use Rattle.wire.specs.Refusals.{SHORT}
use Rattle.wire.specs.Le.{Bytes, le, le_bytes}
use Rattle.wire.specs.Counts.{count_of, count_length, counted, shortest_len, count_form, Form}
use Rattle.wire.specs.declared.count.Count.{Count}
use Rattle.wire.specs.Rows.{rows, numbers_of, Below, differs}
use Rattle.wire.proofs.Le.{bytes_slice, bytes_take, bytes_drop, bytes_append, le_below, le-le_bytes_fits, le_bytes-le, length-le_bytes, bytes_le_bytes}
use Rattle.wire.proofs.Counts.{shortest_form}
use Rattle.wire.proofs.Forms.{FormAt, read_of_form, form_of_read, length_form, shortest_least}
use Rattle.wire.proofs.Piece.{Stands, Shorter, shorter_same, Piece, Steady, then, as_plain, stands_none}

-- ---- a count

abbrev trim_count : Count → Count
trim_count c = count_of (shortest_len c.value) c.value

-- a count that can stand in a file: of a length that its value has a form of, and whose flag is right
abbrev pub GoodCount : Count → Type 0
GoodCount c = Form c.len c.value × (c.shortest ≡ eqb c.len (shortest_len c.value))

stands_form : (s : List ℕ) (at len v : ℕ) → FormAt s at len v → Stands s at (count_form len v)
stands_form s at len v f =
    let l = length_form len v f.form in
    record { whole = rw l f.whole; bytes = rw l f.bytes }

form_stands : (s : List ℕ) (at len v : ℕ) → Form len v → Stands s at (count_form len v) → FormAt s at len v
form_stands s at len v f st =
    let l = length_form len v f in
    record { form = f; whole = rw l at st.whole; bytes = rw l at st.bytes }

pub count_sound : (s : List ℕ) (at : ℕ) → Bytes s → at ≤ length s → NoneMet (rule SHORT at (ltb (length s) (at + (counted s at).len)) ∷ [])
    → GoodCount (counted s at) × Stands s at (count_form (counted s at).len (counted s at).value)
    × (at + (counted s at).len ≡ at + length (count_form (counted s at).len (counted s at).value))
unfolding counted
count_sound s at bs h none =
    let n = count_length (get_or s at 0) in
    let f = form_of_read s at n bs refl (ltb-false (length s) (at + n) none.0) in
    ((f.form, refl), stands_form s at n _ f, rw (length_form n _ f.form))

pub count_complete : (s : List ℕ) (at : ℕ) (v : Count) → GoodCount v → Stands s at (count_form v.len v.value)
    → NoneMet (rule SHORT at (ltb (length s) (at + (counted s at).len)) ∷ []) × (counted s at ≡ v) × (at + (counted s at).len ≡ at + length (count_form v.len v.value))
unfolding counted
count_complete s at v good st =
    let f = form_stands s at v.len v.value good.0 st in
    let r = read_of_form s at v.len v.value f in
    let flag : (b : Bool) → v.shortest ≡ b → record { value = v.value; len = v.len; shortest = b } ≡ v = λ b e. rw (← e) in
    rw r.0 ((le-ltb (length s) (at + v.len) f.whole, tt), rw r.1 (flag _ good.1), rw (length_form v.len v.value good.0))

pub count_trimmed : (v : Count) → GoodCount v
    → GoodCount (trim_count v) × Shorter (count_form (shortest_len v.value) v.value) (count_form v.len v.value) (v.len ≡ shortest_len v.value)
count_trimmed v good =
    let g = shortest_form v.value good.0.word in
    let a = length_form v.len v.value good.0 in
    let b = length_form (shortest_len v.value) v.value g in
    ((g, refl), record { least = omega (arith, shortest_least v.len v.value good.0); equal = λ e. omega arith; tight = λ t. omega arith })

abbrev pub count : Piece Count
count =
    record {
      rules = λ s at. rule SHORT at (ltb (length s) (at + (counted s at).len)) ∷ [];
      value = counted;
      next = λ s at. at + (counted s at).len;
      form = λ c. count_form c.len c.value;
      Good = GoodCount;
      trim = trim_count;
      Tight = λ c. c.len ≡ shortest_len c.value;
      sound = count_sound;
      complete = count_complete;
      trimmed = count_trimmed;
    }

-- ---- n bytes, whatever they are

abbrev pub bytes : ℕ → Piece (List ℕ)
bytes n =
    record {
      rules = λ s at. rule SHORT at (ltb (length s) (at + n)) ∷ [];
      value = λ s at. slice at (at + n) s;
      next = λ s at. at + n;
      form = λ v. v;
      Good = λ v. (length v ≡ n) × Bytes v;
      trim = λ v. v;
      Tight = λ v. Unit {0};
      sound = λ s at bs h none.
          let w : at + n ≤ length s = ltb-false (length s) (at + n) none.0 in
          let l : length (slice at (at + n) s) ≡ n = length-slice at (at + n) s w ∙ omega arith in
          ((l, bytes_slice at (at + n) s bs), record { whole = rw l w; bytes = rw l }, rw l);
      complete = λ s at v good st.
          let w = rw good.0 at st.whole in
          let e = rw good.0 at st.bytes in
          ((le-ltb (length s) (at + n) w, tt), e, rw good.0);
      trimmed = λ v good. (good, shorter_same v);
    }

-- ---- one byte

-- the bytes from a place on, one byte more in front
slice_first : (s : List ℕ) (at n : ℕ) → at + suc n ≤ length s → slice at (at + suc n) s ≡ get_or s at 0 ∷ slice (at + 1) (at + 1 + n) s
slice_first s at n h =
    let e : at + suc n ≡ at + 1 + n = omega arith in
    let f : suc at ≡ at + 1 = omega arith in
    let g = slice-cons at (at + suc n) s 0 (omega arith) h in
    g ∙ cc

pub slice-one : (s : List ℕ) (at : ℕ) → at + 1 ≤ length s → slice at (at + 1) s ≡ get_or s at 0 ∷ []
slice-one s at h = slice_first s at 0 h ∙ ap (λ (l : List ℕ). get_or s at 0 ∷ l) (rw add-zero (slice_empty (at + 1) s))

pub first_of : (s : List ℕ) (at v : ℕ) → Stands s at (v ∷ []) → get_or s at 0 ≡ v
first_of s at v st = let e = st.bytes in cc (slice-one s at st.whole)

abbrev pub byte : Piece ℕ
byte =
    record {
      rules = λ s at. rule SHORT at (ltb (length s) (at + 1)) ∷ [];
      value = λ s at. get_or s at 0;
      next = λ s at. at + 1;
      form = λ v. v ∷ [];
      Good = λ v. v < 256;
      trim = λ v. v;
      Tight = λ v. Unit {0};
      sound = λ s at bs h none.
          let w : at + 1 ≤ length s = ltb-false (length s) (at + 1) none.0 in
          (bs at, record { whole = w; bytes = slice-one s at w }, refl);
      complete = λ s at v good st.
          ((le-ltb (length s) (at + 1) st.whole, tt), first_of s at v st, refl);
      trimmed = λ v good. (good, shorter_same (v ∷ []));
    }

-- ---- given bytes

or_false : (a b : Bool) → (a || b) ≡ false → (a ≡ false) × (b ≡ false)
or_false true b e = (cc, cc)
or_false false b e = (refl, e)

-- none of the n bytes differs: each is the wanted one, and conversely
each_same : (s : List ℕ) (at : ℕ) (want : List ℕ) (n : ℕ) → differs s at want n ≡ false → (i : ℕ) → i < n → get_or s (at + i) 0 ≡ get_or want i 0
each_same s at want zero e i h = absurd (omega arith)
each_same s at want (suc n) e i h =
    let k = or_false (differs s at want n) (not (eqb (get_or s (at + n) 0) (get_or want n 0))) e in
    elim (ℕ_discrete i n) [
      | yes d ↦ rw d (eqb-true (get_or s (at + n) 0) (get_or want n 0) (not-false (eqb (get_or s (at + n) 0) (get_or want n 0)) k.1))
      | no d ↦ each_same s at want n k.0 i (omega arith)
    ]

same_each : (s : List ℕ) (at : ℕ) (want : List ℕ) (n : ℕ) → ((i : ℕ) → i < n → get_or s (at + i) 0 ≡ get_or want i 0) → differs s at want n ≡ false
same_each s at want zero h = refl
same_each s at want (suc n) h =
    rw (same_each s at want n (λ i l. h i (omega arith)), eq-eqb (get_or s (at + n) 0) (get_or want n 0) (h n (omega arith)))

module _ (s : List ℕ) (at : ℕ) (want : List ℕ) (n : ℕ) (long : length want ≡ n) (whole : at + n ≤ length s) where
  pub same_bytes : differs s at want n ≡ false → slice at (at + n) s ≡ want
  same_bytes e =
      let l : length (slice at (at + n) s) ≡ n = length-slice at (at + n) s whole ∙ omega arith in
      ext_get_or 0 (slice at (at + n) s) want (l ∙ sym long)
      (λ i h. rw (get_or-drop, get_or-take (at + n) s (at + i) 0 (omega arith)) (each_same s at want n e i (omega arith)))

  pub bytes_same : slice at (at + n) s ≡ want → differs s at want n ≡ false
  bytes_same e =
      same_each s at want n
      (λ i h. sym (get_or-take (at + n) s (at + i) 0 (omega arith)) ∙ sym (get_or-drop at (take (at + n) s) i 0) ∙ ap (λ (l : List ℕ). get_or l i 0) e)

module _ (number n : ℕ) (want : List ℕ) (long : length want ≡ n) where
  abbrev pub given : Piece (Unit {0})
  given =
      record {
        rules = λ s at. rule SHORT at (ltb (length s) (at + n)) ∷ rule number at (differs s at want n) ∷ [];
        value = λ s at. tt;
        next = λ s at. at + n;
        form = λ v. want;
        Good = λ v. Unit {0};
        trim = λ v. v;
        Tight = λ v. Unit {0};
        sound = λ s at bs h none.
            let w : at + n ≤ length s = ltb-false (length s) (at + n) none.0 in
            (tt, record { whole = rw long w; bytes = rw long (same_bytes s at want n long w none.1.0) }, rw long);
        complete = λ s at v good st.
            let w : at + n ≤ length s = rw long at st.whole in
            ((le-ltb (length s) (at + n) w, (bytes_same s at want n long w (rw long at st.bytes), tt)), refl, rw long);
        trimmed = λ v good. (tt, shorter_same want);
      }

-- ---- n numbers of k bytes

module _ (k : ℕ) where
  pub length-rows : (xs : List ℕ) → length (rows k xs) ≡ k * length xs
  unfolding rows
  length-rows [] = omega arith
  length-rows (x ∷ xs) = length-append (le_bytes k x) (rows k xs) ∙ omega (arith, length-le_bytes k x, length-rows xs)

  pub bytes_rows : (xs : List ℕ) → Bytes (rows k xs)
  unfolding rows
  bytes_rows [] i = lit< tt
  bytes_rows (x ∷ xs) i = bytes_append (le_bytes k x) (rows k xs) (bytes_le_bytes k x) (bytes_rows xs) i

  pub rows_there : (n : ℕ) (bs : List ℕ) → (length bs ≡ k * n) × Bytes bs
      → ((length (numbers_of k n bs) ≡ n) × Below (256 ^ k) (numbers_of k n bs)) × (rows k (numbers_of k n bs) ≡ bs)
  unfolding rows numbers_of
  rows_there zero [] h = ((refl, tt), refl)
  rows_there zero (b ∷ bs) h = absurd (omega arith)
  rows_there (suc n) bs h =
      let l : length (take k bs) ≡ k = length-take-le k bs (omega arith) in
      let ih = rows_there n (drop k bs) (rw length-drop (omega arith), bytes_drop k bs h.1) in
      let e : le_bytes k (le (take k bs)) ≡ take k bs = rw l at (le_bytes-le (take k bs) (bytes_take k bs h.1)) in (
        (ap suc ih.0.0, (le_below k (take k bs) (bytes_take k bs h.1) (omega arith), ih.0.1)),
        rw (e, ih.1) (take-append-drop k bs),
      )

  pub rows_back : (n : ℕ) (xs : List ℕ) → (length xs ≡ n) × Below (256 ^ k) xs
      → ((length (rows k xs) ≡ k * n) × Bytes (rows k xs)) × (numbers_of k n (rows k xs) ≡ xs)
  unfolding rows numbers_of
  rows_back n xs h = ((length-rows xs ∙ rw h.0, bytes_rows xs), again n xs h.0 h.1)
    where
      again : (n : ℕ) (xs : List ℕ) → length xs ≡ n → Below (256 ^ k) xs → numbers_of k n (rows k xs) ≡ xs
      again zero [] l b = refl
      again zero (x ∷ xs) l b = absurd (omega arith)
      again (suc n) [] l b = absurd (omega arith)
      again (suc n) (x ∷ xs) l b =
          rw (
            take_at (le_bytes k x) (rows k xs) k (length-le_bytes k x),
            drop_at (le_bytes k x) (rows k xs) k (length-le_bytes k x),
            le-le_bytes_fits k x b.0,
            again n xs (omega arith) b.1,
          )

  abbrev pub numbers : ℕ → Piece (List ℕ)
  numbers n = as_plain (bytes (k * n)) (numbers_of k n) (rows k) (λ xs. (length xs ≡ n) × Below (256 ^ k) xs) (rows_there n) (rows_back n)

-- ---- many of one kind, each of which may depend on a state that the earlier ones leave

module _ {A : Type 0} (P : Piece A) (Q : A → Piece (List A)) (steady : Steady P Q) where
  abbrev pub cons_form : List A → List ℕ
  cons_form [] = []
  cons_form (a ∷ cs) = P.form a ++ (Q a).form cs

  abbrev pub ConsGood : List A → Type 0
  ConsGood [] = ⊥
  ConsGood (a ∷ cs) = P.Good a × (Q a).Good cs

  abbrev pub cons_trim : List A → List A
  cons_trim [] = []
  cons_trim (a ∷ cs) = P.trim a ∷ (Q a).trim cs

  abbrev pub ConsTight : List A → Type 0
  ConsTight [] = ⊥
  ConsTight (a ∷ cs) = P.Tight a × (Q a).Tight cs

  pub cons_complete : (s : List ℕ) (at : ℕ) (v : List A) → ConsGood v → Stands s at (cons_form v)
      → NoneMet ((then P Q steady).rules s at) × (◌≡◌ {A = List A} (P.value s at ∷ (Q (P.value s at)).value s (P.next s at)) v) × ((then P Q steady).next s at ≡ at + length (cons_form v))
  cons_complete s at [] good st = absurd good
  cons_complete s at (a ∷ cs) good st =
      let p = (then P Q steady).complete s at (a, cs) good st in
      (p.0, ap (λ (x : A × List A). x.0 ∷ x.1) p.1, p.2)

  pub cons_trimmed : (v : List A) → ConsGood v → ConsGood (cons_trim v) × Shorter (cons_form (cons_trim v)) (cons_form v) (ConsTight v)
  cons_trimmed [] good = absurd good
  cons_trimmed (a ∷ cs) good = (then P Q steady).trimmed (a, cs) good

  abbrev pub cons : Piece (List A)
  cons =
      record {
        rules = (then P Q steady).rules;
        value = λ s at. P.value s at ∷ (Q (P.value s at)).value s (P.next s at);
        next = (then P Q steady).next;
        form = cons_form;
        Good = ConsGood;
        trim = cons_trim;
        Tight = ConsTight;
        sound = (then P Q steady).sound;
        complete = cons_complete;
        trimmed = cons_trimmed;
      }

abbrev pub nothing : {A : Type 0} → Piece (List A)
nothing =
    record {
      rules = λ s at. [];
      value = λ s at. [];
      next = λ s at. at;
      form = λ v. [];
      Good = λ v. v ≡ [];
      trim = λ v. v;
      Tight = λ v. Unit {0};
      sound = λ s at bs h none. (refl, stands_none s at h, rw add-zero);
      complete = λ s at v good st. (tt, sym good, rw add-zero);
      trimmed = λ v good. (good, shorter_same []);
    }

module _ {A K : Type 0} (P : K → Piece A) (step : K → A → K) (steady : (k : K) (a : A) → step k ((P k).trim a) ≡ step k a) where
  abbrev pub many : ℕ → K → Piece (List A)
  many zero k = nothing
  many (suc n) k = cons (P k) (λ a. many n (step k a)) (λ a. ap (many n) (steady k a))
