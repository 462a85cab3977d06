-- The laws of counts.
-- Assumes nothing.
use mathlib.Core.Path.{◌≡◌, refl, sym, ap, ◌∙◌}
use mathlib.Core.Bool.{Bool, true, false}
use mathlib.Core.Logic.{◌⊎◌, inl, inr, ⊎_elim}
use mathlib.Core.List.{List, [], ◌∷◌, ◌++◌, append_assoc, append-nil}
use Prim.Native.Nat.{ℕ, zero, suc, ◌+◌, ◌-◌, ◌*◌, ◌/◌, ◌%◌, ◌^◌, ◌≤◌, ◌<◌}
use native.Mathlib.Nat.{lt_of_not-le, zero-add, add-sub_cancel_left}
use borrow.Rule.Slice.PartMut.{put_mid}
use native.Mathlib.Omega.{arith}
use borrow.Author.Tests.{ltb-true, ltb-false, le-leb, lt-leb, lt-ltb, le-ltb}
use lib.Count.{trailing_le, trailing_of_zero}
use lib.Dec.{ltb}
use lib.ListN.{length, take, drop, get_or, set, drop_of_length-le}
use lib.Pow.{pow_mono, shl_lt, shl_exact}
use lib.Seq.{sets, sets-eq, drop-drop}
use native.Mathlib.Numerals.{add-one}
use Rattle.wire.specs.Table.{refused, accepted, pick, first_met, At}
use Rattle.wire.specs.Refusals.{SHORT, ROOM}
use Rattle.wire.specs.Le.{le_at, le_bytes}
use Rattle.wire.specs.Counts.{count_of, count_length, count_value, counted, count_rule, count_outcome, least_from, shortest_len, Form, count_form, count_bytes, write_outcome, with_count}
use Rattle.wire.specs.declared.count.Count.{Count}
use Rattle.wire.proofs.Tables.{accepted_none}

pub lt_or_ge : (a b : ℕ) → (a < b) ⊎ (b ≤ a)
lt_or_ge a b = go (ltb a b) refl
  where
    go : (t : Bool) → ltb a b ≡ t → (a < b) ⊎ (b ≤ a)
    go true e = inl (ltb-true a b e)
    go false e = inr (ltb-false a b e)

-- ---- the cases of the definitions, for the code's proof

pub length_most : (b : ℕ) → count_length b ≤ 9
unfolding count_length
length_most b = omega (arith, trailing_le 8 b)

pub length_least : (b : ℕ) → 1 ≤ count_length b
unfolding count_length
length_least b = omega arith

pub length_of_zero : count_length 0 ≡ 9
unfolding count_length
length_of_zero = ap (λ (x : ℕ). x + 1) (trailing_of_zero 8)

pub value_upto_8 : (s : List ℕ) (at len : ℕ) → len ≤ 8 → count_value s at len ≡ le_at s at len / 2 ^ len
unfolding count_value
value_upto_8 s at len h = rw (le-leb len 8 h)

pub value_9 : (s : List ℕ) (at len : ℕ) → 8 < len → count_value s at len ≡ le_at s (at + 1) 8
unfolding count_value
value_9 s at len h = rw (lt-leb len 8 h)

-- the count at `at` is not whole, or is
module _ (s : List ℕ) (at : ℕ) where
  abbrev length_at : ℕ
  length_at = count_length (get_or s at 0)

  pub count_short : length s < at + length_at → count_outcome s at ≡ refused SHORT at
  unfolding count_outcome counted first_met
  count_short h = rw (lt-ltb (length s) (at + length_at) h)

  pub count_whole : at + length_at ≤ length s → count_outcome s at ≡ accepted (record { value = counted s at; next = at + length_at })
  unfolding count_outcome counted first_met
  count_whole h = rw (le-ltb (length s) (at + length_at) h)

  -- a count that is read is inside the file
  pub count_inside : (c : Count) (next : ℕ) → count_outcome s at ≡ accepted (record { value = c; next = next }) → next ≤ length s
  unfolding count_outcome
  count_inside c next e =
      let k = accepted_none (count_rule s at ∷ []) (record { value = counted s at; next = at + (counted s at).len }) (record { value = c; next = next }) e in
      let same : at + (counted s at).len ≡ next = ap (λ (x : At Count). x.next) k.1 in
      rw same at (ltb-false (length s) (at + (counted s at).len) k.0.0)

  pub whole_upto_8 : at + length_at ≤ length s → length_at ≤ 8
      → count_outcome s at ≡ accepted (record { value = count_of length_at (le_at s at length_at / 2 ^ length_at); next = at + length_at })
  unfolding counted
  whole_upto_8 h m = rw (← value_upto_8 s at length_at m) (count_whole h)

  pub whole_9 : at + length_at ≤ length s → 8 < length_at
      → count_outcome s at ≡ accepted (record { value = count_of length_at (le_at s (at + 1) 8); next = at + length_at })
  unfolding counted
  whole_9 h m = rw (← value_9 s at length_at m) (count_whole h)

-- ---- long counts

-- one count is at most one long count
pub one_most : (b : Bool) → pick b 0 1 ≤ 1
one_most true = omega arith
one_most false = omega arith

-- ---- the shortest length

-- one try of the search, with k more after it
module _ (k len v : ℕ) where
  pub least_here : v < 2 ^ (7 * len) → least_from (suc k) len v ≡ len
  unfolding least_from
  least_here h = rw (lt-ltb v (2 ^ (7 * len)) h)

  pub least_next : 2 ^ (7 * len) ≤ v → least_from (suc k) len v ≡ least_from k (len + 1) v
  unfolding least_from
  least_next h = rw (le-ltb v (2 ^ (7 * len)) h)

-- what the search from len on finds, in k tries: m is the least length that v fits, or the one past the last try
pub record Least (k len v m : ℕ) : Type 0 where
  pub from : len ≤ m
  pub upto : m ≤ len + k
  pub below : m < len + k → v < 2 ^ (7 * m)
  pub least : (j : ℕ) → len ≤ j → v < 2 ^ (7 * j) → m ≤ j

pub search_least : (k len v : ℕ) → Least k len v (least_from k len v)
unfolding least_from
search_least zero len v = record { from = omega arith; upto = omega arith; below = omega arith; least = λ j h l. h }
search_least (suc k) len v = ⊎_elim here (next (search_least k (len + 1) v)) (lt_or_ge v (2 ^ (7 * len)))
  where
    here : v < 2 ^ (7 * len) → Least (suc k) len v (least_from (suc k) len v)
    here h = rw (least_here k len v h) (record { from = omega arith; upto = omega arith; below = λ l. h; least = λ j a b. a })

    next : Least k (len + 1) v (least_from k (len + 1) v) → 2 ^ (7 * len) ≤ v → Least (suc k) len v (least_from (suc k) len v)
    next ih h =
        rw (least_next k len v h)
        (record {
          from = omega (arith, ih.from);
          upto = omega (arith, ih.upto);
          below = λ l. ih.below (omega arith);
          least = λ j a b. ih.least j (omega (arith, past j b)) b;
        })
      where
        -- a length that v fits is past len
        past : (j : ℕ) → v < 2 ^ (7 * j) → len < j
        past j b = lt_of_not-le (λ (g : j ≤ len). omega (arith, pow_mono {i = 7 * j} {j = 7 * len} (omega arith)))

pub shortest_form : (v : ℕ) → v < 2 ^ 64 → Form (shortest_len v) v
unfolding shortest_len
shortest_form v h =
    let s = search_least 8 1 v in
    record { least = s.from; most = s.upto; below = λ l. s.below (omega arith); word = h }

-- ---- the forms

pub form_upto_8 : (len v : ℕ) → len ≤ 8 → count_form len v ≡ le_bytes len ((2 * v + 1) * 2 ^ (len - 1))
unfolding count_form
form_upto_8 len v h = rw (le-leb len 8 h)

pub form_9 : (len v : ℕ) → 8 < len → count_form len v ≡ 0 ∷ le_bytes 8 v
unfolding count_form
form_9 len v h = rw (lt-leb len 8 h)

module _ (len v : ℕ) (f : Form len v) (h : len ≤ 8) where
  -- a value whose form has at most 8 bytes is far below a word
  pub form_small : v < 2 ^ 56
  form_small = omega (arith, f.below h, pow_mono {i = 7 * len} {j = 56} (omega arith))

  -- and the form's number has 8 * len bits
  one_more : 2 * v + 1 < 2 ^ suc (7 * len)
  one_more = omega (arith, f.below h)

  pub form_number : (2 * v + 1) * 2 ^ (len - 1) < 2 ^ (8 * len)
  form_number =
      let e : suc (7 * len) + (len - 1) ≡ 8 * len = omega (arith, f.least) in
      rw e at (shl_lt (suc (7 * len)) (len - 1) one_more)

  pub form_shift : (2 * v + 1) * 2 ^ (len - 1) % 2 ^ 64 ≡ (2 * v + 1) * 2 ^ (len - 1)
  form_shift = shl_exact (suc (7 * len)) (len - 1) 64 one_more (omega (arith, f.least))

-- a whole slice stored, and a part that was lent and came back, as a store
pub sets_whole : (out bs : List ℕ) → length bs ≡ length out → sets out 0 bs ≡ bs
sets_whole out bs e =
    sets-eq bs out 0 (omega arith) ∙ rw zero-add (ap (λ (l : List ℕ). bs ++ l) (drop_of_length-le out {i = length bs} (omega arith)) ∙ append-nil bs)

pub part_stored : (out : List ℕ) (at n : ℕ) {part bs : List ℕ} → part ≡ bs → length bs ≡ n → at + n ≤ length out → put_mid at (at + n - at) out part ≡ sets out at bs
part_stored out at n {part} {bs} p l h =
    let there : at + length bs ≤ length out = omega arith in
    rw (sets-eq bs out at there, p, add-sub_cancel_left, drop-drop, l) (sym (append_assoc (take at out) bs (drop (at + n) out)))

-- what the code stores is the form
module _ (out : List ℕ) (at len v : ℕ) (f : Form len v) where
  pub store_upto_8 : len ≤ 8 → sets out at (le_bytes len ((2 * v + 1) * 2 ^ (len - 1) % 2 ^ 64)) ≡ sets out at (count_form len v)
  store_upto_8 h = rw (form_shift len v f h, form_upto_8 len v h)

  pub store_9 : 8 < len → sets (set out at 0) (at + 1) (le_bytes 8 v) ≡ sets out at (count_form len v)
  store_9 h = rw (form_9 len v h, add-one)

-- ---- the cases of a write

module _ (out : List ℕ) (at v : ℕ) where
  pub write_no : length out < at + shortest_len v → (write_outcome out at v ≡ refused ROOM at) × (with_count out at v ≡ out)
  unfolding write_outcome with_count first_met
  write_no h = rw (lt-ltb (length out) (at + shortest_len v) h) (refl, refl)

  pub write_yes : at + shortest_len v ≤ length out
      → (write_outcome out at v ≡ accepted (at + shortest_len v)) × (with_count out at v ≡ sets out at (count_bytes v))
  unfolding write_outcome with_count first_met
  write_yes h = rw (le-ltb (length out) (at + shortest_len v) h) (refl, refl)
