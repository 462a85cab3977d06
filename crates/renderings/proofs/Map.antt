-- The map's entries: what parts and lengths make, and what good entries are to the parts. The two are one another's inverse, and each good
-- where the other is.
-- Assumes nothing.
use mathlib.Core.Path.{◌≡◌, refl, ap}
use mathlib.Core.List.{List, [], ◌∷◌, ◌++◌, map}
use mathlib.Core.Bool.{false}
use mathlib.Core.Logic.{◌↔◌}
use Prim.Native.Nat.{ℕ, zero, suc, ◌+◌, ◌-◌, ◌*◌, ◌^◌, ◌≤◌, ◌<◌}
use native.Mathlib.Omega.{arith}
use borrow.Author.Tests.{ltb-false, le-ltb, leb-false, lt-leb}
use lib.Dec.{leb}
use lib.ListN.{length, take, drop, length-append, length-drop, take-append-drop}
use lib.Seq.{take_at, drop_at, length-take-le}
use Rattle.wire.specs.Table.{NoneMet}
use Rattle.wire.specs.Le.{over}
use Rattle.wire.specs.Rows.{Below}
use Rattle.wire.specs.Counts.{shortest_len, count_of}
use Rattle.advice.proofs.Pieces.{Entry, entries_piece}
use Rattle.writer.specs.Parts.{joined, EachShortest}
use Rattle.writer.specs.Writer.{sum, advice_bytes, key_rules}
use Rattle.renderings.specs.Rendering.{advice_forms, Forms}
use Rattle.renderings.proofs.Shown.{key_of, size_of, length_of, len_of, values_of}

-- ---- numbers below a bound

module _ (m : ℕ) where
  below_append : (a b : List ℕ) → Below m a → Below m b → Below m (a ++ b)
  below_append [] b g h = h
  below_append (x ∷ a) b g h = (g.0, below_append a b g.1 h)

  below_take : (n : ℕ) (xs : List ℕ) → Below m xs → Below m (take n xs)
  below_take zero xs h = tt
  below_take (suc n) [] h = tt
  below_take (suc n) (x ∷ xs) h = (h.0, below_take n xs h.1)

  below_drop : (n : ℕ) (xs : List ℕ) → Below m xs → Below m (drop n xs)
  below_drop zero xs h = h
  below_drop (suc n) [] h = tt
  below_drop (suc n) (x ∷ xs) h = below_drop n xs h.1

-- ---- the entries of keys, lengths in so many bytes each, and values

abbrev pub entries_from : List ℕ → List ℕ → List ℕ → List ℕ → List Entry
entries_from keys [] ls values = []
entries_from keys (n ∷ ns) [] values = []
entries_from keys (n ∷ ns) (l ∷ ls) values = (take 4 keys, (count_of l n, take n values)) ∷ entries_from (drop 4 keys) ns ls (drop n values)

-- the writer's bytes have each length in its shortest form
pub short_forms : (keys lengths values : List ℕ) → advice_forms keys lengths (map shortest_len lengths) values ≡ advice_bytes keys lengths values
unfolding advice_forms advice_bytes
short_forms keys [] values = refl
short_forms keys (n ∷ ns) values = rw (short_forms (drop 4 keys) ns (drop n values))

-- what is had back from them
pub record Back (ks ns ls vs : List ℕ) (es : List Entry) : Type 0 where
  pub keys : joined (map key_of es) ≡ ks
  pub lengths : map length_of es ≡ ns
  pub lens : map len_of es ≡ ls
  pub values : joined (map values_of es) ≡ vs

none : (xs : List ℕ) → length xs ≡ 0 → [] ≡ xs
none [] h = refl
none (x ∷ xs) h = absurd (omega arith)

pub from_back : (keys lengths lens values : List ℕ) → length keys ≡ 4 * length lengths → length values ≡ sum lengths → Forms lens lengths
    → Back keys lengths lens values (entries_from keys lengths lens values)
unfolding joined
from_back keys [] [] values k v f = record { keys = none keys k; lengths = refl; lens = refl; values = none values v }
from_back keys [] (l ∷ ls) values k v f = absurd f
from_back keys (n ∷ ns) [] values k v f = absurd f
from_back keys (n ∷ ns) (l ∷ ls) values k v f =
    let ih = from_back (drop 4 keys) ns ls (drop n values) (rw length-drop (omega arith)) (rw length-drop (omega arith)) f.1 in
    record {
      keys = rw ih.keys (take-append-drop 4 keys);
      lengths = rw ih.lengths;
      lens = rw ih.lens;
      values = rw ih.values (take-append-drop n values);
    }

module _ (places : ℕ) where
  pub entries_form : (seen : List (List ℕ)) (keys lengths lens values : List ℕ)
      → (entries_piece places (length lengths) seen).form (entries_from keys lengths lens values) ≡ advice_forms keys lengths lens values
  unfolding advice_forms
  entries_form seen keys [] lens values = refl
  entries_form seen keys (n ∷ ns) [] values = refl
  entries_form seen keys (n ∷ ns) (l ∷ ls) values = rw (entries_form (take 4 keys ∷ seen) (drop 4 keys) ns ls (drop n values))

  -- ---- good entries

  -- they make parts that fit, with as many lengths as are counted, and are had back from these
  pub record Joined (n : ℕ) (seen : List (List ℕ)) (es : List Entry) : Type 0 where
    pub counted : length (map length_of es) ≡ n
    pub whole : entries_from (joined (map key_of es)) (map length_of es) (map len_of es) (joined (map values_of es)) ≡ es
    pub trimmed : (entries_piece places n seen).trim es ≡ entries_from (joined (map key_of es)) (map length_of es) (map shortest_len (map length_of es)) (joined (map values_of es))
    pub tight : (entries_piece places n seen).Tight es ↔ EachShortest (map size_of es)
    pub keys : length (joined (map key_of es)) ≡ 4 * length (map length_of es)
    pub values : length (joined (map values_of es)) ≡ sum (map length_of es)
    pub keys_fit : Below (2 ^ 64) (joined (map key_of es))
    pub values_fit : Below (2 ^ 64) (joined (map values_of es))
    pub value_bytes : Below (2 ^ 61) (map length_of es)
    pub forms : Forms (map len_of es) (map length_of es)
    pub tested : (i : ℕ) → NoneMet (key_rules i seen (joined (map key_of es)) (map length_of es))

  pub good_joined : (n : ℕ) (seen : List (List ℕ)) (es : List Entry) → (entries_piece places n seen).Good es → Joined n seen es
  unfolding joined key_rules
  good_joined zero seen es g =
      rw g (record {
        counted = refl;
        whole = refl;
        trimmed = refl;
        tight = (λ t. tt, λ t. tt);
        keys = refl;
        values = refl;
        keys_fit = tt;
        values_fit = tt;
        value_bytes = tt;
        forms = tt;
        tested = λ i. tt;
      })
  good_joined (suc n) seen [] g = absurd g
  good_joined (suc n) seen (e ∷ es) g =
      let ih = good_joined n (e.0 ∷ seen) es g.1 in
      let key = g.0.1.0.0 in
      let size = g.0.1.0.1.0 in
      let vals = g.0.1.0.1.1 in
      let k = take_at e.0 (joined (map key_of es)) 4 key.0.0 in
      let l = drop_at e.0 (joined (map key_of es)) 4 key.0.0 in
      let x = take_at e.1.1 (joined (map values_of es)) e.1.0.value vals.0 in
      let y = drop_at e.1.1 (joined (map values_of es)) e.1.0.value vals.0 in
      record {
        counted = ap suc ih.counted;
        whole = rw (k, l, x, y, ih.whole, ← size.0.1);
        trimmed = rw (k, l, x, y, ih.trimmed);
        tight = (λ t. (t.0.1.0, ih.tight.0 t.1), λ t. ((tt, (t.0, tt)), ih.tight.1 t.1));
        keys = rw length-append (omega (arith, key.0.0, ih.keys));
        values = rw length-append (omega (arith, vals.0, ih.values));
        keys_fit = below_append (2 ^ 64) e.0 (joined (map key_of es)) key.0.1 ih.keys_fit;
        values_fit = below_append (2 ^ 64) e.1.1 (joined (map values_of es)) vals.1 ih.values_fit;
        value_bytes = (omega (arith, ltb-false (2 ^ 64 - 1) (8 * e.1.0.value) size.1.0), ih.value_bytes);
        forms = (size.0.0, ih.forms);
        tested = λ i. rw (k, l) (key.1.0, (g.0.1.1.0, ih.tested (i + 1)));
      }

  -- parts that fit make good entries
  pub joined_good : (i : ℕ) (seen : List (List ℕ)) (keys lengths lens values : List ℕ) → length seen + length lengths ≤ places
      → length keys ≡ 4 * length lengths → length values ≡ sum lengths → Below (2 ^ 64) keys → Below (2 ^ 64) values → Below (2 ^ 61) lengths
      → Forms lens lengths → NoneMet (key_rules i seen keys lengths)
      → (entries_piece places (length lengths) seen).Good (entries_from keys lengths lens values)
  unfolding key_rules
  joined_good i seen keys [] lens values r k v kf vf b f t = refl
  joined_good i seen keys (n ∷ ns) [] values r k v kf vf b f t = absurd f
  joined_good i seen keys (n ∷ ns) (l ∷ ls) values r k v kf vf b f t =
      let room : leb places (length seen) ≡ false = lt-leb places (length seen) (omega arith) in
      let small : over (8 * n) ≡ false = le-ltb (2 ^ 64 - 1) (8 * n) (omega (arith, b.0)) in
      let four : length (take 4 keys) ≡ 4 = length-take-le 4 keys (omega arith) in
      let long : length (take n values) ≡ n = length-take-le n values (omega arith) in
      let ih =
      joined_good (i + 1) (take 4 keys ∷ seen) (drop 4 keys) ns ls (drop n values) (omega arith) (rw length-drop (omega arith)) (rw length-drop (omega arith))
      (below_drop (2 ^ 64) 4 keys kf) (below_drop (2 ^ 64) n values vf) b.1 f.1 t.1.1 in (
        (
          (room, tt),
          (
            (((four, below_take (2 ^ 64) 4 keys kf), (t.0, tt)), (((f.0, refl), (small, tt)), (long, below_take (2 ^ 64) n values vf))),
            (t.1.0, tt),
          ),
        ),
        ih,
      )

  -- what trimming leaves as it is
  pub kept : {A : Type 0} (g : Entry → A) → ((e : Entry) → g (e.0, (count_of (shortest_len e.1.0.value) e.1.0.value, e.1.1)) ≡ g e)
      → (n : ℕ) (seen : List (List ℕ)) (es : List Entry) → map g ((entries_piece places n seen).trim es) ≡ map g es
  kept g same zero seen es = refl
  kept g same (suc n) seen [] = refl
  kept g same (suc n) seen (e ∷ es) = rw (same e, kept g same n (e.0 ∷ seen) es)

  -- entries have their places, and are as good with others
  pub entries_few : (n : ℕ) (seen : List (List ℕ)) (es : List Entry) → length seen ≤ places → (entries_piece places n seen).Good es → length seen + n ≤ places
  entries_few zero seen es h g = omega arith
  entries_few (suc n) seen [] h g = absurd g
  entries_few (suc n) seen (e ∷ es) h g =
      let room : length seen < places = leb-false places (length seen) g.0.0.0 in
      omega (arith, entries_few n (e.0 ∷ seen) es (omega arith) g.1)

  pub more_places : (q n : ℕ) (seen : List (List ℕ)) (es : List Entry) → length seen + n ≤ q → (entries_piece places n seen).Good es → (entries_piece q n seen).Good es
  more_places q zero seen es h g = g
  more_places q (suc n) seen [] h g = absurd g
  more_places q (suc n) seen (e ∷ es) h g =
      let room : leb q (length seen) ≡ false = lt-leb q (length seen) (omega arith) in
      (((room, tt), g.0.1), more_places q n (e.0 ∷ seen) es (omega arith) g.1)
