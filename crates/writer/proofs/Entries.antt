-- The map's entries, written one after the other. Assumes nothing.
use mathlib.Core.Path.{◌≡◌, refl, sym, ap, ◌∙◌}
use mathlib.Core.List.{List, [], ◌∷◌, ◌++◌, map, append_assoc, append-nil}
use Prim.Native.Nat.{ℕ, ◌+◌, ◌-◌, ◌*◌, ◌^◌, ◌≤◌, ◌<◌}
use native.Mathlib.Numerals.{add-one}
use native.Mathlib.Omega.{arith}
use borrow.Rule.Slice.PartMut.{put_mid}
use lib.ListN.{length, take, drop, get_or, length-append, length-drop, drop_of_length-le}
use lib.Seq.{drop-cons, drop-drop, length-take-le, take_all}
use native.Mathlib.Nat.{add-sub_cancel_left}
use Rattle.std.proofs.lemmas.Slice.{take-put_mid}
use Rattle.wire.specs.Rows.{Below, rows}
use Rattle.wire.specs.Counts.{shortest_len, count_bytes}
use Rattle.wire.proofs.Leaves.{length-rows}
use Rattle.writer.specs.Writer.{sum, advice_bytes}
use Rattle.writer.proofs.Counted.{length-count}

abbrev pub entry_bytes : List ℕ → ℕ → List ℕ → List ℕ
entry_bytes keys n values = rows 8 (take 4 keys) ++ (count_bytes n ++ rows 8 (take n values))

abbrev pub entry_size : ℕ → ℕ
entry_size n = 32 + shortest_len n + 8 * n

pub length-entry : (keys : List ℕ) (n : ℕ) (values : List ℕ) → 4 ≤ length keys → n < 2 ^ 64 → n ≤ length values → length (entry_bytes keys n values) ≡ entry_size n
length-entry keys n values k h v =
    let a = length-rows 8 (take 4 keys) in
    let b = length-take-le 4 keys k in
    let c = length-rows 8 (take n values) in
    let d = length-take-le n values v in
    simp length-append (omega (arith, a, b, c, d, length-count n h))

-- the entries of the map, where keys and values fit the lengths
pub length-advice : (keys lengths values : List ℕ) → Below (2 ^ 64) lengths → length keys ≡ 4 * length lengths → length values ≡ sum lengths
    → length (advice_bytes keys lengths values) ≡ 8 * length keys + sum (map shortest_len lengths) + 8 * length values
unfolding advice_bytes
length-advice keys [] values b k v = omega arith
length-advice keys (n ∷ ns) values b k v =
    let entry = length-entry keys n values (omega arith) b.0 (omega arith) in
    let rest = length-advice (drop 4 keys) ns (drop n values) b.1 (length-drop 4 keys ∙ omega arith) (length-drop n values ∙ omega arith) in
    length-append (entry_bytes keys n values) (advice_bytes (drop 4 keys) ns (drop n values))
    ∙ omega (arith, entry, rest, length-drop 4 keys, length-drop n values)

-- the entries of the first i lengths are written, up to `at`; what is left are the other keys' values
pub record Upto (keys lengths values : List ℕ) (size i at : ℕ) (left part : List ℕ) : Type 0 where
  pub full : size ≡ length (advice_bytes keys lengths values)
  pub done : take at part ++ advice_bytes (drop (4 * i) keys) (drop i lengths) left ≡ advice_bytes keys lengths values
  pub room : at + length (advice_bytes (drop (4 * i) keys) (drop i lengths) left) ≡ length (advice_bytes keys lengths values)
  pub valued : length left ≡ sum (drop i lengths)

pub entries_begin : (keys lengths values part : List ℕ) → Below (2 ^ 64) lengths → length keys ≡ 4 * length lengths → length values ≡ sum lengths
    → length part ≡ 8 * length keys + sum (map shortest_len lengths) + 8 * length values → Upto keys lengths values (length part) 0 0 values part
entries_begin keys lengths values part b k v e = record { full = e ∙ sym (length-advice keys lengths values b k v); done = refl; room = omega arith; valued = v }

module _ {keys lengths values left part : List ℕ} {size i at : ℕ} (u : Upto keys lengths values size i at left part) (same : length part ≡ size) where
  module _ (h : i < length lengths) (word : get_or lengths i 0 < 2 ^ 64) (four : length keys ≡ 4 * length lengths) where
    abbrev n : ℕ
    n = get_or lengths i 0

    first : drop i lengths ≡ n ∷ drop (i + 1) lengths
    first = rw add-one (drop-cons lengths i 0 h)

    pub values_there : n ≤ length left
    values_there = let e = ap sum first in omega (arith, u.valued)

    abbrev entry : List ℕ
    entry = entry_bytes (drop (4 * i) keys) n left

    entry_long : length entry ≡ entry_size n
    entry_long = length-entry (drop (4 * i) keys) n left (rw length-drop (omega arith)) word values_there

    abbrev rest : List ℕ
    rest = advice_bytes (drop (4 * (i + 1)) keys) (drop (i + 1) lengths) (drop n left)

    others : advice_bytes (drop (4 * i) keys) (drop i lengths) left ≡ entry ++ rest
    unfolding advice_bytes
    others =
        let four_more : 4 * (i + 1) ≡ 4 * i + 4 = omega arith in
        rw (first, drop-drop) (ap (λ m. entry ++ advice_bytes (drop m keys) (drop (i + 1) lengths) (drop n left)) (sym four_more))

    lengths_left : at + entry_size n + length rest ≡ length (advice_bytes keys lengths values)
    lengths_left = let parts = ap length others ∙ length-append entry rest in omega (arith, parts, entry_long, u.room)

    pub entry_room : at + entry_size n ≤ length part
    entry_room = omega (arith, lengths_left, u.full)

    -- its entry went into its part
    pub entries_next : {long : ℕ} {key own row later : List ℕ} → long ≡ entry_size n → key ≡ take (4 * i + 4 - 4 * i) (drop (4 * i) keys) → own ≡ take n left → later ≡ drop n left
        → row ≡ rows 8 key ++ (count_bytes (length own) ++ rows 8 own) → Upto keys lengths values size (i + 1) (at + long) later (put_mid at (at + long - at) part row)
    entries_next {long} {key} {own} {row} {later} z k o l r =
        let count : length own ≡ n = ap length o ∙ length-take-le n left values_there in
        let mine : key ≡ take 4 (drop (4 * i) keys) = k ∙ ap (λ m. take m (drop (4 * i) keys)) (add-sub_cancel_left (4 * i) 4) in
        let whole : row ≡ entry = r ∙ rw (count, o, mine) in
        let wide : length row ≡ long = ap length whole ∙ entry_long ∙ sym z in
        record {
          full = u.full;
          done =
              ap (λ m. m ++ advice_bytes (drop (4 * (i + 1)) keys) (drop (i + 1) lengths) later) (take-put_mid at _ part row (at + long) (omega arith) (omega (arith, entry_room)))
              ∙ rw (l, whole) (append_assoc (take at part) entry rest ∙ ap (λ m. take at part ++ m) (sym others) ∙ u.done);
          room = rw l (omega (arith, lengths_left));
          valued = rw l (length-drop n left ∙ (let e = ap sum first in omega (arith, u.valued)));
        }

  -- every entry is written, and the part ends with the last
  pub entries_ended : length lengths ≤ i → part ≡ advice_bytes keys lengths values
  unfolding advice_bytes
  entries_ended e =
      let none : drop i lengths ≡ [] = drop_of_length-le lengths e in
      let whole : at ≡ length part = omega (arith, rw none at u.room, u.full) in
      sym (take_all at part (omega arith)) ∙ sym (append-nil (take at part)) ∙ rw none at u.done
