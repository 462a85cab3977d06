-- Over the table and the number of entries that the walk of the same bytes gave:
--     lookup_compares       no compared key is refused
--     absent_exactly        absent is said exactly if no entry of the map has the key
--     lookup_present        the key of an entry is met at that entry
-- Assumes nothing.
use mathlib.Core.Path.{◌≡◌, refl, sym, ap, ◌∙◌}
use mathlib.Core.Bool.{Bool, true, false, cond}
use mathlib.Core.List.{List, [], ◌∷◌, ◌++◌}
use mathlib.Core.Logic.{inl, inr, ⊎_elim, ◌↔◌}
use Prim.Native.Nat.{ℕ, zero, suc, ◌+◌, ◌-◌, ◌/◌, ◌<◌, ◌≤◌}
use native.Mathlib.Decide.{ℕ_discrete, dec_lt}
use native.Mathlib.Omega.{arith}
use borrow.Author.Tests.{ne_eqb, eq-eqb}
use lib.Dec.{ltb}
use lib.ListN.{length, get_or, drop, length-append, length-drop, get_or-append}
use Rattle.wire.specs.Table.{Outcome, refused, accepted, NoneMet, ◌>>=◌}
use Rattle.wire.specs.Le.{is_short}
use Rattle.wire.specs.Words.{four_at, word_at, word_order}
use Rattle.std.specs.declared.cmp.Ordering.{Ordering}
use Rattle.std.specs.declared.cmp.Ordering.TheVariants.{Less, Equal, Greater}
use Rattle.wire.proofs.Tables.{accepted_none}
use Rattle.wire.proofs.Words.{word_whole, order_above, order_same}
use Rattle.std.proofs.lemmas.Bool.{or_parts}
use Rattle.keys.specs.Sorted.{sorted}
use Rattle.std.specs.Ordering.{is_eq}
use Rattle.keys.specs.Keys.{same_key, seen_key, key_less}
use Rattle.keys.specs.Sort.{count, stall, same_at, earlier, least_repeat, Ascending, first_duplicate}
use Rattle.advice.specs.Walk.{size, values_at, next_entry, walk_rules, walk_end, key_offsets, walk_shown, shown_keys, Walked, walked, entry_count, first_entry, map_rules, walk_outcome, key_table, Risen}
use Rattle.advice.specs.Lookup.{Halved, met, missing, by_order, halving, found, absent, found_rules, found_outcome, lookup_outcome}
use Rattle.std.specs.Prelude.{Option, Some, None}
use Rattle.keys.proofs.Sorted.{Rising, rising_place, in_cons, least_in, least_all, one_same, count_sorted, length-sorted, rising_sorted}
use Rattle.keys.proofs.Keys.{Lt, Le, lt_irreflexive, lt_le, le_lt, le_key, same_in, stall_no, stall_yes, key_law}
use Rattle.keys.proofs.Duplicates.{duplicate_found}
use Rattle.advice.proofs.Entries.{length_offsets, offset_at_lem, offsets_ascend, entry_whole_key, all_whole, enough_room, no_duplicate}
use Rattle.advice.proofs.Halving.{middle, turn_cases, lookup_split, bind_taken}

-- ---- a sorted table with no duplicate: its keys rise, each below the next

earlier_some : (d : Option ℕ) (b : ℕ) → earlier d b ≡ None → ⊥
earlier_some None b e = cc
earlier_some (Some y) b e = go (ltb b y) e
  where
    go : (t : Bool) → cond t (Some b) (Some y) ≡ None → ⊥
    go true e = cc
    go false e = cc

none_rises : (s l : List ℕ) → Rising (key_less s) l → least_repeat s l ≡ None → Rising (stall s) l
unfolding least_repeat
none_rises s [] r n = tt
none_rises s (a ∷ []) r n = (tt, tt)
none_rises s (a ∷ (b ∷ l)) r n = go (same_at s a b) refl n (none_rises s (b ∷ l) r.1)
  where
    go : (t : Bool) → same_at s a b ≡ t → cond t (earlier (least_repeat s (b ∷ l)) b) (least_repeat s (b ∷ l)) ≡ None →
        (least_repeat s (b ∷ l) ≡ None → Rising (stall s) (b ∷ l)) → Rising (stall s) (a ∷ b ∷ l)
    go true e n f = absurd (earlier_some (least_repeat s (b ∷ l)) b n)
    go false e n f =
        let ab : Lt (word_at s a) (word_at s b) = ⊎_elim (λ h. h) (λ q. let same = same_in s a b q in cc) (le_key s a b r.0.0) in
        let w = f n in (
          least_all (stall s) a (b ∷ l)
              (λ y h. stall_yes s a y
              (⊎_elim (λ q. rw q ab) (λ m. lt_le (word_at s a) (word_at s b) (word_at s y) ab (inl (stall_no s b y (least_in (stall s) b y l w.0 m)))) (in_cons y b l h))),
          w,
        )

keys_rise : (s l : List ℕ) → Ascending l → first_duplicate s l ≡ None → (i j : ℕ) → i < j → j < length l →
    Lt (word_at s (get_or (sorted (key_less s) l) i 0)) (word_at s (get_or (sorted (key_less s) l) j 0))
keys_rise s l h e i j a b =
    let t : List ℕ = sorted (key_less s) l in
    let rise : Rising (stall s) t = none_rises s t (rising_sorted (key_law s) l) (duplicate_found s l h ∙ e) in
    stall_no s _ _ (rising_place (stall s) t rise i j a (rw length-sorted b))

-- ---- what stands in the sorted list stands in the list, and the other way

placed : (l : List ℕ) (k : ℕ) → k < length l → 0 < count (get_or l k 0) l
placed [] k h = absurd (omega arith)
placed (a ∷ l) zero h = omega (arith, one_same a)
placed (a ∷ l) (suc k) h = omega (arith, placed l k (omega arith))

place : (l : List ℕ) (x : ℕ) → 0 < count x l → (k : ℕ) × (k < length l) × (get_or l k 0 ≡ x)
place [] x h = absurd (omega arith)
place (a ∷ l) x h =
    ⊎_elim (λ e. (0, omega arith, sym e)) (λ t. let w = place l x t in (suc w.0, omega (arith, w.1), w.2)) (in_cons x a l h)

sorted_places : (less : ℕ → ℕ → Bool) (l : List ℕ) (k : ℕ) → k < length l → (m : ℕ) × (m < length l) × (get_or l m 0 ≡ get_or (sorted less l) k 0)
sorted_places less l k h = place l _ (rw (count_sorted less _ l) at (placed (sorted less l) k (rw length-sorted h)))

places_sorted : (less : ℕ → ℕ → Bool) (l : List ℕ) (k : ℕ) → k < length l → (m : ℕ) × (m < length l) × (get_or (sorted less l) m 0 ≡ get_or l k 0)
places_sorted less l k h =
    let w = place (sorted less l) (get_or l k 0) (rw count_sorted (placed l k h)) in
    (w.0, rw length-sorted at w.1, w.2)

-- ---- the halving over a table whose first n keys are whole and rise

module _ (s t key : List ℕ) (n : ℕ) (r : Risen s t n) where
  -- no compared key is refused
  pub none_short : (k low size c x p : ℕ) → low + size ≤ n → halving s t key k low size c ≡ refused x p → ⊥
  unfolding halving
  none_short zero low size c x p h e = cc
  none_short (suc k) low size c x p h e =
      elim (ℕ_discrete size 0) [
        | yes z ↦ let f = rw (eq-eqb size 0 z) at e in cc
        | no z ↦
            go (λ f. none_short k low (size / 2) (c + 1) x p (omega arith) f)
            (λ f. none_short k (low + size / 2 + 1) (size - size / 2 - 1) (c + 1) x p (omega arith) f)
            (word_order key (word_at s (middle s t key low size)))
            (rw (ne_eqb size 0 z, r.whole (low + size / 2) (omega arith)) at e)
      ]
    where
      go : (halving s t key k low (size / 2) (c + 1) ≡ refused x p → ⊥) → (halving s t key k (low + size / 2 + 1) (size - size / 2 - 1) (c + 1) ≡ refused x p → ⊥)
          → (o : Ordering) → by_order o (halving s t key k low (size / 2) (c + 1)) (accepted (met (middle s t key low size) (c + 1)))
          (halving s t key k (low + size / 2 + 1) (size - size / 2 - 1) (c + 1)) ≡ refused x p → ⊥
      go below above Less e = below e
      go below above Equal e = cc
      go below above Greater e = above e

  rise_le : (i j : ℕ) → i ≤ j → j < n → Le (word_at s (get_or t i 0)) (word_at s (get_or t j 0))
  rise_le i j h b = elim (ℕ_discrete i j) [ yes e ↦ rw e (inr refl) | no d ↦ inl (r.rise i j (omega arith) b) ]

  -- where it ends without a key, no key of the range is equal
  pub missing_none : (k low size c m : ℕ) → size ≤ k → low + size ≤ n → halving s t key k low size c ≡ accepted (missing m)
      → (i : ℕ) → low ≤ i → i < low + size → word_at s (get_or t i 0) ≡ key → ⊥
  missing_none zero low size c m g h e i a b q = omega arith
  missing_none (suc k) low size c m g h e i a b q =
      turn_cases s t key (λ h. ⊥) k low size c (missing m) e
      (λ z f. omega arith)
      (λ z w o f. cc)
      (λ z o f.
      elim (dec_lt i (low + size / 2)) [
        | yes l ↦ missing_none k low (size / 2) (c + 1) m (omega arith) (omega arith) f i a l q
        | no l ↦ lt_irreflexive key (lt_le key (word_at s (middle s t key low size)) key o (rw q at (rise_le (low + size / 2) i (omega arith) (omega arith))))
      ])
      (λ z o f.
      elim (dec_lt (low + size / 2) i) [
        | yes l ↦ missing_none k (low + size / 2 + 1) (size - size / 2 - 1) (c + 1) m (omega arith) (omega arith) f i (omega arith) (omega arith) q
        | no l ↦
            lt_irreflexive key
            (le_lt key (word_at s (middle s t key low size)) key (rw q at (rise_le i (low + size / 2) (omega arith) (omega arith))) ((order_above key (word_at s (middle s t key low size))).0 o))
      ])

  -- where it ends at a key, it is equal, and one of the table's
  pub met_there : (k low size c at m : ℕ) → low + size ≤ n → halving s t key k low size c ≡ accepted (met at m) → (i : ℕ) × (i < n) × (get_or t i 0 ≡ at) × (word_at s at ≡ key)
  unfolding halving
  met_there zero low size c at m h e = cc
  met_there (suc k) low size c at m h e =
      turn_cases s t key (λ h. (i : ℕ) × (i < n) × (get_or t i 0 ≡ at) × (word_at s at ≡ key)) k low size c (met at m) e
      (λ z f. cc)
      (λ z w o f.
      let a : middle s t key low size ≡ at = cc in
      (low + size / 2, omega arith, a, rw a at (sym ((order_same key (word_at s (middle s t key low size))).0 o))))
      (λ z o f. met_there k low (size / 2) (c + 1) at m (omega arith) f)
      (λ z o f. met_there k (low + size / 2 + 1) (size - size / 2 - 1) (c + 1) at m (omega arith) f)

-- ---- the keys of the map's entries

key_same : (a b : List ℕ) → a ≡ b → same_key a b ≡ true
unfolding same_key
key_same a b e = rw ((order_same a b).1 e)

key_other : (a b : List ℕ) → (a ≡ b → ⊥) → same_key a b ≡ false
unfolding same_key
key_other a b d = go (word_order a b) refl
  where
    go : (o : Ordering) → word_order a b ≡ o → is_eq o ≡ false
    go Less e = refl
    go Equal e = absurd (d ((order_same a b).0 e))
    go Greater e = refl

module _ (s key : List ℕ) where
  -- no entry has the key, by the list and by place
  lacks_out : (at n : ℕ) → seen_key (shown_keys s at n) key ≡ false → (i : ℕ) → i < n → four_at s (walk_end s at i) ≡ key → ⊥
  unfolding walk_shown walk_end seen_key
  lacks_out at zero e i h q = omega arith
  lacks_out at (suc n) e zero h q =
      let same = key_same (four_at s at) key q in
      let other = (or_parts (same_key (four_at s at) key) (seen_key (shown_keys s (next_entry s at) n) key) e).0 in cc
  lacks_out at (suc n) e (suc i) h q =
      lacks_out (next_entry s at) n (or_parts (same_key (four_at s at) key) (seen_key (shown_keys s (next_entry s at) n) key) e).1 i (omega arith) q

  lacks_in : (at n : ℕ) → ((i : ℕ) → i < n → four_at s (walk_end s at i) ≡ key → ⊥) → seen_key (shown_keys s at n) key ≡ false
  unfolding walk_shown walk_end seen_key
  lacks_in at zero f = refl
  lacks_in at (suc n) f = rw (key_other (four_at s at) key (f 0 (omega arith))) (lacks_in (next_entry s at) n (λ i h. f (suc i) (omega arith)))

-- ---- what is said at a key is not absent, and where none is left it is

found_never : (s : List ℕ) (at m c : ℕ) → found_outcome s (met at m) ≡ accepted (absent c) → ⊥
unfolding found_outcome
found_never s at m c e = let k = (accepted_none (found_rules s at) (found (values_at s at) (size s at).value m) (absent c) e).1 in cc

absent_said : (s : List ℕ) (m : ℕ) (o : Outcome Halved) → o ≡ accepted (missing m) → (o >>= found_outcome s) ≡ accepted (absent m)
unfolding ◌>>=◌ found_outcome
absent_said s m o e = rw e

-- ---- the table that an accepted walk leaves

module _ (s : List ℕ) (at : ℕ) (t₀ : List ℕ) (w : Walked) (taken : walk_outcome (length t₀) s at ≡ accepted w) where
  abbrev Offsets : List ℕ
  Offsets = key_offsets s (first_entry s at) w.entries

  pub rules_unmet : NoneMet (walk_rules (length t₀) s (first_entry s at) w.entries [])
  unfolding walk_outcome map_rules
  rules_unmet =
      let k = accepted_none (map_rules s at (length t₀)) (walked s at) w taken in
      let e : (entry_count s at).value ≡ w.entries = ap (λ (x : Walked). x.entries) k.1 in
      rw e at k.0.1

  pub table_left : key_table s at t₀ ≡ sorted (key_less s) Offsets ++ drop w.entries t₀
  unfolding key_table
  table_left = rw taken

  whole_offset : (i : ℕ) → i < w.entries → is_short s (walk_end s (first_entry s at) i) 32 ≡ false
  whole_offset i h = entry_whole_key s _ (all_whole (length t₀) s (first_entry s at) w.entries [] rules_unmet i h)

  long : length Offsets ≡ w.entries
  long = length_offsets s (first_entry s at) w.entries

  -- the table by place: its keys are those of the entries, in another order
  table_at : (i : ℕ) → i < w.entries → get_or (key_table s at t₀) i 0 ≡ get_or (sorted (key_less s) Offsets) i 0
  table_at i h =
      let l : i < length (sorted (key_less s) Offsets) = rw length-sorted (omega (arith, long)) in
      rw table_left (get_or-append (sorted (key_less s) Offsets) (drop w.entries t₀) 0 i l)

  pub entry_of : (i : ℕ) → i < w.entries → (m : ℕ) × (m < w.entries) × (walk_end s (first_entry s at) m ≡ get_or (key_table s at t₀) i 0)
  entry_of i h =
      let p = sorted_places (key_less s) Offsets i (omega (arith, long)) in
      let l : p.0 < w.entries = omega (arith, long, p.1) in
      (p.0, l, sym (offset_at_lem s (first_entry s at) w.entries p.0 l) ∙ p.2 ∙ sym (table_at i h))

  pub place_of : (m : ℕ) → m < w.entries → (i : ℕ) × (i < w.entries) × (get_or (key_table s at t₀) i 0 ≡ walk_end s (first_entry s at) m)
  place_of m h =
      let p = places_sorted (key_less s) Offsets m (omega (arith, long)) in
      let l : p.0 < w.entries = omega (arith, long, p.1) in
      (p.0, l, table_at p.0 l ∙ p.2 ∙ offset_at_lem s (first_entry s at) w.entries m h)

  pub walk_risen : Risen s (key_table s at t₀) w.entries
  walk_risen =
      record {
        room = rw (table_left, length-append, length-sorted, long, length-drop) (omega (arith, enough_room (length t₀) s (first_entry s at) w.entries rules_unmet));
        whole = λ i h. let p = entry_of i h in rw p.2 at (whole_offset p.0 p.1);
        rise = λ i j a b.
            let ia : i < w.entries = omega arith in
            let jl : j < length Offsets = omega (arith, long) in
            rw (table_at i ia, table_at j b)
            (keys_rise s Offsets (offsets_ascend s (first_entry s at) w.entries) (no_duplicate (length t₀) s (first_entry s at) w.entries rules_unmet) i j a jl);
      }

  module _ (key : List ℕ) where
    abbrev Halves : Outcome Halved
    Halves = halving s (key_table s at t₀) key w.entries 0 w.entries 0

    -- no compared key is refused
    pub lookup_compares : (x p : ℕ) → Halves ≡ refused x p → ⊥
    lookup_compares x p e = none_short s (key_table s at t₀) key w.entries walk_risen w.entries 0 w.entries 0 x p (omega arith) e

    -- an equal key is an entry's
    pub lookup_meets : (at' m : ℕ) → Halves ≡ accepted (met at' m) → (i : ℕ) × (i < w.entries) × (walk_end s (first_entry s at) i ≡ at') × (four_at s at' ≡ key)
    lookup_meets at' m e =
        let p = met_there s (key_table s at t₀) key w.entries walk_risen w.entries 0 w.entries 0 at' m (omega arith) e in
        let q = entry_of p.0 p.1 in
        let a : walk_end s (first_entry s at) q.0 ≡ at' = q.2 ∙ p.2 in
        let h : is_short s at' 32 ≡ false = rw a at (whole_offset q.0 q.1) in
        (q.0, q.1, a, sym (word_whole s at' h) ∙ p.3)

    -- without one, no entry has the key
    missing_lacks : (m : ℕ) → Halves ≡ accepted (missing m) → (i : ℕ) → i < w.entries → four_at s (walk_end s (first_entry s at) i) ≡ key → ⊥
    missing_lacks m e i h q =
        let p = place_of i h in
        let f : word_at s (get_or (key_table s at t₀) p.0 0) ≡ key = rw p.2 (word_whole s _ (whole_offset i h) ∙ q) in
        missing_none s (key_table s at t₀) key w.entries walk_risen w.entries 0 w.entries 0 m (omega arith) (omega arith) e p.0 (omega arith) (omega (arith, p.1)) f

    -- two entries with the key are one
    one_entry : (i j : ℕ) → i < w.entries → j < w.entries → four_at s (walk_end s (first_entry s at) i) ≡ key → four_at s (walk_end s (first_entry s at) j) ≡ key
        → walk_end s (first_entry s at) i ≡ walk_end s (first_entry s at) j
    one_entry i j a b e f =
        let p = place_of i a in
        let q = place_of j b in
        let pk : word_at s (get_or (key_table s at t₀) p.0 0) ≡ key = rw p.2 (word_whole s _ (whole_offset i a) ∙ e) in
        let qk : word_at s (get_or (key_table s at t₀) q.0 0) ≡ key = rw q.2 (word_whole s _ (whole_offset j b) ∙ f) in
        elim (ℕ_discrete p.0 q.0) [
          | yes d ↦ sym p.2 ∙ ap (λ (k : ℕ). get_or (key_table s at t₀) k 0) d ∙ q.2
          | no d ↦
              elim (dec_lt p.0 q.0) [
                | yes l ↦ absurd (lt_irreflexive key (rw (pk, qk) at (walk_risen.rise p.0 q.0 l q.1)))
                | no l ↦ absurd (lt_irreflexive key (rw (qk, pk) at (walk_risen.rise q.0 p.0 (omega arith) p.1)))
              ]
        ]

    -- the key of an entry is met at that entry
    pub lookup_present : (i : ℕ) → i < w.entries → four_at s (walk_end s (first_entry s at) i) ≡ key → (c : ℕ) × (Halves ≡ accepted (met (walk_end s (first_entry s at) i) c))
    lookup_present i h e = go Halves refl
      where
        go : (o : Outcome Halved) → Halves ≡ o → (c : ℕ) × (Halves ≡ accepted (met (walk_end s (first_entry s at) i) c))
        go (refused x p) q = absurd (lookup_compares x p q)
        go (accepted (missing m)) q = absurd (missing_lacks m q i h e)
        go (accepted (met at' m)) q =
            let p = lookup_meets at' m q in
            let k : four_at s (walk_end s (first_entry s at) p.0) ≡ key = rw p.2 p.3 in
            (m, q ∙ ap (λ (x : ℕ). accepted (met x m)) (sym p.2 ∙ one_entry p.0 i p.1 h k e))

    -- absent is said exactly if no entry has the key
    pub absent_exactly : ((c : ℕ) × (lookup_outcome s (key_table s at t₀) w.entries key ≡ accepted (absent c))) ↔ (seen_key (shown_keys s (first_entry s at) w.entries) key ≡ false)
    absent_exactly = (λ a. said a.0 a.1, λ e. lacking e Halves refl)
      where
        split : lookup_outcome s (key_table s at t₀) w.entries key ≡ (Halves >>= found_outcome s)
        split = lookup_split s (key_table s at t₀) w.entries key walk_risen.room

        said : (c : ℕ) → lookup_outcome s (key_table s at t₀) w.entries key ≡ accepted (absent c) → seen_key (shown_keys s (first_entry s at) w.entries) key ≡ false
        said c e = let b = bind_taken Halves (found_outcome s) (absent c) (sym e ∙ split) in ended b.0 (sym b.1) (sym b.2)
          where
            ended : (h : Halved) → Halves ≡ accepted h → found_outcome s h ≡ accepted (absent c) → seen_key (shown_keys s (first_entry s at) w.entries) key ≡ false
            ended (missing m) e f = lacks_in s key (first_entry s at) w.entries (missing_lacks m e)
            ended (met at' m) e f = absurd (found_never s at' m c f)

        lacking : seen_key (shown_keys s (first_entry s at) w.entries) key ≡ false → (o : Outcome Halved) → Halves ≡ o → (c : ℕ) × (lookup_outcome s (key_table s at t₀) w.entries key ≡ accepted (absent c))
        lacking e (refused x p) q = absurd (lookup_compares x p q)
        lacking e (accepted (missing m)) q = (m, split ∙ absent_said s m Halves q)
        lacking e (accepted (met at' m)) q =
            let p = lookup_meets at' m q in
            absurd (lacks_out s key (first_entry s at) w.entries e p.0 p.1 (rw p.2 p.3))
