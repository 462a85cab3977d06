-- The walk's table, taken apart as the code goes through it: the stages of an entry, and the entries one after the other, with their
-- duplicates judged at the end.
-- Assumes nothing.
use mathlib.Core.Path.{◌≡◌, refl, sym, ap, ◌∙◌}
use mathlib.Core.Bool.{Bool, true, false, cond, ◌||◌}
use mathlib.Core.List.{List, [], ◌∷◌, ◌++◌, map, append_assoc}
use Prim.Native.Nat.{ℕ, zero, suc, ◌+◌, ◌-◌, ◌*◌, ◌^◌, ◌<◌, ◌≤◌}
use native.Mathlib.Nat.{zero-add, add-zero}
use native.Mathlib.Decide.{ℕ_discrete}
use native.Mathlib.Omega.{arith}
use borrow.Author.Tests.{le-leb, lt-leb, leb-false, lt-ltb, le-ltb, ltb-false}
use lib.ListN.{length, get_or, take, drop, set, replicate, length-map}
use lib.Seq.{drop-cons, set_at, take_at, drop_at}
use Rattle.std.specs.Prelude.{Option, Some, None, Result, Ok, Err, IfOk, OnOk}
use Rattle.std.specs.Result.{is_err}
use Rattle.wire.specs.Table.{Rule, rule, Outcome, refused, accepted, pick, first_met, NoneMet, ◌>>=◌, At}
use Rattle.wire.specs.Refusals.{SHORT, OVERFLOW, DUPLICATE, ROOM}
use Rattle.wire.specs.Le.{is_short}
use Rattle.wire.specs.Counts.{long_ones, count_length, counted, count_rule, count_outcome}
use Rattle.wire.specs.Words.{four_at, word_rules, word_outcome}
use Rattle.wire.specs.declared.count.Count.{Count}
use Rattle.wire.proofs.Stages.{in_turn, in_the_end}
use Rattle.wire.proofs.Tables.{accepted_none, none_accepted, none_parts}
use Rattle.wire.proofs.Words.{word_whole}
use Rattle.wire.proofs.Counts.{one_most}
use Rattle.keys.specs.Sorted.{sorted}
use Rattle.keys.specs.Keys.{same_key, seen_key, key_order, key_less}
use Rattle.advice.specs.Walk.{size, next_entry, advice_rules, walk_rules, walk_end, key_offsets, walk_shown, shown_sizes, Walked, first_entry, map_rules, walk_outcome, key_table}
use Rattle.keys.specs.Sort.{same_at, has_key, first_repeat, first_duplicate, least_repeat, Ascending}
use Rattle.advice.specs.Inner.{length_rules, length_outcome, values_rules, values_outcome, entry_rules, entry_end_outcome, long_after, entries_outcome, unless_repeat, FilledTo}
use Rattle.advice.specs.Shown.{shown_walk}
use Rattle.advice.specs.declared.walk.Filled.{Filled}
use Rattle.advice.specs.declared.walk.Walked.{Walked as MapWalk}
use Rattle.wire.specs.declared.refusal.Refused.{Refused}
use Rattle.wire.specs.declared.units.ByteOffset.{ByteOffset}
use Rattle.keys.proofs.Duplicates.{duplicate_found}

-- ---- segments of a table

module _ {A : Type 0} where
  pub past_none : (a b : List Rule) (v : A) → NoneMet a → first_met (a ++ b) v ≡ first_met b v
  unfolding first_met
  past_none [] b v h = refl
  past_none (r ∷ a) b v h = rw h.0 (past_none a b v h.1)

module _ {A B : Type 0} where
  pub first_stops : (a b : List Rule) (u : A) (v : B) (n p : ℕ) → first_met a u ≡ refused n p → first_met (a ++ b) v ≡ refused n p
  unfolding ◌>>=◌
  first_stops a b u v n p e = in_turn a u (λ _. b) (λ _. v) (λ _. first_met b v) (λ _. refl) ∙ ap (λ o. o >>= (λ _. first_met b v)) e

-- ---- the length at a place, and its values: the cases, for the code's proof

module _ (s : List ℕ) (at : ℕ) where
  -- the values of a length that was read
  module _ (c : Count) (from : ℕ) where
    abbrev read : At Count
    read = record { value = c; next = from }

    pub length_over : 2 ^ 64 - 1 < 8 * c.value → refused OVERFLOW at ≡ length_outcome s at read
    unfolding length_outcome first_met
    length_over h = rw (lt-ltb _ _ h)

    pub length_short : 8 * c.value ≤ 2 ^ 64 - 1 → is_short s from (8 * c.value) ≡ true → refused SHORT from ≡ length_outcome s at read
    unfolding length_outcome first_met
    length_short h e = rw (le-ltb _ _ h, e)

    pub length_whole : 8 * c.value ≤ 2 ^ 64 - 1 → is_short s from (8 * c.value) ≡ false
        → accepted (record { value = c.value; next = from }) ≡ length_outcome s at read
    unfolding length_outcome first_met
    length_whole h e = rw (le-ltb _ _ h, e)

    -- values that are accepted are all in the file
    pub length_inside : (n p : ℕ) → accepted (record { value = n; next = p }) ≡ length_outcome s at read → p + 8 * n ≤ length s
    unfolding length_outcome
    length_inside n p e =
        let u : At ℕ = record { value = c.value; next = from } in
        let w : At ℕ = record { value = n; next = p } in
        let h = accepted_none (length_rules s at read) u w (sym e) in
        let v : c.value ≡ n = ap (λ (x : At ℕ). x.value) h.1 in
        let k : from ≡ p = ap (λ (x : At ℕ). x.next) h.1 in
        rw (v, k) at (ltb-false (length s) (from + 8 * c.value) h.0.1.0)

  abbrev here : At Count
  here = record { value = counted s at; next = at + (counted s at).len }

  pub values_split : values_outcome s at ≡ (count_outcome s at >>= length_outcome s at)
  unfolding values_outcome values_rules count_outcome length_outcome
  values_split =
      in_turn (count_rule s at ∷ []) here (length_rules s at) (λ c. record { value = c.value.value; next = c.next }) (length_outcome s at) (λ c. refl)

  -- whether a length is the shortest, and the place after its values
  abbrev after_values : At Count → At ℕ → At Bool
  after_values c v = record { value = c.value.shortest; next = v.next + 8 * v.value }

  abbrev pub after_length : At Count → Outcome (At Bool)
  after_length c = length_outcome s at c >>= (λ v. accepted (after_values c v))

  end_split : first_met (values_rules s at) (record { value = (counted s at).shortest; next = at + (counted s at).len + 8 * (counted s at).value }) ≡ (count_outcome s at >>= after_length)
  unfolding values_rules count_outcome length_outcome
  end_split =
      in_turn (count_rule s at ∷ []) here (length_rules s at) (λ c. after_values c (record { value = c.value.value; next = c.next })) after_length
      (λ c. in_the_end (length_rules s at c) (record { value = c.value.value; next = c.next }) (after_values c))

  length_none : NoneMet (length_rules s at here) → length_outcome s at here ≡ accepted (record { value = (counted s at).value; next = at + (counted s at).len })
  unfolding length_outcome
  length_none none = none_accepted (length_rules s at here) (record { value = (counted s at).value; next = at + (counted s at).len }) none

  -- the same of the whole reader
  pub values_inside : (n p : ℕ) → accepted (record { value = n; next = p }) ≡ values_outcome s at → p + 8 * n ≤ length s
  unfolding values_outcome values_rules
  values_inside n p e =
      let h = accepted_none (values_rules s at) (record { value = (counted s at).value; next = at + (counted s at).len }) (record { value = n; next = p }) (sym e) in
      length_inside (counted s at) (at + (counted s at).len) n p (sym (length_none h.0.1 ∙ ap accepted h.1))

-- ---- an entry

pub entry_split : (s : List ℕ) (at : ℕ) → entry_end_outcome s at ≡ (word_outcome s at >>= (λ w. count_outcome s w.next >>= after_length s w.next))
unfolding entry_end_outcome entry_rules word_outcome
entry_split s at =
    in_turn (word_rules s at) (record { value = four_at s at; next = at + 32 }) (λ w. values_rules s w.next)
    (λ w. record { value = (counted s w.next).shortest; next = w.next + (counted s w.next).len + 8 * (counted s w.next).value })
    (λ w. count_outcome s w.next >>= after_length s w.next) (λ w. end_split s w.next)

-- ---- the entries, one after the other

module _ (s : List ℕ) where
  pub end_next : (at k : ℕ) → walk_end s at (suc k) ≡ next_entry s (walk_end s at k)
  unfolding walk_end
  end_next at zero = refl
  end_next at (suc k) = end_next (next_entry s at) k

  pub offsets_next : (at k : ℕ) → key_offsets s at (suc k) ≡ key_offsets s at k ++ (walk_end s at k ∷ [])
  unfolding key_offsets walk_end
  offsets_next at zero = refl
  offsets_next at (suc k) = ap (λ (l : List ℕ). at ∷ l) (offsets_next (next_entry s at) k)

  pub length_offsets : (at k : ℕ) → length (key_offsets s at k) ≡ k
  unfolding key_offsets
  length_offsets at zero = refl
  length_offsets at (suc k) = ap suc (length_offsets (next_entry s at) k)

  pub offset_at_lem : (at k i : ℕ) → i < k → get_or (key_offsets s at k) i 0 ≡ walk_end s at i
  unfolding key_offsets walk_end
  offset_at_lem at zero i h = absurd (omega arith)
  offset_at_lem at (suc k) zero h = refl
  offset_at_lem at (suc k) (suc i) h = offset_at_lem (next_entry s at) k i (omega arith)

  -- one more length: it is long or not
  pub long_next : (at k : ℕ) → long_ones (shown_sizes s at (suc k)) ≡ long_ones (shown_sizes s at k) + pick (size s (walk_end s at k)).shortest 0 1
  unfolding walk_shown walk_end long_ones
  long_next at zero = omega arith
  long_next at (suc k) = omega (arith, long_next (next_entry s at) k)

  -- so no more are long than there are
  pub long_few : (at k : ℕ) → long_ones (shown_sizes s at k) ≤ k
  unfolding walk_shown long_ones
  long_few at zero = omega arith
  long_few at (suc k) = omega (arith, long_few (next_entry s at) k, one_most (size s at).shortest)

  -- an entry takes at least 33 bytes
  pub entry_bytes_lem : (at : ℕ) → at + 33 ≤ next_entry s at
  unfolding counted count_length
  entry_bytes_lem at = omega arith

  end_above : (at k : ℕ) → at + k ≤ walk_end s at k
  unfolding walk_end
  end_above at zero = omega arith
  end_above at (suc k) = omega (arith, end_above (next_entry s at) k)

  -- offsets rise as they come
  pub offsets_ascend : (at k : ℕ) → Ascending (key_offsets s at k)
  unfolding key_offsets
  offsets_ascend at zero i j a b = absurd (omega arith)
  offsets_ascend at (suc k) zero zero a b = absurd (omega arith)
  offsets_ascend at (suc k) (suc i) zero a b = absurd (omega arith)
  offsets_ascend at (suc k) (suc i) (suc j) a b = offsets_ascend (next_entry s at) k i j (omega arith) (omega arith)
  offsets_ascend at (suc k) zero (suc j) a b =
      let l = length_offsets (next_entry s at) k in
      rw (offset_at_lem (next_entry s at) k j (omega arith)) (omega (arith, end_above (next_entry s at) j))

-- the table with one more offset
pub fill_next : (s : List ℕ) (at i : ℕ) (t₀ t : List ℕ) → i < length t₀ → t ≡ key_offsets s at i ++ drop i t₀
    → set t i (walk_end s at i) ≡ key_offsets s at (suc i) ++ drop (suc i) t₀
fill_next s at i t₀ t h e =
    rw (e, drop-cons t₀ i 0 h, set_at (key_offsets s at i) (get_or t₀ i 0) (drop (suc i) t₀) (walk_end s at i) i (length_offsets s at i), offsets_next s at i, append_assoc)

-- ---- the table of n entries, when the first k of them are whole: first a duplicate among those, then what is said of the others

-- the keys seen after k entries
unfoldable seen_after : List ℕ → ℕ → ℕ → List (List ℕ) → List (List ℕ)
seen_after s at zero seen = seen
seen_after s at (suc k) seen = seen_after s (next_entry s at) k (four_at s at ∷ seen)

length_seen : (s : List ℕ) (at k : ℕ) (seen : List (List ℕ)) → length (seen_after s at k seen) ≡ k + length seen
unfolding seen_after
length_seen s at zero seen = omega arith
length_seen s at (suc k) seen = omega (arith, length_seen s (next_entry s at) k (four_at s at ∷ seen))

-- keys that are all in the file, by their offsets
abbrev Whole : List ℕ → List ℕ → Type 0
Whole s [] = Unit {0}
Whole s (x ∷ xs) = (is_short s x 32 ≡ false) × Whole s xs

seen_has : (s : List ℕ) (offsets : List ℕ) (x : ℕ) → Whole s offsets → is_short s x 32 ≡ false → seen_key (map (four_at s) offsets) (four_at s x) ≡ has_key s offsets x
unfolding seen_key has_key same_at key_order same_key
seen_has s [] x w h = refl
seen_has s (y ∷ ys) x w h = rw (seen_has s ys x w.1 h, ← same) (go (same_at s y x) (has_key s ys x))
  where
    same : same_at s y x ≡ same_key (four_at s y) (four_at s x)
    same = rw (word_whole s y w.0, word_whole s x h)

    go : (a b : Bool) → (a || b) ≡ cond a true b
    go true b = refl
    go false b = refl

-- an entry after some keys: the table is used up, or the entry is refused, or only its DUPLICATE is left
module _ {A : Type 0} (places : ℕ) (s : List ℕ) (at n : ℕ) (seen : List (List ℕ)) (v : A) where
  room_here : places ≤ length seen → first_met (walk_rules places s at (suc n) seen) v ≡ refused ROOM at
  unfolding walk_rules first_met
  room_here h = rw (le-leb _ _ h)

  refused_here : length seen < places → (x p : ℕ) → entry_end_outcome s at ≡ refused x p → first_met (walk_rules places s at (suc n) seen) v ≡ refused x p
  unfolding walk_rules first_met entry_end_outcome entry_rules word_rules values_rules
  refused_here h x p e =
      rw (lt-leb _ _ h)
      (first_stops (entry_rules s at) (rule DUPLICATE at (seen_key seen (four_at s at)) ∷ walk_rules places s (next_entry s at) n (four_at s at ∷ seen)) _ v x p e)

  passed_here : length seen < places → NoneMet (entry_rules s at)
      → first_met (walk_rules places s at (suc n) seen) v
      ≡ pick (seen_key seen (four_at s at)) (refused DUPLICATE at) (first_met (walk_rules places s (next_entry s at) n (four_at s at ∷ seen)) v)
  unfolding walk_rules first_met entry_rules word_rules values_rules
  passed_here h none =
      rw (lt-leb _ _ h)
      (past_none (entry_rules s at) (rule DUPLICATE at (seen_key seen (four_at s at)) ∷ walk_rules places s (next_entry s at) n (four_at s at ∷ seen)) v none)

pub entry_whole_key : (s : List ℕ) (at : ℕ) → NoneMet (entry_rules s at) → is_short s at 32 ≡ false
unfolding entry_rules word_rules
entry_whole_key s at none = none.0

module _ {A : Type 0} (places : ℕ) (s : List ℕ) (m : ℕ) (v : A) where
  after_entries : (k at : ℕ) (offsets : List ℕ) → Whole s offsets → k + length offsets ≤ places
      → ((j : ℕ) → j < k → NoneMet (entry_rules s (walk_end s at j)))
      → first_met (walk_rules places s at (k + m) (map (four_at s) offsets)) v
      ≡ unless_repeat (first_repeat s offsets (key_offsets s at k)) (first_met (walk_rules places s (walk_end s at k) m (seen_after s at k (map (four_at s) offsets))) v)
  unfolding key_offsets walk_end first_repeat seen_after
  after_entries zero at offsets w h none = rw zero-add
  after_entries (suc k) at offsets w h none =
      let here = none 0 (omega arith) in
      let whole = entry_whole_key s at here in
      let l : length (map (four_at s) offsets) ≡ length offsets = length-map offsets (four_at s) in
      let n : suc k + m ≡ suc (k + m) = omega arith in
      rw n
      (passed_here places s at (k + m) (map (four_at s) offsets) v (omega arith) here
      ∙ rw (
        seen_has s offsets at w whole,
        after_entries k (next_entry s at) (at ∷ offsets) (whole, w) (omega arith) (λ j b. none (suc j) (omega arith)),
      ) (go (has_key s offsets at)))
    where
      rest : Outcome A
      rest = first_met (walk_rules places s (walk_end s (next_entry s at) k) m (seen_after s (next_entry s at) k (four_at s at ∷ map (four_at s) offsets))) v

      go : (b : Bool) →
          pick b (refused DUPLICATE at) (unless_repeat (first_repeat s (at ∷ offsets) (key_offsets s (next_entry s at) k)) rest)
          ≡ unless_repeat (cond b (Some at) (first_repeat s (at ∷ offsets) (key_offsets s (next_entry s at) k))) rest
      go true = refl
      go false = refl

-- i entries are whole, and then the table is used up, or the next entry is refused, or there are no more
module _ (places : ℕ) (s : List ℕ) (at : ℕ) (c : Count) (i : ℕ) (room : i ≤ places) (none : (j : ℕ) → j < i → NoneMet (entry_rules s (walk_end s at j))) where
  abbrev First : Option ℕ
  First = first_duplicate s (key_offsets s at i)

  entries_left : (m : ℕ) → i + m ≡ c.value
      → entries_outcome places s at c
      ≡ unless_repeat First
      (first_met (walk_rules places s (walk_end s at i) m (seen_after s at i []))
      (record { entries = c.value; end = walk_end s at c.value; long = long_after s at c c.value }))
  unfolding entries_outcome
  entries_left m e =
      let z : i + length {A = ℕ} [] ≤ places = omega arith in
      rw e at (after_entries {A = Walked} places s m (record { entries = i + m; end = walk_end s at (i + m); long = long_after s at c (i + m) }) i at [] tt z none)

  more : i < c.value → i + suc (c.value - suc i) ≡ c.value
  more h = omega arith

  pub stopped_room : i < c.value → places ≤ i → entries_outcome places s at c ≡ unless_repeat First (refused ROOM (walk_end s at i))
  stopped_room h l =
      let z : places ≤ length (seen_after s at i []) = omega (arith, length_seen s at i []) in
      entries_left (suc (c.value - suc i)) (more h) ∙ ap (unless_repeat First) (room_here places s (walk_end s at i) (c.value - suc i) (seen_after s at i []) _ z)

  pub stopped_entry : i < c.value → i < places → (x p : ℕ) → refused x p ≡ entry_end_outcome s (walk_end s at i) → entries_outcome places s at c ≡ unless_repeat First (refused x p)
  stopped_entry h l x p e =
      let z : length (seen_after s at i []) < places = omega (arith, length_seen s at i []) in
      entries_left (suc (c.value - suc i)) (more h) ∙ ap (unless_repeat First) (refused_here places s (walk_end s at i) (c.value - suc i) (seen_after s at i []) _ z x p (sym e))

  pub stopped_end : i ≡ c.value → entries_outcome places s at c ≡ unless_repeat First (accepted (record { entries = i; end = walk_end s at i; long = long_after s at c i }))
  unfolding walk_rules first_met
  stopped_end e =
      let z : i + 0 ≡ c.value = omega arith in
      rw e (rw e at (entries_left 0 z))

-- an entry that is accepted is whole
pub entry_taken : (s : List ℕ) (at : ℕ) (x : At Bool) → accepted x ≡ entry_end_outcome s at
    → NoneMet (entry_rules s at) × ((next_entry s at ≡ x.next) × ((size s at).shortest ≡ x.value))
unfolding entry_end_outcome
entry_taken s at x e =
    let h = accepted_none (entry_rules s at) (record { value = (size s at).shortest; next = next_entry s at }) x (sym e) in
    (h.0, (ap (λ (y : At Bool). y.next) h.1, ap (λ (y : At Bool). y.value) h.1))

-- ---- where no rule is met: every entry is whole, the table has room, and there is no duplicate

pub all_whole : (places : ℕ) (s : List ℕ) (at n : ℕ) (seen : List (List ℕ)) → NoneMet (walk_rules places s at n seen) → (j : ℕ) → j < n → NoneMet (entry_rules s (walk_end s at j))
unfolding walk_rules walk_end entry_rules word_rules values_rules
all_whole places s at zero seen none j h = absurd (omega arith)
all_whole places s at (suc n) seen none zero h =
    let a = (none_parts (advice_rules s at places seen) (walk_rules places s (next_entry s at) n (four_at s at ∷ seen)) none).0 in
    (a.1.0, (a.1.1.0, (a.1.1.1.0, (a.1.1.1.1.0, (a.1.1.1.1.1.0, tt)))))
all_whole places s at (suc n) seen none (suc j) h =
    all_whole places s (next_entry s at) n (four_at s at ∷ seen)
    (none_parts (advice_rules s at places seen) (walk_rules places s (next_entry s at) n (four_at s at ∷ seen)) none).1 j (omega arith)

all_room : (places : ℕ) (s : List ℕ) (at n : ℕ) (seen : List (List ℕ)) → NoneMet (walk_rules places s at n seen) → length seen ≤ places → n + length seen ≤ places
unfolding walk_rules
all_room places s at zero seen none h = omega arith
all_room places s at (suc n) seen none h =
    let k = none_parts (advice_rules s at places seen) (walk_rules places s (next_entry s at) n (four_at s at ∷ seen)) none in
    let l : length seen < places = leb-false places (length seen) k.0.0 in
    omega (arith, all_room places s (next_entry s at) n (four_at s at ∷ seen) k.1 (omega arith))

pub enough_room : (places : ℕ) (s : List ℕ) (at n : ℕ) → NoneMet (walk_rules places s at n []) → n ≤ places
enough_room places s at n none =
    let z : length {A = List ℕ} [] ≤ places = omega arith in
    omega (arith, all_room places s at n [] none z)

pub no_duplicate : (places : ℕ) (s : List ℕ) (at n : ℕ) → NoneMet (walk_rules places s at n []) → first_duplicate s (key_offsets s at n) ≡ None
unfolding walk_rules first_met
no_duplicate places s at n none =
    let room : n + length {A = ℕ} [] ≤ places = omega (arith, enough_room places s at n none) in
    let said : first_met (walk_rules places s at n []) tt ≡ unless_repeat (first_duplicate s (key_offsets s at n)) (accepted tt) =
    rw add-zero at (after_entries {A = Unit {0}} places s 0 tt n at [] tt room (all_whole places s at n [] none)) in
    go (first_duplicate s (key_offsets s at n)) (sym (none_accepted (walk_rules places s at n []) tt none) ∙ said)
  where
    go : (d : Option ℕ) → accepted (tt {0}) ≡ unless_repeat d (accepted (tt {0})) → d ≡ None
    go None e = refl
    go (Some x) e = cc

-- one more entry is whole
pub whole_next : (s : List ℕ) (at i : ℕ) → ((j : ℕ) → j < i → NoneMet (entry_rules s (walk_end s at j))) → NoneMet (entry_rules s (walk_end s at i))
    → (j : ℕ) → j < suc i → NoneMet (entry_rules s (walk_end s at j))
whole_next s at i none here j h = elim (ℕ_discrete j i) [ yes e ↦ rw e here | no d ↦ none j (omega arith) ]

-- ---- the walk: its count, then its entries

module _ (places : ℕ) (s : List ℕ) (at : ℕ) where
  abbrev pub after_count : At Count → Outcome Walked
  after_count c = entries_outcome places s c.next c.value

  pub walk_split : walk_outcome places s at ≡ (count_outcome s at >>= after_count)
  unfolding walk_outcome map_rules count_outcome entries_outcome
  walk_split =
      in_turn (count_rule s at ∷ []) (record { value = counted s at; next = at + (counted s at).len }) (λ c. walk_rules places s c.next c.value.value [])
      (λ c. record { entries = c.value.value; end = walk_end s c.next c.value.value; long = long_after s c.next c.value c.value.value }) after_count (λ c. refl)

-- ---- the end of the walk, over what `fill` left: duplicates first, then what stopped it

module _ (s : List ℕ) (next : ℕ) (c : Count) (t₀ t : List ℕ) (r : Filled) (f : FilledTo s next c t₀ t r) where
  filled_front : take r.n t ≡ key_offsets s next r.n
  filled_front = rw f.table (take_at (key_offsets s next r.n) (drop r.n t₀) r.n (length_offsets s next r.n))

  filled_rest : drop r.n t ≡ drop r.n t₀
  filled_rest = rw f.table (drop_at (key_offsets s next r.n) (drop r.n t₀) r.n (length_offsets s next r.n))

  pub told : (d : Option ℕ) → d ≡ least_repeat s (sorted (key_less s) (take r.n t)) → unless_repeat d (shown_walk r.walked) ≡ entries_outcome (length t₀) s next c
  told d said =
      let e : d ≡ first_duplicate s (key_offsets s next r.n) = said ∙ rw filled_front (duplicate_found s (key_offsets s next r.n) (offsets_ascend s next r.n)) in
      rw e (sym f.said)

  -- and the table, once it is sorted
  pub table_told : (at : ℕ) → accepted (record { value = c; next = next }) ≡ count_outcome s at → (u : List ℕ) → u ≡ sorted (key_less s) (take r.n t)
      → shown_walk r.walked ≡ walk_outcome (length t₀) s at → OnOk r.walked (u ++ drop r.n t ≡ key_table s at t₀)
  unfolding key_table count_outcome
  table_told at counts u q said = go r.walked said f.all
    where
      first : next ≡ first_entry s at
      first = sym (ap (λ (x : At Count). x.next) (accepted_none (count_rule s at ∷ []) (record { value = counted s at; next = at + (counted s at).len }) (record { value = c; next = next }) (sym counts)).1)

      go : (w : Result MapWalk (Refused ByteOffset)) → shown_walk w ≡ walk_outcome (length t₀) s at → IfOk w (λ x. x.entries ≡ r.n) → OnOk w (u ++ drop r.n t ≡ key_table s at t₀)
      go (Ok x) e same = rw (← e, q, filled_front, filled_rest, ← first, same)
      go (Err x) e same = tt

-- the table after a refusal
pub table_refused : (s : List ℕ) (at : ℕ) (t : List ℕ) (w : Result MapWalk (Refused ByteOffset)) → is_err w ≡ true → shown_walk w ≡ walk_outcome (length t) s at
    → replicate (length t) 0 ≡ key_table s at t
unfolding key_table
table_refused s at t (Ok w) e said = cc
table_refused s at t (Err w) e said = rw (← said)
