-- The places of a key table.
--     never_room      a walk with as many places as are needed, or more, never says ROOM
--     key_read, entry_read, entry_is    over the table that an accepted walk leaves, each of its places gives a key and an entry, which is one of the map
--     entry_placed    and each entry of the map has its place there
--     keys_rise       keys that are read there rise with their places
-- Assumes nothing.
use mathlib.Core.Path.{◌≡◌, refl, sym, ap, ◌∙◌}
use mathlib.Core.Bool.{Bool, true, false}
use mathlib.Core.List.{List, [], ◌∷◌, ◌++◌}
use mathlib.Core.Logic.{◌⊎◌, inl, inr}
use Prim.Native.Nat.{ℕ, zero, suc, ◌+◌, ◌-◌, ◌*◌, ◌/◌, ◌≤◌, ◌<◌, min}
use native.Mathlib.Decide.{dec_lt}
use native.Mathlib.Omega.{arith}
use borrow.Author.Tests.{ltb-false, lt-leb}
use lib.Dec.{leb}
use lib.ListN.{length, get_or}
use Rattle.wire.specs.Table.{Rule, rule, refused, accepted, pick, first_met, NoneMet}
use Rattle.wire.specs.Refusals.{DUPLICATE, ROOM}
use Rattle.wire.specs.Counts.{count_rule}
use Rattle.wire.specs.Words.{four_at, word_at, word_rules, word_order}
use Rattle.std.specs.declared.cmp.Ordering.TheVariants.{Less}
use Rattle.wire.proofs.Tables.{accepted_none, none_accepted}
use Rattle.wire.proofs.Words.{word_whole}
use Rattle.keys.specs.Keys.{seen_key}
use Rattle.advice.specs.Walk.{size, values_at, next_entry, walk_rules, Walked, walked, entry_count, first_entry, map_rules, walk_outcome, key_table, Risen, EntryOf}
use Rattle.advice.specs.Table.{offset_at, key_rules, key_outcome, map_entry_rules, map_entry_outcome, places_needed}
use Rattle.advice.specs.Inner.{entry_rules, values_rules}
use Rattle.advice.proofs.Entries.{entry_bytes_lem, all_whole}
use Rattle.advice.proofs.Risen.{rules_unmet, walk_risen, entry_of, place_of}

-- ---- a refusal by a number that some rules have not comes after them

abbrev Lacks : ℕ → List Rule → Type 0
Lacks n [] = Unit {0}
Lacks n (r ∷ rs) = (r.number ≡ n → ⊥) × Lacks n rs

module _ {A : Type 0} (v : A) (n p : ℕ) where
  after_others : (a b : List Rule) → Lacks n a → first_met (a ++ b) v ≡ refused n p → NoneMet a × (first_met b v ≡ refused n p)
  unfolding first_met
  after_others [] b o e = (tt, e)
  after_others (r ∷ a) b o e = go (λ k. after_others a b o.1 k) r.met refl e
    where
      go : (first_met (a ++ b) v ≡ refused n p → NoneMet a × (first_met b v ≡ refused n p)) → (m : Bool) → r.met ≡ m
          → pick m (refused r.number r.place) (first_met (a ++ b) v) ≡ refused n p → NoneMet (r ∷ a) × (first_met b v ≡ refused n p)
      go later true q e = absurd (o.0 (cc))
      go later false q e = let k = later e in ((q, k.0), k.1)

-- ---- enough places: as many as there are entries, or more than have room in the file

module _ {A : Type 0} (places : ℕ) (s : List ℕ) (v : A) (p : ℕ) where
  abbrev Enough : ℕ → ℕ → ℕ → Type 0
  Enough at n seen = (n + seen ≤ places) ⊎ ((seen < places) × (length s < at + 33 * (places - seen)))

  enough_some : (at n seen : ℕ) → Enough at (suc n) seen → seen < places
  enough_some at n seen (inl h) = omega arith
  enough_some at n seen (inr h) = h.0

  enough_next : (at next n seen : ℕ) → at + 33 ≤ next → next ≤ length s → Enough at (suc n) seen → Enough next n (suc seen)
  enough_next at next n seen a b (inl h) = inl (omega arith)
  enough_next at next n seen a b (inr h) =
      elim (dec_lt (suc seen) places) [
        | yes l ↦ inr (l, omega (arith, h.1))
        | no l ↦ absurd (omega (arith, h.0, h.1))
      ]

  entries_room : (at n : ℕ) (seen : List (List ℕ)) → Enough at n (length seen) → first_met (walk_rules places s at n seen) v ≡ refused ROOM p → ⊥
  unfolding walk_rules first_met entry_rules word_rules values_rules
  entries_room at zero seen h e = cc
  entries_room at (suc n) seen h e =
      let rest = walk_rules places s (next_entry s at) n (four_at s at ∷ seen) in
      let twice = rule DUPLICATE at (seen_key seen (four_at s at)) in
      let other : Lacks ROOM (entry_rules s at) = (λ q. omega arith, (λ q. omega arith, (λ q. omega arith, (λ q. omega arith, (λ q. omega arith, tt))))) in
      let once : Lacks ROOM (twice ∷ []) = (λ q. omega arith, tt) in
      let k = after_others v ROOM p (entry_rules s at) (twice ∷ rest) other (rw (lt-leb places (length seen) (enough_some at n (length seen) h)) at e) in
      let inside : next_entry s at ≤ length s = ltb-false (length s) (next_entry s at) k.0.1.1.1.1.0 in
      entries_room (next_entry s at) n (four_at s at ∷ seen) (enough_next at (next_entry s at) n (length seen) (entry_bytes_lem s at) inside h) (after_others v ROOM p (twice ∷ []) rest once k.1).1

-- the least of two numbers is enough for one of them
least_enough : (l first c places : ℕ) → first ≤ l → min c ((l - first) / 33 + 1) ≤ places → (c + 0 ≤ places) ⊎ ((0 < places) × (l < first + 33 * (places - 0)))
least_enough l first c places h e = elim (dec_lt places c) [ yes k ↦ inr (omega arith, omega arith) | no k ↦ inl (omega arith) ]

pub never_room : (places : ℕ) (s : List ℕ) (at p : ℕ) → places_needed s at ≤ places → walk_outcome places s at ≡ refused ROOM p → ⊥
unfolding walk_outcome map_rules places_needed
never_room places s at p h e =
    let other : Lacks ROOM (count_rule s at ∷ []) = (λ q. omega arith, tt) in
    let k = after_others (walked s at) ROOM p (count_rule s at ∷ []) (walk_rules places s (first_entry s at) (entry_count s at).value []) other e in
    let inside : first_entry s at ≤ length s = ltb-false (length s) (first_entry s at) k.0.0 in
    entries_room places s (walked s at) p (first_entry s at) (entry_count s at).value []
    (least_enough (length s) (first_entry s at) (entry_count s at).value places inside (rw k.0.0 at h)) k.1

-- ---- the table that an accepted walk leaves, by place

module _ (s : List ℕ) (at : ℕ) (t₀ : List ℕ) (w : Walked) (taken : walk_outcome (length t₀) s at ≡ accepted w) where
  abbrev left : List ℕ
  left = key_table s at t₀

  module _ (i : ℕ) (h : i < w.entries) where
    there : leb (length left) i ≡ false
    there = let l : i < length left = omega (arith, (walk_risen s at t₀ w taken).room) in lt-leb (length left) i l

    whole : NoneMet (entry_rules s (get_or left i 0))
    whole =
        let m = entry_of s at t₀ w taken i h in
        rw m.2 at (all_whole (length t₀) s (first_entry s at) w.entries [] (rules_unmet s at t₀ w taken) m.0 m.1)

    pub key_read : key_outcome s left i ≡ accepted (four_at s (get_or left i 0))
    unfolding key_outcome key_rules entry_rules word_rules
    key_read = none_accepted (key_rules s left i) (four_at s (get_or left i 0)) (there, (whole.0, (whole.1.0, tt)))

    pub entry_read : map_entry_outcome s left i ≡ accepted (record { key = four_at s (get_or left i 0); values = values_at s (get_or left i 0); len = (size s (get_or left i 0)).value })
    unfolding map_entry_outcome map_entry_rules key_rules entry_rules word_rules values_rules
    entry_read = none_accepted (map_entry_rules s left i) (record { key = four_at s (get_or left i 0); values = values_at s (get_or left i 0); len = (size s (get_or left i 0)).value }) (there, whole)

    pub entry_is : EntryOf s at w.entries (four_at s (get_or left i 0)) (values_at s (get_or left i 0)) (size s (get_or left i 0)).value
    entry_is =
        let m = entry_of s at t₀ w taken i h in
        record {
          number = m.0;
          below = m.1;
          has = ap (four_at s) m.2;
          values = ap (λ (x : ℕ). values_at s x) (sym m.2);
          many = ap (λ (x : ℕ). (size s x).value) (sym m.2);
        }

  pub entry_placed : (key : List ℕ) (from len : ℕ) → EntryOf s at w.entries key from len
      → (i : ℕ) × (i < w.entries) × (map_entry_outcome s left i ≡ accepted (record { key = key; values = from; len = len }))
  entry_placed key from len e =
      let p = place_of s at t₀ w taken e.number e.below in
      (p.0, p.1, rw (← e.has, e.values, e.many, ← p.2) (entry_read p.0 p.1))

-- ---- keys by place, over any table whose first n keys are whole and rise

pub key_said : (s t : List ℕ) (i : ℕ) (key : List ℕ) → key_outcome s t i ≡ accepted key → word_at s (get_or t i 0) ≡ key
unfolding key_outcome key_rules word_rules
key_said s t i key e =
    let k = accepted_none (key_rules s t i) (four_at s (offset_at s t i)) key e in
    word_whole s (get_or t i 0) k.0.1.0 ∙ k.1

pub keys_rise : (s t : List ℕ) (n : ℕ) → Risen s t n → (i j : ℕ) (a b : List ℕ) → i < j → j < n → key_outcome s t i ≡ accepted a → key_outcome s t j ≡ accepted b → word_order a b ≡ Less
keys_rise s t n r i j a b h k e f = rw (key_said s t i a e, key_said s t j b f) at (r.rise i j h k)
