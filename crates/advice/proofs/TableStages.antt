-- The readers of the key table by place, taken apart as the code goes through them, stage by stage; and the number of places that are enough.
-- Assumes nothing.
use mathlib.Core.Path.{◌≡◌, refl, ap}
use mathlib.Core.Bool.{Bool, true, false}
use mathlib.Core.List.{List, [], ◌∷◌}
use Prim.Native.Nat.{ℕ, ◌+◌, ◌-◌, ◌/◌, ◌≤◌, ◌<◌, min}
use borrow.Author.Tests.{ltb-false, le-leb, lt-leb, leb-false}
use lib.ListN.{length, get_or}
use Rattle.wire.specs.Table.{Outcome, refused, accepted, pick, first_met, ◌>>=◌, At}
use Rattle.wire.specs.Refusals.{SHORT, INDEX}
use Rattle.wire.specs.Le.{is_short}
use Rattle.wire.specs.Counts.{counted, count_rule, count_outcome}
use Rattle.wire.specs.Words.{four_at, word_rules, word_outcome}
use Rattle.wire.specs.declared.count.Count.{Count}
use Rattle.wire.proofs.Stages.{in_turn, in_the_end}
use Rattle.wire.proofs.Tables.{accepted_none}
use Rattle.advice.specs.Walk.{size, values_at}
use Rattle.advice.specs.Table.{offset_at, key_rules, key_outcome, map_entry_rules, map_entry_outcome, places_needed}
use Rattle.advice.specs.Inner.{values_rules, values_outcome}

module _ (s t : List ℕ) (index : ℕ) where
  -- ---- the key

  pub key_index : length t ≤ index → key_outcome s t index ≡ refused INDEX index
  unfolding key_outcome key_rules word_rules first_met
  key_index h = rw (le-leb (length t) index h)

  module _ (there : index < length t) where
    pub key_split : key_outcome s t index ≡ (word_outcome s (get_or t index 0) >>= (λ w. accepted w.value))
    unfolding key_outcome key_rules first_met word_outcome word_rules
    key_split =
        rw (lt-leb (length t) index there)
        (in_the_end (word_rules s (get_or t index 0)) (record { value = four_at s (get_or t index 0); next = get_or t index 0 + 32 }) (λ (w : At (List ℕ)). w.value))

  -- ---- where there is a key: its place is one of the table's, and its 32 bytes are in the file

  module _ (key : List ℕ) (said : key_outcome s t index ≡ accepted key) where
    pub key_there : index < length t
    unfolding key_outcome key_rules word_rules
    key_there = leb-false (length t) index (accepted_none (key_rules s t index) (four_at s (offset_at s t index)) key said).0.0

    pub key_inside : get_or t index 0 + 32 ≤ length s
    unfolding key_outcome key_rules word_rules
    key_inside = ltb-false (length s) (get_or t index 0 + 32) (accepted_none (key_rules s t index) (four_at s (offset_at s t index)) key said).0.1.0

  -- ---- the entry

  abbrev at : ℕ
  at = get_or t index 0

  pub entry_split : map_entry_outcome s t index ≡ (key_outcome s t index >>= (λ key. values_outcome s (at + 32) >>= (λ v. accepted (record { key = key; values = v.next; len = v.value }))))
  unfolding map_entry_outcome map_entry_rules key_outcome key_rules word_rules values_outcome values_rules
  entry_split =
      in_turn (key_rules s t index) (four_at s at) (λ _. values_rules s (at + 32)) (λ key. record { key = key; values = values_at s at; len = (size s at).value })
      (λ key. values_outcome s (at + 32) >>= (λ v. accepted (record { key = key; values = v.next; len = v.value })))
      (λ key. in_the_end (values_rules s (at + 32)) (record { value = (size s at).value; next = values_at s at }) (λ (v : At ℕ). record { key = key; values = v.next; len = v.value }))

-- ---- the number of places

module _ (s : List ℕ) (at : ℕ) where
  pub places_none : (n p : ℕ) → count_outcome s at ≡ refused n p → 0 ≡ places_needed s at
  unfolding places_needed count_outcome first_met
  places_none n p e = go (is_short s at (counted s at).len) e
    where
      go : (b : Bool) → pick {A = Outcome (At Count)} b (refused SHORT at) (accepted (record { value = counted s at; next = at + (counted s at).len })) ≡ refused n p
          → 0 ≡ pick b 0 (min (counted s at).value ((length s - (at + (counted s at).len)) / 33 + 1))
      go true e = refl
      go false e = cc

  module _ (c : Count) (next : ℕ) (said : count_outcome s at ≡ accepted (record { value = c; next = next })) where
    count_known : (is_short s at (counted s at).len ≡ false) × ((counted s at ≡ c) × (at + (counted s at).len ≡ next))
    unfolding count_outcome
    count_known =
        let k = accepted_none (count_rule s at ∷ []) (record { value = counted s at; next = at + (counted s at).len }) (record { value = c; next = next }) said in
        (k.0.0, (ap (λ (x : At Count). x.value) k.1, ap (λ (x : At Count). x.next) k.1))

    pub count_inside : next ≤ length s
    count_inside = let k = count_known in rw k.1.1 at (ltb-false (length s) (at + (counted s at).len) k.0)

    pub places_are : places_needed s at ≡ min c.value ((length s - next) / 33 + 1)
    unfolding places_needed
    places_are = let k = count_known in rw (k.0, k.1.1, k.1.0)
