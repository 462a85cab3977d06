-- Over the table that an accepted walk leaves: what a lookup finds is an entry of the map, and the key of an entry is found there.
--     found_entry     found: an entry has the key, and the answer is the place and the number of its values
--     entry_found     the key of an entry: found at its values, or ELEMENT at the first of them that is none
-- Assumes nothing.
use mathlib.Core.Path.{◌≡◌, sym, ap, ◌∙◌}
use mathlib.Core.List.{List, []}
use Prim.Native.Nat.{ℕ, ◌+◌}
use lib.ListN.{length}
use Rattle.wire.specs.Table.{Outcome, accepted, first_met, ◌>>=◌}
use Rattle.wire.specs.Words.{word_rules}
use Rattle.wire.proofs.Tables.{accepted_none}
use Rattle.advice.specs.Inner.{entry_rules, values_rules}
use Rattle.advice.specs.Walk.{size, values_at, walk_end, Walked, first_entry, walk_outcome, key_table, EntryOf}
use Rattle.advice.specs.Lookup.{Halved, met, missing, halving, Looked, found, element_rules, found_rules, found_outcome, lookup_outcome}
use Rattle.advice.proofs.Entries.{past_none, all_whole}
use Rattle.advice.proofs.Halving.{bind_taken, lookup_split}
use Rattle.advice.proofs.Risen.{rules_unmet, walk_risen, lookup_meets, lookup_present}

module _ (s : List ℕ) (at : ℕ) (t₀ : List ℕ) (w : Walked) (walked : walk_outcome (length t₀) s at ≡ accepted w) (key : List ℕ) where
  abbrev answer : Outcome Looked
  answer = lookup_outcome s (key_table s at t₀) w.entries key

  -- the entry number i, by its key's place
  abbrev entry_at : ℕ → ℕ
  entry_at i = walk_end s (first_entry s at) i

  pub found_entry : (from len c : ℕ) → answer ≡ accepted (found from len c) → EntryOf s at w.entries key from len
  unfolding found_outcome
  found_entry from len c e =
      let b = bind_taken _ (found_outcome s) (found from len c) (sym e ∙ lookup_split s (key_table s at t₀) w.entries key (walk_risen s at t₀ w walked).room) in
      go b.0 (sym b.1) (sym b.2)
    where
      go : (h : Halved) → halving s (key_table s at t₀) key w.entries 0 w.entries 0 ≡ accepted h → found_outcome s h ≡ accepted (found from len c) → EntryOf s at w.entries key from len
      go (missing m) q r = cc
      go (met place m) q r =
          let p = lookup_meets s at t₀ w walked key place m q in
          let k = (accepted_none (found_rules s place) (found (values_at s place) (size s place).value m) (found from len c) r).1 in
          let there : values_at s place ≡ from = cc in
          let many : (size s place).value ≡ len = cc in
          record {
            number = p.0;
            below = p.1;
            has = rw p.2 p.3;
            values = rw p.2 (sym there);
            many = rw p.2 (sym many);
          }

  -- where an entry has the key, the values' own rules decide
  pub entry_found : (from len : ℕ) → EntryOf s at w.entries key from len → (c : ℕ) × (answer ≡ first_met (element_rules s from len) (found from len c))
  unfolding found_outcome found_rules entry_rules word_rules values_rules ◌>>=◌
  entry_found from len e =
      let i = e.number in
      let q = lookup_present s at t₀ w walked key i e.below e.has in
      let split : answer ≡ found_outcome s (met (entry_at i) q.0) = lookup_split s (key_table s at t₀) w.entries key (walk_risen s at t₀ w walked).room ∙ ap (λ (o : Outcome Halved). o >>= found_outcome s) q.1 in
      let whole = all_whole (length t₀) s (first_entry s at) w.entries [] (rules_unmet s at t₀ w walked) i e.below in
      let v = found (values_at s (entry_at i)) (size s (entry_at i)).value q.0 in
      rw (e.values, e.many) (q.0, split ∙ past_none (values_rules s (entry_at i + 32)) (element_rules s (values_at s (entry_at i)) (size s (entry_at i)).value) v whole.1.1)
