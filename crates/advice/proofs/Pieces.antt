-- The map as a piece: a count, and as many entries, each after the keys of those before it. The walk's table is this piece's rules, so an accepted
-- map is the form of its entries.
-- Assumes nothing.
use mathlib.Core.Path.{◌≡◌, refl}
use mathlib.Core.List.{List, [], ◌∷◌, map}
use Prim.Native.Nat.{ℕ, zero, suc, ◌*◌}
use lib.Dec.{leb}
use lib.ListN.{length}
use Rattle.wire.specs.Refusals.{OVERFLOW, ELEMENT, DUPLICATE, ROOM}
use Rattle.wire.specs.Words.{not_elements, four_at}
use Rattle.wire.specs.declared.count.Count.{Count}
use Rattle.wire.proofs.Piece.{Piece, then, both, tested, guarded}
use Rattle.wire.proofs.Leaves.{count, numbers, many}
use Rattle.keys.specs.Keys.{seen_key}
use Rattle.advice.specs.Walk.{next_entry, walk_rules, walk_end, Advice, walk_shown, entry_count, first_entry, map_rules}
use Rattle.wire.specs.Le.{over}

-- key, length, values
abbrev pub Entry : Type 0
Entry = List ℕ × (Count × List ℕ)

abbrev here : ℕ → ℕ
here at = at

abbrev pub key_piece : Piece (List ℕ)
key_piece = tested (numbers 8 4) here (λ k. (ELEMENT, not_elements k) ∷ []) (λ k. refl)

abbrev pub size_piece : Piece Count
size_piece = tested count here (λ c. (OVERFLOW, over (8 * c.value)) ∷ []) (λ c. refl)

-- an entry after some keys
abbrev pub entry_piece : ℕ → List (List ℕ) → Piece Entry
entry_piece places seen =
    guarded ((ROOM, leb places (length seen)) ∷ [])
    (tested (both key_piece (then size_piece (λ l. numbers 8 l.value) (λ a. refl))) here
    (λ v. (DUPLICATE, seen_key seen v.0) ∷ []) (λ v. refl))

abbrev pub entries_piece : ℕ → ℕ → List (List ℕ) → Piece (List Entry)
entries_piece places = many (entry_piece places) (λ seen v. v.0 ∷ seen) (λ seen v. refl)

abbrev pub map_piece : ℕ → Piece (Count × List Entry)
map_piece places = then count (λ m. entries_piece places m.value []) (λ a. refl)

module _ (places : ℕ) (s : List ℕ) where
  entries_rules : (at n : ℕ) (seen : List (List ℕ)) → walk_rules places s at n seen ≡ (entries_piece places n seen).rules s at
  unfolding walk_rules four_at
  entries_rules at zero seen = refl
  entries_rules at (suc n) seen = rw (entries_rules (next_entry s at) n (four_at s at ∷ seen))

  entries_end : (at n : ℕ) (seen : List (List ℕ)) → walk_end s at n ≡ (entries_piece places n seen).next s at
  unfolding walk_end four_at
  entries_end at zero seen = refl
  entries_end at (suc n) seen = entries_end (next_entry s at) n (four_at s at ∷ seen)

  -- whatever is taken of each entry
  entries_shown : {A : Type 0} (g : Advice → A) (at n : ℕ) (seen : List (List ℕ))
      → map g (walk_shown s at n) ≡ map (λ (e : Entry). g (record { key = e.0; size = e.1.0; values = e.1.1 })) ((entries_piece places n seen).value s at)
  unfolding walk_shown four_at
  entries_shown g at zero seen = refl
  entries_shown g at (suc n) seen = rw (entries_shown g (next_entry s at) n (four_at s at ∷ seen))

  module _ (at : ℕ) where
    pub map_rules_lem : map_rules s at places ≡ (map_piece places).rules s at
    unfolding map_rules
    map_rules_lem = rw entries_rules

    pub map_end : walk_end s (first_entry s at) (entry_count s at).value ≡ (map_piece places).next s at
    map_end = entries_end (first_entry s at) (entry_count s at).value []

    pub map_shown : {A : Type 0} (g : Advice → A)
        → map g (walk_shown s (first_entry s at) (entry_count s at).value)
        ≡ map (λ (e : Entry). g (record { key = e.0; size = e.1.0; values = e.1.1 })) ((map_piece places).value s at).1
    map_shown g = entries_shown g (first_entry s at) (entry_count s at).value []
