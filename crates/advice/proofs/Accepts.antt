-- The walk accepts exactly if no rule of its table is met, and refuses exactly with the first rule that is.
-- Assumes nothing.
use mathlib.Core.Path.{◌≡◌}
use mathlib.Core.List.{List}
use mathlib.Core.Logic.{◌↔◌}
use Prim.Native.Nat.{ℕ}
use Rattle.wire.specs.Table.{refused, accepted, NoneMet, FirstMet}
use Rattle.wire.proofs.Tables.{accepts_exactly, refuses_exactly}
use Rattle.advice.specs.Walk.{Walked, walked, map_rules, walk_outcome}

module _ (places : ℕ) (s : List ℕ) (at : ℕ) where
  pub walk_accepts : (w : Walked) → (walk_outcome places s at ≡ accepted w) ↔ (NoneMet (map_rules s at places) × (walked s at ≡ w))
  unfolding walk_outcome
  walk_accepts w = accepts_exactly (map_rules s at places) (walked s at) w

  pub walk_refuses : (n p : ℕ) → (walk_outcome places s at ≡ refused n p) ↔ FirstMet (map_rules s at places) n p
  unfolding walk_outcome
  walk_refuses n p = refuses_exactly (map_rules s at places) (walked s at) n p
