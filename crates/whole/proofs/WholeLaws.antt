-- The whole answer, exactly.
--     whole_accepts   it accepts exactly if scan and walk do, with what they give
-- Assumes nothing.
use mathlib.Core.Path.{◌≡◌}
use mathlib.Core.Logic.{◌↔◌}
use mathlib.Core.Bool.{Bool}
use mathlib.Core.List.{List}
use Prim.Native.Nat.{ℕ}
use Rattle.std.specs.Prelude.{Option}
use Rattle.wire.specs.Table.{accepted, ◌>>=◌}
use Rattle.wire.proofs.Stages.{both_taken}
use Rattle.layout.specs.Scan.{Scanned, scan_outcome}
use Rattle.layout.specs.declared.facts.FormatFacts.{FormatFacts}
use Rattle.advice.specs.Walk.{Walked, walk_outcome}
use Rattle.whole.specs.Whole.{Sheet, sheet_of, map_outcome, whole_outcome}

module _ (f : FormatFacts) (allow : Bool) (bound : Option ℕ) (places : ℕ) (s : List ℕ) where
  -- scan and walk accept, and what they give together is the sheet
  pub record BothAccept (a : Sheet) : Type 0 where
    pub scan : Scanned
    pub walk : Walked
    pub scanned : scan_outcome f s allow bound ≡ accepted scan
    pub walked : walk_outcome places s scan.layout.advice_map_offset.0 ≡ accepted walk
    pub together : sheet_of scan walk ≡ a

  pub whole_accepts : (a : Sheet) → (whole_outcome f allow bound places s ≡ accepted a) ↔ BothAccept a
  unfolding whole_outcome map_outcome ◌>>=◌
  whole_accepts a = (there, back)
    where
      there : whole_outcome f allow bound places s ≡ accepted a → BothAccept a
      there e =
          let b = both_taken (scan_outcome f s allow bound) (map_outcome places s) a e in
          let w = both_taken (walk_outcome places s b.0.layout.advice_map_offset.0) (λ w. accepted (sheet_of b.0 w)) a b.2 in
          record { scan = b.0; walk = w.0; scanned = b.1; walked = w.1; together = cc }

      back : BothAccept a → whole_outcome f allow bound places s ≡ accepted a
      back h = rw (h.scanned, h.walked, h.together)
