-- Scan and walk accept a file exactly if no rule of their tables is met; and then the walk ends where the file's map does.
-- Assumes nothing.
use mathlib.Core.Path.{◌≡◌, ap, ◌∙◌}
use mathlib.Core.List.{List}
use mathlib.Core.Bool.{true}
use Prim.Native.Nat.{ℕ}
use Rattle.std.specs.Prelude.{None}
use Rattle.wire.specs.Table.{NoneMet}
use Rattle.wire.proofs.Tables.{none_append, none_parts, accepted_none, none_accepted}
use Rattle.layout.specs.Scan.{Scanned, map_at, scan_rules, layout_shown, scan_shown, scan_outcome}
use Rattle.layout.specs.declared.facts.FormatFacts.{FormatFacts}
use Rattle.advice.specs.Walk.{Walked, walked, map_rules, walk_outcome}
use Rattle.renderings.specs.Rendering.{Ends, Taken, file_rules}

module _ (f : FormatFacts) (places : ℕ) (s : List ℕ) where
  abbrev at : ℕ
  at = map_at f s

  -- what is said of the file's map
  abbrev pub ends_at : Ends
  ends_at = record { entries = (walked s at).entries; end = (walked s at).end }

  pub none_taken : NoneMet (file_rules f places s) → Taken f places s ends_at
  unfolding scan_outcome walk_outcome
  none_taken ok =
      let n = none_parts (scan_rules f s true None) (map_rules s at places) ok in
      record {
        layout = layout_shown f s true None;
        scan_long = (scan_shown f s true None).long;
        walk_long = (walked s at).long;
        scanned = none_accepted (scan_rules f s true None) (scan_shown f s true None) n.0;
        walked = none_accepted (map_rules s at places) (walked s at) n.1;
      }

  module _ (w : Ends) (t : Taken f places s w) where
    abbrev scan : Scanned
    scan = record { layout = t.layout; long = t.scan_long }

    abbrev walk : Walked
    walk = record { entries = w.entries; end = w.end; long = t.walk_long }

    -- what scan and walk gave is what the file shows
    pub taken_shown : (NoneMet (scan_rules f s true None) × (scan_shown f s true None ≡ scan)) × (NoneMet (map_rules s at places) × (walked s at ≡ walk))
    unfolding scan_outcome walk_outcome
    taken_shown =
        let a = accepted_none (scan_rules f s true None) (scan_shown f s true None) scan t.scanned in
        let same = ap (λ (x : Scanned). walk_outcome places s x.layout.advice_map_offset.0) a.1 in
        (a, accepted_none (map_rules s at places) (walked s at) walk (same ∙ t.walked))

    pub taken_none : NoneMet (file_rules f places s) × (ends_at ≡ w)
    taken_none = (
      none_append (scan_rules f s true None) (map_rules s at places) taken_shown.0.0 taken_shown.1.0,
      ap (λ (x : Walked). record { entries = x.entries; end = x.end }) taken_shown.1.1,
    )
