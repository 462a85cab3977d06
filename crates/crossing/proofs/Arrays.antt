-- A layout and a bound are again what they were once they have crossed. Assumes nothing.
use mathlib.Core.Path.{◌≡◌, refl}
use Prim.Native.Nat.{ℕ}
use lib.ListN.{take, get_or}
use Rattle.std.specs.Prelude.{Option, Some, None}
use Rattle.wire.specs.declared.units.ByteOffset.{ByteOffset}
use Rattle.layout.specs.Scan.{Scanned}
use Rattle.layout.specs.declared.forest.ForestLayout.{ForestLayout}
use Rattle.crossing.specs.Arrays.{optional_of, hashes_of, layout_of, bound_of, hash_row, layout_row, scanned_row, bound_row}

hashes_back : (h : Option ByteOffset) → hashes_of (get_or (hash_row h) 0 0) (get_or (hash_row h) 1 0) ≡ h
unfolding optional_of
hashes_back (Some at) = refl
hashes_back None = refl

pub layout_back : (l : ForestLayout) → layout_of (layout_row l) ≡ l
unfolding layout_of
layout_back l = rw (hashes_back l.node_hash_offset)

-- of a scan's answer the first twelve are the layout
pub scanned_back : (x : Scanned) → layout_of (take 12 (scanned_row x)) ≡ x.layout
unfolding layout_of
scanned_back x = rw (hashes_back x.layout.node_hash_offset)

pub bound_back : (b : Option ℕ) → bound_of (bound_row b) ≡ b
unfolding optional_of
bound_back None = refl
bound_back (Some n) = refl
