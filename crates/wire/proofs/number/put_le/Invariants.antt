-- `wire::number::put_le` meets its contract: to store what is left of the bytes, from a place on, gives what the whole store gives.
-- Assumes nothing.
use mathlib.Core.Path.{◌≡◌}
use Prim.Native.Nat.{◌-◌}
use lib.Seq.{sets}
use Rattle.wire.specs.Le.{le_bytes}
use Rattle.wire.proofs.number.put_le.Given as goal

abbrev pub invariant-loop-byte : goal.invariant-loop-byte
invariant-loop-byte l = sets l.byte-items l.byte-index (le_bytes (l.byte-index-end - l.byte-index) l.rest) ≡ sets l.initial.byte-items 0 (le_bytes l.byte-index-end l.x)
