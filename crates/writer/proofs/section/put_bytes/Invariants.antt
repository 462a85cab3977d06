-- `writer::section::put_bytes` meets its contract. The invariant: the first i bytes are written. Assumes nothing.
use mathlib.Core.Path.{◌≡◌}
use lib.ListN.{length, take}
use Rattle.writer.proofs.section.put_bytes.Given as goal

abbrev pub invariant-loop-i : goal.invariant-loop-i
invariant-loop-i l = (length l.part ≡ length l.bytes) × (take l.i l.part ≡ take l.i l.bytes)
