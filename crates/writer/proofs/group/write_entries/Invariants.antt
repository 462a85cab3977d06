-- `writer::group::write_entries` meets its contract. The invariant: the entries of the first i lengths are written. Assumes nothing.
use lib.ListN.{length}
use Rattle.writer.proofs.Entries.{Upto}
use Rattle.writer.proofs.group.write_entries.Given as goal

abbrev pub invariant-loop-i : goal.invariant-loop-i
invariant-loop-i l = Upto l.keys l.lengths l.values (length l.initial.part) l.i l.at l.left l.part
