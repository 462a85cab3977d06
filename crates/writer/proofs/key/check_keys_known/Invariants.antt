-- `writer::key::check_keys_known` meets its contract. The invariant: what is left of the rules gives the answer, and no key so far is the first that
-- an earlier one is. Assumes nothing.
use Rattle.std.proofs.Common.{◌≡◌, ◌≤◌, []}
use Rattle.wire.specs.Table.{checked}
use Rattle.writer.specs.Writer.{key_rules}
use Rattle.writer.proofs.Keys.{left}
use Rattle.writer.proofs.key.check_keys_known.Given as goal

abbrev pub invariant-loop-i : goal.invariant-loop-i
invariant-loop-i l = (l.i ≤ l.twice) × (left l.keys l.lengths l.i ≡ checked (key_rules 0 [] l.keys l.lengths))
