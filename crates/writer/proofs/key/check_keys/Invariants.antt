-- `writer::key::check_keys` meets its contract. The invariant: the highest key so far is at `top`, and what is left of the rules gives the answer.
-- Assumes nothing.
use Rattle.std.proofs.Common.{◌≡◌, ◌≤◌, []}
use Rattle.wire.specs.Table.{checked}
use Rattle.writer.specs.Writer.{key_rules}
use Rattle.writer.specs.Inner.{Top}
use Rattle.writer.proofs.Keys.{left}
use Rattle.writer.proofs.key.check_keys.Given as goal

abbrev pub invariant-loop-i : goal.invariant-loop-i
invariant-loop-i l = (l.top ≤ l.i) × Top l.keys l.i l.top × (left l.keys l.lengths l.i ≡ checked (key_rules 0 [] l.keys l.lengths))
