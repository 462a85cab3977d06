-- What is counted, and what the rest of the text takes, is what the whole takes.
use Rattle.std.proofs.Common.{◌≡◌, ◌+◌, ◌*◌, ◌≤◌, length, drop}
use Rattle.text.specs.Text.{filled}
use Rattle.text.proofs.fill.filled_len.Given as goal

abbrev pub invariant-loop-b : goal.invariant-loop-b
invariant-loop-b l = record {
  small : l.len ≤ 20 * l.b-index;
  whole : l.len + length (filled (drop l.b-index l.text) l.numbers.rest.now) ≡ length (filled l.text l.fn.numbers);
}
