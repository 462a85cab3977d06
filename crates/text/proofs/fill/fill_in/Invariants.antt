-- To store what is left of the text gives what the whole store gives.
use Rattle.std.proofs.Common.{◌≡◌, ◌+◌, length, drop}
use Rattle.std.proofs.lemmas.List.Edits.{sets}
use Rattle.text.specs.Text.{filled}
use Rattle.text.proofs.fill.fill_in.Given as goal

abbrev pub invariant-loop-b : goal.invariant-loop-b
invariant-loop-b l = record {
  whole : l.at + length (filled (drop l.b-index l.text) l.numbers.rest.now) ≡ length (filled l.text l.fn.numbers);
  same : sets l.out l.at (filled (drop l.b-index l.text) l.numbers.rest.now) ≡ sets l.fn.out 0 (filled l.text l.fn.numbers);
}
