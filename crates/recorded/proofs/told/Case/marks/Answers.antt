-- Each byte is that of the given number.
use Rattle.std.proofs.Common.{rules, slice_index, ◌%◌}
use Rattle.recorded.specs.Calls.{marks_given}
use Rattle.recorded.proofs.Copies.{made}
use Rattle.recorded.proofs.told.Case.marks.Goals as goal

pub returns : goal.returns
unfolding marks_given
returns c =
    made _ (λ i. slice_index c.args.self.now.given.now i % 256) _ (λ i y q k. search rules) _ _ c.from_fn.ensures.items
