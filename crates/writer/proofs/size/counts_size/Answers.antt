-- `writer::size::counts_size` meets its contract: no count has more than 9 bytes, so the sum fits. Assumes nothing.
use Rattle.std.proofs.Common.{◌≡◌, ◌^◌, map, refl, sym, rules, arith, ◌∙◌}
use Rattle.std.specs.List.{sum as total}
use Rattle.std.proofs.iter.runs.Made.{chains}
use Rattle.std.proofs.lemmas.Iterator.{YieldsList-from_slice}
use Rattle.std.proofs.lemmas.Iterator.Adapters.{fits_from_length, at_most_from_yields_List}
use Rattle.std.proofs.lemmas.List.Recursion.{is_sum_by}
use Rattle.wire.specs.Counts.{shortest_len}
use Rattle.writer.specs.Writer.{sum}
use Rattle.writer.proofs.Counted.{short_most, all_below}
use Rattle.writer.proofs.size.counts_size.Goals as goal

pub sum-requires-clause-fits : goal.sum-requires-clause-fits
sum-requires-clause-fits c =
    fits_from_length _ _ (2 ^ 60) _ (at_most_from_yields_List (YieldsList-from_slice c.args.counts.now cc) (search rules)) c.map.ensures.closure (omega arith)
    (λ x r q k. let e : r ≡ shortest_len x.now = search rules in let m = short_most x.now in search rules)

pub returns-clause-numbered : goal.returns-clause-numbered
returns-clause-numbered c = all_below (2 ^ 64) c.args.counts.now (λ i. (c.type_inv.counts i).fits)

pub returns-clause-size : goal.returns-clause-size
returns-clause-size c =
    let summed : c.sum.result ≡ total (map shortest_len c.args.counts.now) = search (rules, chains) in
    summed ∙ sym (is_sum_by sum (λ x. x) refl (λ _ _. refl) (map shortest_len c.args.counts.now))
