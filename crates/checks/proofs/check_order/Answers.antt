-- `checks::check_order` meets its contract: the class of the last node is not answered.
-- Assumes nothing.
use Rattle.std.proofs.Common.{refl, rules}
use Rattle.std.proofs.lemmas.Result.{err_from_is_err_and}
use Rattle.wire.proofs.Answers.{answer_stops, answer_goes_on}
use Rattle.checks.specs.Checks.{order_outcome}
use Rattle.checks.proofs.CheckLaws.{order_law, order_judged, order_passed}
use Rattle.checks.proofs.check_order.Goals as goal

pub returns-in_err-each_node : goal.returns-in_err-each_node
unfolding order_outcome
returns-in_err-each_node c =
    let said = order_passed _ _ _ (c.each_node.ensures order_law (λ i before e r read k. order_judged i before e r (search rules))) in
    let p = err_from_is_err_and c.from_residual.result c.from_residual.ensures.1 in
    rw (p.1, p.2) (answer_stops _ _ _ _ _ said _ c.in_err-each_node.was)

pub returns : goal.returns
unfolding order_outcome
returns c =
    let said = order_passed _ _ _ (c.each_node.ensures order_law (λ i before e r read k. order_judged i before e r (search rules))) in
    answer_goes_on _ _ _ _ _ said _ _ c.in_ok-each_node.was refl
