-- `position` finds the first mark.
use Rattle.std.proofs.Common.{eqb, rules, sym, ◌∙◌}
use Rattle.std.proofs.lemmas.Iterator.{YieldsList-from_slice}
use Rattle.std.proofs.lemmas.Iterator.Search.{position_from_yields_List}
use borrow.Author.Tests.{tests}
use Rattle.recorded.proofs.Texts.{splits_at, no_mark}
use Rattle.recorded.proofs.reading.split_once.Goals as goal

pub returns : goal.returns
returns c =
    let a = c.args in
    let found = position_from_yields_List (λ b. eqb b a.mark) _ _ c.position.result c.position.ensures.ran (YieldsList-from_slice a.l.now cc) (λ x b q k. search (rules, tests)) in
    record { none = tt; some = splits_at a.mark a.l.now c.in_ok-end.end (sym found ∙ c.in_ok-end.was) }

pub returns-in_err-end : goal.returns-in_err-end
returns-in_err-end c =
    let a = c.args in
    let found = position_from_yields_List (λ b. eqb b a.mark) _ _ c.position.result c.position.ensures.ran (YieldsList-from_slice a.l.now cc) (λ x b q k. search (rules, tests)) in
    rw c.from_residual.ensures (record { none = no_mark a.mark a.l.now (sym found ∙ c.in_err-end.was); some = tt })
