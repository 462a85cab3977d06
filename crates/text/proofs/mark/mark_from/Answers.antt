-- What is before the first mark is as long as the place that `position` finds, or as the rest.
use Rattle.std.proofs.Common.{◌≡◌, eqb, drop, arith, rules}
use Rattle.std.proofs.lemmas.Grind.{common_steps}
use Rattle.std.proofs.lemmas.Iterator.{YieldsList-from_slice}
use Rattle.std.proofs.lemmas.Iterator.Search.{position_from_yields_List}
use borrow.Author.Tests.{tests}
use Rattle.text.proofs.Marks.{found_place, before_past}
use Rattle.text.proofs.mark.mark_from.Goals as goal

pub returns-in_default : goal.returns-in_default
returns-in_default c = grind (arith, common_steps, before_past)

pub returns : goal.returns
returns c =
    let a = c.args in
    let rest = c.in-Some.rest.now in
    let found = position_from_yields_List (λ b. eqb b a.mark) _ _ c.position.result c.position.ensures.ran (YieldsList-from_slice rest cc) (λ x b q k. search (rules, tests)) in
    let e : rest ≡ drop a.from a.l.now = grind (arith, common_steps) in
    rw (c.unwrap_or-before.ensures, found_place a.mark rest _ found, e)
