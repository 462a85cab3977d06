-- `all` over the pairs says it of each.
use Rattle.std.proofs.Common.{rules}
use Rattle.std.proofs.lemmas.Iterator.{YieldsList-from_slice, YieldsList-from_zip, cases_from_all}
use Rattle.std.proofs.lemmas.Bool.Decides.{when_true}
use borrow.Author.Tests.{tests}
use Rattle.recorded.proofs.Copies.{all_zip_pairs}
use Rattle.recorded.proofs.told.is_same.Goals as goal

pub returns-then-l-wide : goal.returns-then-l-wide
returns-then-l-wide g c e =
    let l = c.args.l.now in
    let wide = c.args.wide.now in
    let h = cases_from_all c.all.new.self _ _ (λ p. g.T.Into.converts p.0 p.1) (λ p. Unit {0}) c.all.ensures.ran (YieldsList-from_zip (YieldsList-from_slice l cc) (YieldsList-from_slice wide cc)) (λ x q k. search (rules, tests)) (λ x q k. tt) in
    all_zip_pairs g.T.Into.converts l wide c.if-l-wide.true (when_true _ _ e h)
