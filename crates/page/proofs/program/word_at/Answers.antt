-- The piece at a place, cut at zeros.
use Rattle.std.proofs.Common.{eqb, rules, refl}
use Rattle.std.proofs.lemmas.Iterator.Consumers.{nth_from_yields_List}
use Rattle.std.proofs.lemmas.Iterator.Splits.{YieldsList-from_slice_split}
use borrow.Author.Tests.{tests}
use Rattle.page.proofs.ProgramLaws.{piece_said}
use Rattle.page.proofs.program.word_at.Goals as goal

pub returns : goal.returns
returns c =
    let words = c.args.words.now in
    let s = c.split.ensures in
    let found = nth_from_yields_List c.nth.result c.nth.new.self c.args.k c.nth.ensures.ran (YieldsList-from_slice_split _ (λ b. eqb b 0) words s.rest s.done s.closure (λ x b q k. search (rules, tests))) in
    rw c.unwrap_or.ensures (piece_said c.args.k words c.nth.result _ refl found)
