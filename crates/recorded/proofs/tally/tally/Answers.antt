-- After each line, what agreed so far and what is left of the text give no more than the whole.
use Rattle.std.proofs.Common.{◌<◌, [], ◌∷◌, length, ap, ◌∙◌, arith, rules}
use Rattle.std.proofs.lemmas.Bool.Decides.{Decides-eqb, nat_tests}
use Rattle.std.proofs.lemmas.List.Elements.{same_from_all_zip}
use Rattle.std.proofs.lemmas.Option.{MatchOption-at_some, MatchOption-at_none}
use Rattle.std.proofs.lemmas.Slice.Eq.{strip_prefix_is}
use Rattle.recorded.specs.Text.{numbers_in}
use Rattle.recorded.proofs.Lines.{file_line, case_line, file_tallied, case_tallied}
use Rattle.recorded.proofs.Texts.{past_shorter}
use Rattle.recorded.proofs.tally.tally.Goals as goal

pub loop-rest-smaller-in-Some : goal.loop-rest-smaller-in-Some
loop-rest-smaller-in-Some c =
    let some : 0 < length c.loop-rest.rest.now = grind (arith, nat_tests) in
    rw c.cut.ensures.back (past_shorter 10 c.loop-rest.rest.now some)

pub loop-rest-preserved-in-Some : goal.loop-rest-preserved-in-Some
loop-rest-preserved-in-Some c =
    let rest = c.loop-rest.rest.now in
    let h = c.loop-rest.invariant in
    let some : 0 < length rest = grind (arith, nat_tests) in
    let f = file_line c.cut.result.0.now c.in-Some.numbers.now (MatchOption-at_some _ _ _ c.in-Some.is (strip_prefix_is Decides-eqb c.cut.result.0.now (61 ∷ []) _ c.strip_prefix.ensures.cases)) in
    let bytes = same_from_all_zip _ _ _ c.in-Some-numbers_of.ensures.out_after (λ n x p. p.1) in
    let shorter = past_shorter 10 rest some in
    record {
      tallied = file_tallied _ _ rest _ _ _ _ h.tallied some c.cut.ensures.front c.cut.ensures.back f.0 _ _ c.in-Some-numbers_of.ensures.prefix_len.0 (bytes ∙ ap numbers_in f.1);
      agreed = rw c.cut.ensures.back (omega arith);
      lines = rw c.cut.ensures.back (omega arith);
    }

pub loop-rest-smaller : goal.loop-rest-smaller
loop-rest-smaller c =
    let some : 0 < length c.loop-rest.rest.now = grind (arith, nat_tests) in
    rw c.cut.ensures.back (past_shorter 10 c.loop-rest.rest.now some)

pub loop-rest-preserved : goal.loop-rest-preserved
loop-rest-preserved c =
    let rest = c.loop-rest.rest.now in
    let h = c.loop-rest.invariant in
    let some : 0 < length rest = grind (arith, nat_tests) in
    let f = case_line c.cut.result.0.now (MatchOption-at_none _ _ c.in_default.is (strip_prefix_is Decides-eqb c.cut.result.0.now (61 ∷ []) _ c.strip_prefix.ensures.cases)) in
    let shorter = past_shorter 10 rest some in
    record {
      tallied = case_tallied _ _ rest _ _ _ _ h.tallied some c.cut.ensures.front c.cut.ensures.back f (c.case_agrees.ensures (search rules));
      agreed = rw c.cut.ensures.back (omega arith);
      lines = rw c.cut.ensures.back (omega arith);
    }
