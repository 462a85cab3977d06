-- The row is the two numbers, the answer's, and what the lent memory is in its width.
use Rattle.std.proofs.Common.{[], ◌∷◌, ◌∙◌, ap}
use Rattle.std.proofs.lemmas.Bool.Decides.{Decides-eqb}
use Rattle.std.proofs.lemmas.Slice.Eq.{strip_prefix_is}
use Rattle.std.proofs.lemmas.Option.{MatchOption-at_some}
use Rattle.recorded.proofs.told.Case.is_told.Goals as goal

pub returns : goal.returns
returns g c e =
    let k = c.args in
    let head = k.returned ∷ k.place ∷ [] in
    let first = MatchOption-at_some _ _ _ c.in-Some.is (strip_prefix_is Decides-eqb k.self.now.row.now head _ c.strip_prefix.ensures.cases) in
    let second = MatchOption-at_some _ _ _ c.in-Some-strip_prefix.is (strip_prefix_is Decides-eqb c.in-Some.rest.now k.answer.now _ c.strip_prefix-2.ensures.cases) in
    (_, c.is_same.ensures e, first ∙ ap (λ l. k.returned ∷ k.place ∷ l) second)
