-- `writer::key::not_elements` meets its contract. Assumes nothing.
use Rattle.std.proofs.Common.{not, ◌||◌, refl, ◌∙◌, rules, tests}
use Rattle.std.specs.List.{list_any}
use Rattle.std.proofs.lemmas.Iterator.{YieldsList-from_slice}
use Rattle.std.proofs.lemmas.Iterator.Search.{any_from_yields_List}
use Rattle.std.proofs.lemmas.List.Recursion.{same_from_clauses}
use Rattle.wire.specs.Words.{is_element, not_elements}
use Rattle.writer.proofs.key.not_elements.Goals as goal

pub returns : goal.returns
unfolding not_elements
returns c =
    any_from_yields_List (λ x. not (is_element x)) _ _ _ c.any.ensures.ran (YieldsList-from_slice c.args.key cc) (λ x b q k. search (rules, tests))
    ∙ same_from_clauses (list_any (λ x. not (is_element x))) not_elements (λ x t. not (is_element x) || t) refl (λ _ _. refl) (λ _ _. refl) c.args.key
