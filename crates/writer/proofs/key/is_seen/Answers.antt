-- `writer::key::is_seen` meets its contract: the keys are those before number n, the last one first. Assumes nothing.
use Rattle.std.proofs.Common.{◌≡◌, eqb, rules, ◌∙◌}
use Rattle.std.specs.Cmp.Lexicographic.{pointwise}
use Rattle.std.proofs.lemmas.Iterator.Search.{any_from_yields_List}
use Rattle.keys.specs.Keys.{same_key}
use Rattle.keys.specs.Claim.{key_at}
use Rattle.writer.proofs.Keys.{keys_back, key_eq, seen_any}
use Rattle.writer.proofs.key.is_seen.Goals as goal

pub returns : goal.returns
returns c =
    any_from_yields_List (λ k. same_key k c.args.key) _ _ _ c.any.ensures.ran (keys_back c.args.keys.now c.args.n c.rev.ensures.source)
    (λ x b q k. (search rules, let e : b ≡ pointwise eqb (key_at c.args.keys.now x) c.args.key = search rules in e ∙ key_eq _ _))
    ∙ seen_any _ _
