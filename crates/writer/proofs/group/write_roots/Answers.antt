-- `writer::group::write_roots` meets its contract: each root is its own number. Assumes nothing.
use Rattle.std.proofs.Common.{rules}
use Rattle.std.proofs.lemmas.List.{map-id}
use Rattle.writer.proofs.group.write_roots.Goals as goal

pub returns : goal.returns
returns c =
    let roots = simp map-id at (c.put_rows.ensures (λ x. x) (λ x r p. search rules)) in
    cc
