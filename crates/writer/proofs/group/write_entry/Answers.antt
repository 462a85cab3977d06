-- `writer::group::write_entry` meets its contract: the numbers of the key and the values are their own. Assumes nothing.
use Rattle.std.proofs.Common.{rules}
use Rattle.std.proofs.lemmas.List.{map-id}
use Rattle.writer.proofs.group.write_entry.Goals as goal

pub returns : goal.returns
returns c =
    let key = simp map-id at (c.put_rows.ensures (λ x. x) (λ x r p. search rules)) in
    let values = simp map-id at (c.put_rows-2.ensures (λ x. x) (λ x r p. search rules)) in
    cc
