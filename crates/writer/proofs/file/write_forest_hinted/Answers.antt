-- `writer::file::write_forest_hinted` meets its contract: the stages are the table, and a refusal leaves the output. Assumes nothing.
use Rattle.std.proofs.Common.{sym, rules}
use Rattle.std.proofs.lemmas.Result.{err_from_is_err_and}
use Rattle.writer.specs.Shown.{lent_parts}
use Rattle.writer.proofs.Sizes.{few}
use Rattle.writer.proofs.Split.{fitting, stopped, decided, as_it_was, overwritten}
use Rattle.writer.proofs.file.write_forest_hinted.Goals as goal

pub returns-in_err-externals-clause-result_value : goal.returns-in_err-externals-clause-result_value
returns-in_err-externals-clause-result_value c =
    let p = err_from_is_err_and c.from_residual.result c.from_residual.ensures.1 in
    rw (p.1, p.2) (stopped _ _ c.args.out.now c.in_err-externals.ensures)

pub returns-in_err-externals-clause-out_after : goal.returns-in_err-externals-clause-out_after
returns-in_err-externals-clause-out_after c = as_it_was _ _ _ (stopped _ _ c.args.out.now c.in_err-externals.ensures)

pub size_within-requires : goal.size_within-requires
size_within-requires c = few c.args.f _ _ (fitting c.args.f (lent_parts c.args.parts.now) _ (sym c.in_ok-externals.ensures))

pub returns-in_err-size-clause-result_value : goal.returns-in_err-size-clause-result_value
returns-in_err-size-clause-result_value c =
    let p = err_from_is_err_and c.from_residual-in_err-size.result c.from_residual-in_err-size.ensures.1 in
    rw (p.1, p.2)
    (decided _ _ c.args.out.now c.in_ok-externals.ensures (search rules) (search rules) c.size_within.ensures.numbered c.in_err-size.ensures.size)

pub returns-in_err-size-clause-out_after : goal.returns-in_err-size-clause-out_after
returns-in_err-size-clause-out_after c =
    as_it_was _ _ _
    (decided _ _ c.args.out.now c.in_ok-externals.ensures (search rules) (search rules) c.size_within.ensures.numbered c.in_err-size.ensures.size)

pub write_file-requires-clause-few : goal.write_file-requires-clause-few
write_file-requires-clause-few c = few c.args.f _ _ (fitting c.args.f (lent_parts c.args.parts.now) _ (sym c.in_ok-externals.ensures))

pub write_file-requires-clause-fitting : goal.write_file-requires-clause-fitting
write_file-requires-clause-fitting c = fitting c.args.f (lent_parts c.args.parts.now) _ (sym c.in_ok-externals.ensures)

pub returns-clause-result_value : goal.returns-clause-result_value
returns-clause-result_value c =
    decided _ _ c.args.out.now c.in_ok-externals.ensures (search rules) (search rules) c.size_within.ensures.numbered c.in_ok-size.ensures.size

pub returns-clause-out_after : goal.returns-clause-out_after
returns-clause-out_after c =
    overwritten _ _ _
    (decided _ _ c.args.out.now c.in_ok-externals.ensures (search rules) (search rules) c.size_within.ensures.numbered c.in_ok-size.ensures.size)
    c.write_file.ensures
