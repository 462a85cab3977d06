-- `layout::scan::scan_layout` meets its contract: the table is the stages in a row (`split`), and each stage said what it found.
-- Assumes nothing.
use borrow.Author.Rules.{rules}
use Rattle.wire.specs.Table.{◌>>=◌}
use Rattle.layout.specs.Steps.{stages_outcome}
use Rattle.layout.proofs.Split.{split}
use Rattle.layout.proofs.scan.scan_layout.Goals as goal

pub returns-in_err-check_preamble-clause-result_value : goal.returns-in_err-check_preamble-clause-result_value
unfolding stages_outcome ◌>>=◌
returns-in_err-check_preamble-clause-result_value c = rw split (search rules)

pub returns-in_err-hashless-clause-result_value : goal.returns-in_err-hashless-clause-result_value
unfolding stages_outcome ◌>>=◌
returns-in_err-hashless-clause-result_value c = rw split (search rules)

pub returns-in_err-head-clause-result_value : goal.returns-in_err-head-clause-result_value
unfolding stages_outcome ◌>>=◌
returns-in_err-head-clause-result_value c = rw split (search rules)

pub returns-in_err-check_budgets-clause-result_value : goal.returns-in_err-check_budgets-clause-result_value
unfolding stages_outcome ◌>>=◌
returns-in_err-check_budgets-clause-result_value c = rw split (search rules)

pub returns-in_err-roots-clause-result_value : goal.returns-in_err-roots-clause-result_value
unfolding stages_outcome ◌>>=◌
returns-in_err-roots-clause-result_value c = rw split (search rules)

pub returns-in_err-blocks-clause-result_value : goal.returns-in_err-blocks-clause-result_value
unfolding stages_outcome ◌>>=◌
returns-in_err-blocks-clause-result_value c = rw split (search rules)

pub returns-in_err-check_entries-clause-result_value : goal.returns-in_err-check_entries-clause-result_value
unfolding stages_outcome ◌>>=◌
returns-in_err-check_entries-clause-result_value c = rw split (search rules)

pub returns-clause-result_value : goal.returns-clause-result_value
unfolding stages_outcome ◌>>=◌
returns-clause-result_value c = rw split (search rules)
