-- `crossing::scanned_row` meets its contract: the layout's row, and one number more. Assumes nothing.
use Rattle.crossing.proofs.scanned_row.Goals as goal

pub returns : goal.returns
returns c = rw c.layout_row-row.ensures
