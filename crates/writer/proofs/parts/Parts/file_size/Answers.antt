-- `writer::parts::Parts::file_size` meets its contract. Assumes nothing.
use Rattle.std.proofs.Common.{rules}
use Rattle.writer.proofs.parts.Parts.file_size.Goals as goal

pub returns-clause-numbered : goal.returns-clause-numbered
returns-clause-numbered c =
    record { roots = search rules; blocks = search rules; words = search rules; lengths = search rules; sizes = c.counts_size-2.ensures.numbered }
