-- As many words as zeros.
use Rattle.std.proofs.Common.{rules}
use Rattle.page.proofs.ProgramLaws.{word_count_is}
use Rattle.page.proofs.program.word_count.Goals as goal

pub returns : goal.returns
returns c = rw word_count_is (search rules)
