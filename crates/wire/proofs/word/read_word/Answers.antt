-- `wire::word::read_word` meets its contract: of a place where the check accepts, the word.
-- Assumes nothing.
use Rattle.wire.proofs.Words.{read_whole}
use Rattle.wire.proofs.word.read_word.Goals as goal

pub returns : goal.returns
returns c =
    let a = c.args in
    rw c.word_at.ensures (read_whole a.s.now a.at.0 c.in_ok-next.next.at.0 c.in_ok-next.ensures)
