-- `writer::parts::Parts::check` meets its contract: each `return` follows from what the stages before it said. Assumes nothing.
use Rattle.std.proofs.Common.{rules}
use Rattle.std.proofs.lemmas.Result.{err_from_is_err_and}
use Rattle.wire.specs.Table.{◌>>=◌}
use Rattle.writer.specs.Inner.{fit_outcome}
use Rattle.writer.proofs.Words.{words_pass}
use Rattle.writer.proofs.parts.Parts.check.Goals as goal

pub returns-in_err-externals : goal.returns-in_err-externals
unfolding fit_outcome ◌>>=◌
returns-in_err-externals c = rw (words_pass c.args.self.now.words.now) (search rules)

pub returns-in_err-check_lengths : goal.returns-in_err-check_lengths
unfolding fit_outcome ◌>>=◌
returns-in_err-check_lengths c =
    let p = err_from_is_err_and c.from_residual-in_err-check_lengths.result c.from_residual-in_err-check_lengths.ensures.1 in
    rw (p.1, p.2, ← c.in_ok-check_head.ensures, words_pass c.args.self.now.words.now, ← c.in_ok-externals.ensures, ← c.in_err-check_lengths.ensures)

pub returns-in_err-check_keys_claimed : goal.returns-in_err-check_keys_claimed
unfolding fit_outcome ◌>>=◌
returns-in_err-check_keys_claimed c =
    let p = err_from_is_err_and c.from_residual-in_err-check_keys_claimed.result c.from_residual-in_err-check_keys_claimed.ensures.1 in
    rw (p.1, p.2, ← c.in_ok-check_head.ensures, words_pass c.args.self.now.words.now, ← c.in_ok-externals.ensures, ← c.in_ok-check_lengths.ensures, ← c.in_err-check_keys_claimed.ensures)

pub returns : goal.returns
unfolding fit_outcome ◌>>=◌
returns c =
    rw (← c.in_ok-check_head.ensures, words_pass c.args.self.now.words.now, ← c.in_ok-externals.ensures, ← c.in_ok-check_lengths.ensures, ← c.in_ok-check_keys_claimed.ensures)

pub returns-in_err-check_head : goal.returns-in_err-check_head
unfolding fit_outcome ◌>>=◌
returns-in_err-check_head c = search rules
