-- The entry of a word meets its contract: what the word decodes to, told at its number.
-- Assumes nothing.
use Rattle.std.proofs.Common.{rules}
use Rattle.info.proofs.Cases.{decoded_told}
use Rattle.rows.proofs.WordsNodes.entry.Goals as goal

pub returns : goal.returns
returns c = decoded_told (λ p. p) c.args.i _ _ _ _ (λ e e' k. search rules) c.decode_entry.ensures c.map_err.ensures.cases
