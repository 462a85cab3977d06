-- `vekalumist::entries::store_node` meets its contract: INDEX, what the row's word says, OVERFLOW, or SHORT.
-- Assumes nothing.
use Rattle.std.proofs.Common.{sym, ap, ◌∙◌, rules}
use Prim.Native.Nat.{ℕ}
use Rattle.crossing.specs.Arrays.{entry_row}
use Rattle.info.specs.Entry.{decode_outcome}
use Rattle.rows.proofs.RowLaws.{placed_over}
use Rattle.vekalumist.specs.Answers.{laid}
use Rattle.vekalumist.proofs.EntryLaws.{past_nodes, past_end, past_file, word_there, not_over}
use Rattle.vekalumist.proofs.entries.store_node.Goals as goal

pub returns-then-layout-index-clause-stored : goal.returns-then-layout-index-clause-stored
returns-then-layout-index-clause-stored c = sym (past_nodes _ _ _ c.if-layout-index.true)

pub returns-then-row_inside-clause-stored : goal.returns-then-row_inside-clause-stored
returns-then-row_inside-clause-stored c =
    let a = c.args in
    c.store_word.ensures.stored
    ∙ ap (λ (w : ℕ). laid entry_row (decode_outcome a.index w)) c.word_inside.ensures
    ∙ sym (word_there a.s.now a.layout.now a.index c.if-layout-index.false (search rules) (search rules))

pub returns-then-is_none-clause-stored : goal.returns-then-is_none-clause-stored
returns-then-is_none-clause-stored c =
    sym (past_end _ _ _ c.if-layout-index.false (placed_over _ 8 c.args.index (search rules)))

pub returns-clause-stored : goal.returns-clause-stored
returns-clause-stored c =
    sym (past_file _ _ _ c.if-layout-index.false (not_over _ c.args.index (search rules)) (search rules))
