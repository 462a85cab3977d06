-- Whether the parts fit together: what a stage that passed tells. Assumes nothing.
use mathlib.Core.Path.{◌≡◌, refl, sym, ◌∙◌}
use mathlib.Core.List.{List}
use mathlib.Core.Bool.{Bool, true, false, not, ◌||◌}
use Prim.Native.Nat.{ℕ, ◌*◌, ◌^◌, ◌≤◌}
use native.Mathlib.Omega.{arith}
use lib.Count.{ones}
use lib.Dec.{ltb, eqb}
use lib.ListN.{length}
use borrow.Author.Tests.{ltb-false, eqb-true}
use Rattle.wire.specs.Table.{accepted, checked}
use Rattle.wire.proofs.Tables.{accepted_none}
use Rattle.rows.specs.Rows.{word_read, entry_pass}
use Rattle.layout.specs.Facts.{share, bad_format}
use Rattle.layout.specs.Scan.{words_rules, externals}
use Rattle.layout.specs.declared.facts.FormatFacts.{FormatFacts}
use Rattle.layout.proofs.Tests.{or_right}
use Rattle.writer.specs.Inner.{head_rules, part_rules, words_outcome}
use Rattle.writer.proofs.Words.{externals_few, words_pass}

-- the nodes are few
pub few_nodes : (f : FormatFacts) (flags n : ℕ) {u : Unit {0}} → accepted u ≡ checked (head_rules f flags n) → n ≤ 2 ^ 30
unfolding head_rules bad_format
few_nodes f flags n e =
    let k = (accepted_none (head_rules f flags n) tt _ (sym e)).0 in
    let most : f.max_nodes ≤ 2 ^ 30 =
    ltb-false (2 ^ 30) f.max_nodes (or_right (not (eqb (ones f.hashless) 1) || share f.hashless f.reserved) (ltb (2 ^ 30) f.max_nodes) k.0)
    in
    let fewer : n ≤ f.max_nodes = ltb-false f.max_nodes n k.1.1.0 in
    omega arith

-- no more of them External than there are
pub few_externals : (words : List ℕ) {x : ℕ} → accepted x ≡ entry_pass (word_read words) (length words) → x ≤ length words
unfolding words_outcome
few_externals words e =
    let k = (accepted_none (words_rules 1 0 words) (externals words) _ (words_pass words ∙ sym e)).1 in
    rw k at (externals_few words)

-- four numbers a key
pub keys_whole : (hashless : Bool) (internal x external hashes keys values : ℕ) (lengths : List ℕ) {u : Unit {0}}
    → accepted u ≡ checked (part_rules hashless internal x external hashes keys values lengths) → keys ≡ 4 * length lengths
unfolding part_rules
keys_whole hashless internal x external hashes keys values lengths e =
    eqb-true keys (4 * length lengths) (agreed (eqb keys (4 * length lengths)) (accepted_none (part_rules hashless internal x external hashes keys values lengths) tt _ (sym e)).0.1.1.0)
  where
    agreed : (b : Bool) → not b ≡ false → b ≡ true
    agreed true q = refl
    agreed false q = cc
