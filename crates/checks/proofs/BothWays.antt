-- The checks both ways: what they say holds exactly if it does.
--     children_exactly   children holds exactly if every entry reads and every child is below its parent
--     order_exactly      order holds exactly if every entry reads and classes never fall
--     strict_exactly     strict holds exactly if every entry reads and its written form is its 8 bytes
-- Assumes nothing.
use mathlib.Core.Path.{◌≡◌, refl, sym, ap, ◌∙◌}
use mathlib.Core.Bool.{Bool, true, false, not}
use mathlib.Core.List.{List, [], ◌∷◌}
use mathlib.Core.Logic.{◌↔◌}
use Prim.Native.Nat.{ℕ, zero, suc, ◌+◌, ◌≤◌, ◌<◌}
use native.Mathlib.Omega.{arith}
use borrow.Author.Tests.{ltb-true, ltb-false, le-ltb, eq-eqb}
use lib.Dec.{ltb, eqb}
use Rattle.wire.specs.Table.{Outcome, refused, accepted, rule, ◌>>=◌}
use Rattle.wire.specs.Refusals.{ORDER, NOT-CANONICAL}
use Rattle.wire.proofs.Tables.{none_accepted}
use Rattle.info.specs.Entry.{word_of}
use Rattle.info.specs.Node.{class_of, children_of}
use Rattle.rows.specs.Rows.{row_word}
use Rattle.info.specs.declared.MastNodeEntry.{MastNodeEntry}
use Rattle.layout.specs.declared.forest.ForestLayout.{ForestLayout}
use Rattle.resolved.specs.Nodes.{node_entry}
use Rattle.checks.specs.Checks.{child_rules, judge_children, children_outcome, judge_order, order_outcome, judge_strict, strict_outcome, Class, Ordered, ChildrenBelow, NeverFall, AsWritten}
use Rattle.rows.proofs.Pass.{pass_each, all_pass}
use Rattle.checks.proofs.CheckLaws.{below_rules}
use Rattle.checks.proofs.Ordered.{child_below, order_holds, strict_holds}

-- ---- children

pub children_exactly : (s : List ℕ) (l : ForestLayout) → (children_outcome s l ≡ accepted tt) ↔ ChildrenBelow s l l.node_count
unfolding children_outcome
children_exactly s l =
    let n = l.node_count in (
      λ holds i h.
          let p = pass_each (node_entry s l) (judge_children n) tt n tt holds i h in
          (p.entry, (p.read_as, λ j is. (child_below s l holds i j h (p.entry, (p.read_as, is))).1)),
      λ all. all_pass (node_entry s l) (judge_children n) (λ _. tt) n
          (λ i h. let e = all i h in (e.0, (e.1.0, none_accepted (child_rules n i (children_of e.0)) tt (below_rules n i (children_of e.0) h e.1.1)))),
    )

-- ---- order

-- the class of a node; before any, and of a refused one, the lowest
abbrev class_in : Outcome MastNodeEntry → ℕ
class_in (refused n p) = 0
class_in (accepted e) = class_of e

module _ (s : List ℕ) (l : ForestLayout) where
  abbrev before : ℕ → ℕ
  before zero = 0
  before (suc i) = class_in (node_entry s l i)

  -- by what the record of an order says, at two nodes
  two : (n : ℕ) → Ordered s l n → NeverFall s l n
  two n o i j h k = go (ltb j o.externals) refl (ltb j (o.externals + o.blocks)) refl (ltb i o.externals) refl (ltb i (o.externals + o.blocks)) refl
    where
      go : (a : Bool) → ltb j o.externals ≡ a → (b : Bool) → ltb j (o.externals + o.blocks) ≡ b → (c : Bool) → ltb i o.externals ≡ c → (d : Bool) → ltb i (o.externals + o.blocks) ≡ d
          → (a : ℕ) × ((b : ℕ) × (Class s l i a × (Class s l j b × (a ≤ b))))
      go true p b q c r d u = let x : j < o.externals = ltb-true j o.externals p in (0, (0, (o.first i (omega arith), (o.first j x, omega arith))))
      go false p true q true r d u =
          let x : o.externals ≤ j = ltb-false j o.externals p in
          (0, (1, (o.first i (ltb-true i o.externals r), (o.then j x (ltb-true j (o.externals + o.blocks) q), omega arith))))
      go false p true q false r d u =
          let x : o.externals ≤ j = ltb-false j o.externals p in
          let y : o.externals ≤ i = ltb-false i o.externals r in
          let z : j < o.externals + o.blocks = ltb-true j (o.externals + o.blocks) q in
          (1, (1, (o.then i y (omega arith), (o.then j x z, omega arith))))
      go false p false q true r d u = (0, (2, (o.first i (ltb-true i o.externals r), (o.others j (ltb-false j (o.externals + o.blocks) q) k, omega arith))))
      go false p false q false r true u =
          (1, (2, (o.then i (ltb-false i o.externals r) (ltb-true i (o.externals + o.blocks) u), (o.others j (ltb-false j (o.externals + o.blocks) q) k, omega arith))))
      go false p false q false r false u =
          let y : o.externals + o.blocks ≤ i = ltb-false i (o.externals + o.blocks) u in
          (2, (2, (o.others i y (omega arith), (o.others j (ltb-false j (o.externals + o.blocks) q) k, omega arith))))

  -- each node after what the one before it handed on
  judged : (n i : ℕ) → i < n → NeverFall s l n → (e : MastNodeEntry) × ((node_entry s l i ≡ accepted e) × (judge_order i (before i) e ≡ accepted (before (suc i))))
  judged n zero h never =
      let p = never 0 0 (omega arith) h in
      let c = p.1.1.0 in
      let e = c.0 in
      (e, (c.1.0, none_accepted (rule ORDER 0 (ltb (class_of e) 0) ∷ []) (class_of e) (le-ltb (class_of e) 0 (omega arith), tt) ∙ ap accepted (sym (ap class_in c.1.0))))
  judged n (suc i) h never =
      let p = never i (suc i) (omega arith) h in
      let a = p.1.1.0 in
      let b = p.1.1.1.0 in
      let e = b.0 in
      let last : before (suc i) ≡ p.0 = ap class_in a.1.0 ∙ a.1.1 in
      let low : before (suc i) ≤ class_of e = omega (arith, last, b.1.1, p.1.1.1.1) in
      (e, (b.1.0, none_accepted (rule ORDER (suc i) (ltb (class_of e) (before (suc i))) ∷ []) (class_of e) (le-ltb (class_of e) (before (suc i)) low, tt) ∙ ap accepted (sym (ap class_in b.1.0))))

  pub order_exactly : (order_outcome s l ≡ accepted tt) ↔ NeverFall s l l.node_count
  unfolding order_outcome ◌>>=◌
  order_exactly = (
    λ holds. two l.node_count (order_holds s l holds),
    λ never. rw (all_pass (node_entry s l) judge_order before l.node_count (λ i h. judged l.node_count i h never)) refl,
  )

-- ---- strict entries

pub strict_exactly : (s : List ℕ) (l : ForestLayout) → (strict_outcome s l ≡ accepted tt) ↔ AsWritten s l l.node_count
unfolding strict_outcome
strict_exactly s l =
    let first = l.node_entry_offset.0 in (
      strict_holds s l,
      λ all. all_pass (node_entry s l) (judge_strict s first) (λ _. tt) l.node_count
          (λ i h.
          let e = all i h in
          (e.0, (e.1.0, none_accepted (rule NOT-CANONICAL i (not (eqb (word_of e.0) (row_word s first i))) ∷ []) tt (ap not (eq-eqb (word_of e.0) (row_word s first i) e.1.1), tt)))),
    )
