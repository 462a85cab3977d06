-- What the checks of all nodes mean.
--     child_below, no_node_reaches_itself   if children holds, every child is below its parent, so no node reaches itself
--     order_holds                           if order holds, the externals are a prefix and the blocks follow
--     strict_holds                          if strict holds, every entry's written form is its 8 bytes
-- Assumes nothing.
use mathlib.Core.Path.{◌≡◌, refl, subst}
use mathlib.Core.Bool.{Bool, true, false, not}
use mathlib.Core.List.{List, [], ◌∷◌}
use mathlib.Core.Logic.{◌⊎◌, inl, inr, ⊎_elim}
use Prim.Native.Nat.{ℕ, zero, suc, ◌+◌, ◌≤◌, ◌<◌}
use native.Mathlib.Omega.{arith}
use borrow.Author.Tests.{ltb-true, ltb-false, leb-false, eqb-true, not-false}
use lib.Dec.{ltb, eqb}
use Rattle.wire.specs.Table.{rule, accepted, pick, NoneMet}
use Rattle.wire.specs.Refusals.{ORDER, NOT-CANONICAL}
use Rattle.wire.proofs.Stages.{both_taken}
use Rattle.wire.proofs.Tables.{accepted_none}
use Rattle.info.specs.Node.{children_of, is_external, is_block, class_of}
use Rattle.info.specs.Entry.{word_of}
use Rattle.info.specs.declared.MastNodeEntry.{MastNodeEntry}
use Rattle.rows.specs.Rows.{row_word, node_pass}
use Rattle.rows.proofs.Pass.{pass_each}
use Rattle.layout.specs.declared.forest.ForestLayout.{ForestLayout}
use Rattle.resolved.specs.Nodes.{node_entry}
use Rattle.checks.specs.Checks.{In, Child, Reaches, once, further, Class, Ordered, AsWritten, child_rules, judge_children, children_outcome, judge_order, order_outcome, judge_strict, strict_outcome}

-- ---- children

child_rule : (nodes parent : ℕ) (ids : List ℕ) → NoneMet (child_rules nodes parent ids) → (x : ℕ) → In x ids → (x < nodes) × (x < parent)
unfolding child_rules
child_rule nodes parent [] none x one = absurd one
child_rule nodes parent (y ∷ ys) none x one =
    ⊎_elim
    (λ here. (omega (arith, leb-false nodes y none.0, here), omega (arith, leb-false parent y none.1.0, here)))
    (λ later. child_rule nodes parent ys none.1.1 x later)
    one

module _ (s : List ℕ) (l : ForestLayout) (holds : children_outcome s l ≡ accepted tt) where
  pub child_below : (i j : ℕ) → i < l.node_count → Child s l i j → (j < l.node_count) × (j < i)
  unfolding children_outcome
  child_below i j h c =
      let p = pass_each (node_entry s l) (judge_children l.node_count) tt l.node_count tt holds i h in
      let same : p.entry ≡ c.0 = cc (p.read_as, c.1.0) in
      child_rule l.node_count i (children_of p.entry) (accepted_none (child_rules l.node_count i (children_of p.entry)) tt p.after p.judged).0 j (rw same c.1.1)

  pub reaches_below : (i j : ℕ) → i < l.node_count → Reaches s l i j → j < i
  reaches_below i j h (once c) = (child_below i j h c).1
  reaches_below i j h (further {j = m} c r) =
      let b = child_below i m h c in
      let d : j < m = reaches_below m j b.0 r in
      omega arith

  pub no_node_reaches_itself : (i : ℕ) → i < l.node_count → Reaches s l i i → ⊥
  no_node_reaches_itself i h r = let d : i < i = reaches_below i i h r in omega arith

-- ---- order

class_cases : (external block : Bool) → let class : ℕ = pick external 0 (pick block 1 2) in (class ≡ 0) ⊎ ((class ≡ 1) ⊎ (class ≡ 2))
class_cases true block = inl refl
class_cases false true = inr (inl refl)
class_cases false false = inr (inr refl)

module _ (s : List ℕ) (l : ForestLayout) where
  -- so far, with what the class of the last node says of the others
  record Sofar (n last : ℕ) : Type 0 where
    order : Ordered s l n
    all_external : last < 1 → order.externals ≡ n
    no_others : last < 2 → order.externals + order.blocks ≡ n

  -- what holds of each below n and of n holds of each below suc n
  one_more : (P : ℕ → Type 0) (n : ℕ) → P n → (i : ℕ) → i < suc n → (i < n → P i) → P i
  one_more P n here i h below = go (ltb i n) refl
    where
      go : (t : Bool) → ltb i n ≡ t → P i
      go true q = below (ltb-true i n q)
      go false q = let same : n ≡ i = omega (arith, ltb-false i n q) in rw same at here

  external_next : (n last : ℕ) → last ≤ 0 → Class s l n 0 → Sofar n last → Sofar (suc n) 0
  external_next n last h c so =
      let o = so.order in
      let all : o.externals ≡ n = so.all_external (omega arith) in
      record {
        order =
            record {
              externals = suc n;
              blocks = 0;
              within = omega arith;
              first = λ i k. one_more (λ x. Class s l x 0) n c i k (λ below. o.first i (omega arith));
              then = λ i a b. absurd (omega arith);
              others = λ i a b. absurd (omega arith);
            };
        all_external = λ z. refl;
        no_others = λ z. omega arith;
      }

  block_next : (n last : ℕ) → last ≤ 1 → Class s l n 1 → Sofar n last → Sofar (suc n) 1
  block_next n last h c so =
      let o = so.order in
      let all : o.externals + o.blocks ≡ n = so.no_others (omega arith) in
      record {
        order =
            record {
              externals = o.externals;
              blocks = suc o.blocks;
              within = omega arith;
              first = o.first;
              then = λ i a b. one_more (λ x. Class s l x 1) n c i (omega arith) (λ below. o.then i a (omega arith));
              others = λ i a b. absurd (omega arith);
            };
        all_external = λ z. absurd (omega arith);
        no_others = λ z. omega arith;
      }

  other_next : (n last : ℕ) → Class s l n 2 → Sofar n last → Sofar (suc n) 2
  other_next n last c so =
      let o = so.order in
      record {
        order =
            record {
              externals = o.externals;
              blocks = o.blocks;
              within = omega (arith, o.within);
              first = o.first;
              then = o.then;
              others = λ i a b. one_more (λ x. Class s l x 2) n c i b (λ below. o.others i a below);
            };
        all_external = λ z. absurd (omega arith);
        no_others = λ z. absurd (omega arith);
      }

  none_yet : Sofar 0 0
  none_yet =
      record {
        order =
            record {
              externals = 0;
              blocks = 0;
              within = omega arith;
              first = λ i h. absurd (omega arith);
              then = λ i a b. absurd (omega arith);
              others = λ i a b. absurd (omega arith);
            };
        all_external = λ z. refl;
        no_others = λ z. refl;
      }

  next : (n last : ℕ) (e : MastNodeEntry) → node_entry s l n ≡ accepted e → last ≤ class_of e → Sofar n last → Sofar (suc n) (class_of e)
  next n last e r h so =
      ⊎_elim
      (λ zero-class. rw zero-class (external_next n last (omega arith) (e, (r, zero-class)) so))
      (λ more.
      ⊎_elim
      (λ one_class. rw one_class (block_next n last (omega arith) (e, (r, one_class)) so))
      (λ two-class. rw two-class (other_next n last (e, (r, two-class)) so))
      more)
      (class_cases (is_external e) (is_block e))

  sofar : (n last : ℕ) → node_pass (node_entry s l) judge_order 0 n ≡ accepted last → Sofar n last
  unfolding node_pass
  sofar zero last q = let start : 0 ≡ last = cc in subst (λ (x : ℕ). Sofar 0 x) start none_yet
  sofar (suc n) last q =
      let b = both_taken (node_pass (node_entry s l) judge_order 0 n) _ last q in
      let r = both_taken (node_entry s l n) _ last b.2 in
      let k = accepted_none (rule ORDER n (ltb (class_of r.0) b.0) ∷ []) (class_of r.0) last r.2 in
      subst (λ (x : ℕ). Sofar (suc n) x) k.1 (next n b.0 r.0 r.1 (ltb-false (class_of r.0) b.0 k.0.0) (sofar n b.0 b.1))

  pub order_holds : order_outcome s l ≡ accepted tt → Ordered s l l.node_count
  unfolding order_outcome
  order_holds holds = let b = both_taken (node_pass (node_entry s l) judge_order 0 l.node_count) _ tt holds in (sofar l.node_count b.0 b.1).order

-- ---- strict entries

pub strict_holds : (s : List ℕ) (l : ForestLayout) → strict_outcome s l ≡ accepted tt → AsWritten s l l.node_count
unfolding strict_outcome
strict_holds s l holds i h =
    let first = l.node_entry_offset.0 in
    let p = pass_each (node_entry s l) (judge_strict s first) tt l.node_count tt holds i h in
    let k = accepted_none (rule NOT-CANONICAL i (not (eqb (word_of p.entry) (row_word s first i))) ∷ []) tt p.after p.judged in
    (p.entry, (p.read_as, eqb-true (word_of p.entry) (row_word s first i) (not-false (eqb (word_of p.entry) (row_word s first i)) k.0.0)))
