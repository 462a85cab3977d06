-- The checks of all nodes: children, order, strict entries. Each reads the nodes from 0 on, and an entry refusal stops it there.
use Rattle.std.specs.Prelude.{Result, ◌≡◌, ◌⊎◌, ℕ, ◌+◌, ◌≤◌, ◌<◌, not, List, [], ◌∷◌, ltb, leb, eqb}
use Rattle.wire.specs.Table.{Rule, rule, Outcome, accepted, first_met, checked, ◌>>=◌}
use Rattle.wire.specs.Shown.{shown_by}
use Rattle.wire.specs.declared.refusal.Refused.{Refused}
use Rattle.wire.specs.Refusals.{CHILD-RANGE, FORWARD, ORDER, NOT-CANONICAL}
use Rattle.info.specs.Node.{children_of, class_of}
use Rattle.info.specs.Entry.{word_of}
use Rattle.info.specs.declared.MastNodeEntry.{MastNodeEntry}
use Rattle.rows.specs.Rows.{row_word, node_pass}
use Rattle.layout.specs.declared.forest.ForestLayout.{ForestLayout}
use Rattle.resolved.specs.Nodes.{node_entry}

-- ---- inner contract only: what the judges of nodes hand to each other

-- what a judge answers of a node that reads is what a law says
abbrev pub Judges : {S : Type 0} → (ℕ → S → MastNodeEntry → Result S (Refused ℕ) → Type 0) → (ℕ → S → MastNodeEntry → Outcome S) → (ℕ → Outcome MastNodeEntry) → Type 0
Judges {S} Post law read = (i : ℕ) (before : S) (entry : MastNodeEntry) (r : Result S (Refused ℕ)) → read i ≡ accepted entry → Post i before entry r → shown_by (λ v. v) r ≡ law i before entry

-- ---- children

-- each child: not below the node count, else not below the parent; both [the parent]
unfoldable pub child_rules : ℕ → ℕ → List ℕ → List Rule
child_rules nodes parent [] = []
child_rules nodes parent (child ∷ others) =
    rule CHILD-RANGE parent (leb nodes child)
    ∷ rule FORWARD parent (leb parent child)
    ∷ child_rules nodes parent others

abbrev pub judge_children : ℕ → ℕ → Unit {0} → MastNodeEntry → Outcome (Unit {0})
judge_children nodes i before e = checked (child_rules nodes i (children_of e))

unfoldable pub children_outcome : List ℕ → ForestLayout → Outcome (Unit {0})
children_outcome s l = node_pass (node_entry s l) (judge_children l.node_count) tt l.node_count

-- one of a list
abbrev pub In : ℕ → List ℕ → Type 0
In x [] = ⊥
In x (y ∷ ys) = (x ≡ y) ⊎ In x ys

-- node j is a child of node i
abbrev pub Child : List ℕ → ForestLayout → ℕ → ℕ → Type 0
Child s l i j = (e : MastNodeEntry) × ((node_entry s l i ≡ accepted e) × In j (children_of e))

-- node j is a child of node i, or a child of one that node i reaches
pub data Reaches (s : List ℕ) (l : ForestLayout) : ℕ → ℕ → Type 0 where
  once : {i j : ℕ} → Child s l i j → Reaches s l i j
  further : {i j k : ℕ} → Child s l i j → Reaches s l j k → Reaches s l i k

-- each of a list is below a number
abbrev pub AllBelow : List ℕ → ℕ → Type 0
AllBelow ids top = (j : ℕ) → In j ids → j < top

-- the first n nodes read, and every child is below its parent
abbrev pub ChildrenBelow : List ℕ → ForestLayout → ℕ → Type 0
ChildrenBelow s l n = (i : ℕ) → i < n → (e : MastNodeEntry) × ((node_entry s l i ≡ accepted e) × AllBelow (children_of e) i)

-- ---- order

-- a node whose class is below its predecessor's [the node]; before node 0 stands the lowest class, below which is none
abbrev pub judge_order : ℕ → ℕ → MastNodeEntry → Outcome ℕ
judge_order i before e = first_met (rule ORDER i (ltb (class_of e) before) ∷ []) (class_of e)

unfoldable pub order_outcome : List ℕ → ForestLayout → Outcome (Unit {0})
order_outcome s l = node_pass (node_entry s l) judge_order 0 l.node_count >>= (λ _. accepted tt)

-- node i has an entry of a class
abbrev pub Class : List ℕ → ForestLayout → ℕ → ℕ → Type 0
Class s l i class = (e : MastNodeEntry) × ((node_entry s l i ≡ accepted e) × (class_of e ≡ class))

-- the first n nodes read, and of two the later one's class is not below the earlier one's
abbrev pub NeverFall : List ℕ → ForestLayout → ℕ → Type 0
NeverFall s l n = (i j : ℕ) → i ≤ j → j < n → (a : ℕ) × ((b : ℕ) × (Class s l i a × (Class s l j b × (a ≤ b))))

-- the first n nodes: some externals, then some blocks, then others only
pub record Ordered (s : List ℕ) (l : ForestLayout) (n : ℕ) : Type 0 where
  pub externals : ℕ
  pub blocks : ℕ
  pub within : externals + blocks ≤ n
  pub first : (i : ℕ) → i < externals → Class s l i 0
  pub then : (i : ℕ) → externals ≤ i → i < externals + blocks → Class s l i 1
  pub others : (i : ℕ) → externals + blocks ≤ i → i < n → Class s l i 2

-- ---- strict entries

-- a read entry whose written form differs from its 8 bytes [the node]
abbrev pub judge_strict : List ℕ → ℕ → ℕ → Unit {0} → MastNodeEntry → Outcome (Unit {0})
judge_strict s first i before e = checked (rule NOT-CANONICAL i (not (eqb (word_of e) (row_word s first i))) ∷ [])

unfoldable pub strict_outcome : List ℕ → ForestLayout → Outcome (Unit {0})
strict_outcome s l = node_pass (node_entry s l) (judge_strict s l.node_entry_offset.0) tt l.node_count

-- the first n nodes read, and each entry's written form is its 8 bytes
abbrev pub AsWritten : List ℕ → ForestLayout → ℕ → Type 0
AsWritten s l n = (i : ℕ) → i < n → (e : MastNodeEntry) × ((node_entry s l i ≡ accepted e) × (word_of e ≡ row_word s l.node_entry_offset.0 i))
