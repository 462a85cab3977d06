-- The slot table: each node's number among the earlier nodes of its kind, external or not.
use Rattle.std.specs.Prelude.{ℕ, zero, suc, ◌+◌, ◌-◌, ◌*◌, ◌^◌, Bool, true, false, List, [], ◌∷◌, ◌++◌, Option, Some, None, ltb, length, drop}
use Rattle.std.specs.Bool.{beq}
use Rattle.wire.specs.Table.{Rule, rule, Outcome, refused, accepted, pick, checked, ◌>>=◌}
use Rattle.wire.specs.Refusals.{TOO-MANY, BUDGET, ROOM}
use Rattle.rows.specs.Rows.{entry_pass}
use Rattle.layout.specs.declared.forest.ForestLayout.{ForestLayout}
use Rattle.resolved.specs.Nodes.{node_entry, external_node}

-- ---- slots, where `kinds i` is the kind of node i

-- how many of the first n nodes are of a kind
unfoldable pub count_of : (ℕ → Bool) → Bool → ℕ → ℕ
count_of kinds kind zero = 0
count_of kinds kind (suc n) = count_of kinds kind n + pick (beq kind (kinds n)) 1 0

-- the slot of node i: the number of earlier nodes of its kind
abbrev pub slot_of : (ℕ → Bool) → ℕ → ℕ
slot_of kinds i = count_of kinds (kinds i) i

-- the slots of the first n nodes
unfoldable pub slots_of : (ℕ → Bool) → ℕ → List ℕ
slots_of kinds zero = []
slots_of kinds (suc n) = slots_of kinds n ++ (slot_of kinds n ∷ [])

-- how many rows the section of a kind has
abbrev pub rows_of : ForestLayout → Bool → ℕ
rows_of l true = l.external_node_count.0
rows_of l false = l.internal_node_count.0

-- ---- the bound

-- so many bytes are more than the bound has
abbrev pub lacks : Option ℕ → ℕ → Bool
lacks None bytes = false
lacks (Some n) bytes = ltb n bytes

-- the bound less so many bytes; none stays none
abbrev pub spent : Option ℕ → ℕ → Option ℕ
spent None bytes = None
spent (Some n) bytes = Some (n - bytes)

-- ---- the builder

-- before any entry is read, all [0]: more than 2 ^ 30 nodes, a bound below 4 bytes for each, a table with less room
unfoldable pub table_rules : ℕ → Option ℕ → ℕ → List Rule
table_rules nodes bound room =
    rule TOO-MANY 0 (ltb (2 ^ 30) nodes)
    ∷ rule BUDGET 0 (lacks bound (4 * nodes))
    ∷ rule ROOM 0 (ltb room nodes)
    ∷ []

-- then the entries from first to last; accepted with what is left of the bound
unfoldable pub slots_outcome : List ℕ → ForestLayout → Option ℕ → ℕ → Outcome (Option ℕ)
slots_outcome s l bound room =
    checked (table_rules l.node_count bound room)
    >>= (λ _. entry_pass (node_entry s l) l.node_count
    >>= (λ _. accepted (spent bound (4 * l.node_count))))

-- The table afterwards. Refused: as it was. Accepted: one slot for each node, and the rest as it was.
abbrev pub filled : Outcome (Option ℕ) → List ℕ → List ℕ → List ℕ
filled (refused n p) slots table = table
filled (accepted left) slots table = slots ++ drop (length slots) table

unfoldable pub table_after : List ℕ → ForestLayout → Option ℕ → List ℕ → List ℕ
table_after s l bound table = filled (slots_outcome s l bound (length table)) (slots_of (external_node s l) l.node_count) table
