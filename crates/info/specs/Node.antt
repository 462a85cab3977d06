-- The vocabulary of nodes. The kind of an entry and its numbers are the two tables; what else is asked of a node follows from them.
use Rattle.std.specs.Prelude.{ℕ, Bool, List, [], ◌∷◌, ltb, eqb, get_or}
use Rattle.wire.specs.Table.{rule, Outcome, pick, first_met}
use Rattle.wire.specs.Refusals.{INDEX}
use Rattle.info.specs.declared.MastNodeEntry.{MastNodeEntry}
use Rattle.info.specs.declared.MastNodeEntry.TheVariants.{Join, Split, Loop, Block, Call, SysCall, Dyn, Dyncall, External}

-- the kind, which is the tag of the entry's word
abbrev pub kind_of : MastNodeEntry → ℕ
kind_of (Join left right) = 0
kind_of (Split then else) = 1
kind_of (Loop body) = 2
kind_of (Block offset) = 3
kind_of (Call callee) = 4
kind_of (SysCall callee) = 5
kind_of Dyn = 6
kind_of Dyncall = 7
kind_of External = 8

-- the numbers, left first
abbrev pub numbers_of : MastNodeEntry → List ℕ
numbers_of (Join left right) = left ∷ right ∷ []
numbers_of (Split then else) = then ∷ else ∷ []
numbers_of (Loop body) = body ∷ []
numbers_of (Block offset) = offset ∷ []
numbers_of (Call callee) = callee ∷ []
numbers_of (SysCall callee) = callee ∷ []
numbers_of Dyn = []
numbers_of Dyncall = []
numbers_of External = []

-- ---- what is asked of a node

abbrev pub is_external : MastNodeEntry → Bool
is_external e = eqb (kind_of e) 8

abbrev pub is_block : MastNodeEntry → Bool
is_block e = eqb (kind_of e) 3

-- the classes in their order: External, Block, all others
abbrev pub class_of : MastNodeEntry → ℕ
class_of e = pick (is_external e) 0 (pick (is_block e) 1 2)

-- the children, left first; the number of a Block is no child
abbrev pub children_of : MastNodeEntry → List ℕ
children_of e = pick (is_block e) [] (numbers_of e)

-- ---- the way back

-- what each kind makes of two numbers, from kind 0 on; a kind that has fewer leaves the rest
abbrev pub makers : List (ℕ → ℕ → MastNodeEntry)
makers =
    Join
    ∷ Split
    ∷ (λ a b. Loop a)
    ∷ (λ a b. Block a)
    ∷ (λ a b. Call a)
    ∷ (λ a b. SysCall a)
    ∷ (λ a b. Dyn)
    ∷ (λ a b. Dyncall)
    ∷ (λ a b. External)
    ∷ []

-- past the last kind a rule has refused
abbrev pub entry_with : ℕ → ℕ → ℕ → MastNodeEntry
entry_with kind a b = get_or makers kind (λ a b. External) a b

-- a kind above 8: INDEX [the kind]
unfoldable pub make_outcome : ℕ → ℕ → ℕ → Outcome MastNodeEntry
make_outcome kind a b = first_met (rule INDEX kind (ltb 8 kind) ∷ []) (entry_with kind a b)
