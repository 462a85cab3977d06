-- Inner contracts only: the scan's table in segments, one for each stage of the code, and the stages in a row. A reader who believes the table
-- of Scan need not read them: proofs/Split.antt shows that they say what the table says.
use Rattle.std.specs.Prelude.{ℕ, ◌+◌, ◌*◌, Bool, not, ◌&&◌, List, [], ◌∷◌, ◌++◌, Option, ltb, eqb, length, get_or}
use Rattle.std.proofs.Math.Seq.{slice}
use Rattle.wire.specs.Table.{Rule, rule, Outcome, accepted, pick, first_met, checked, ◌>>=◌}
use Rattle.wire.specs.Refusals.{SHORT, MAGIC, VERSION, FLAGS, HASHLESS, OVERFLOW, TOO-MANY, BUDGET, EXTERNALS, FORMAT}
use Rattle.wire.specs.Le.{short_rule, over}
use Rattle.wire.specs.Counts.{counted, count_rule}
use Rattle.wire.specs.Rows.{numbers_of, differs}
use Rattle.layout.specs.Facts.{share, bad_format, over_budget, hash_bytes}
use Rattle.layout.specs.Scan.{Scanned, words_rules, externals, section_at}
use Rattle.layout.specs.declared.facts.FormatFacts.{FormatFacts}
use Rattle.layout.specs.declared.forest.ForestLayout.{ForestLayout}
use Rattle.layout.specs.declared.head.CountAt.{CountAt}
use Rattle.layout.specs.declared.head.Head.{Head}

-- ---- the values that the stages hand on

-- the count at a place
abbrev pub here : List ℕ → ℕ → CountAt
here s at = let c = counted s at in record { count = c.value; next = record { 0 = at + c.len }; shortest = c.shortest }

-- what the header and the two node counts say
pub record Nodes : Type 0 where
  pub hashless : Bool
  pub internal : CountAt
  pub external : CountAt

abbrev pub nodes_of : Head → Nodes
nodes_of h = record { hashless = h.hashless; internal = h.internal; external = h.external }

abbrev pub nodes_here : Bool → List ℕ → Nodes
nodes_here hashless s = let internal = here s 8 in record { hashless = hashless; internal = internal; external = here s internal.next.0 }

abbrev pub node_count : Nodes → ℕ
node_count h = h.internal.count + h.external.count

abbrev pub fixed_of : Nodes → ℕ
fixed_of h = 8 * node_count h + (32 * h.external.count + hash_bytes h.hashless h.internal.count)

abbrev pub layout_of : Nodes → CountAt → CountAt → ForestLayout
layout_of h roots blocks =
    let entries = blocks.next.0 + blocks.count in
    let digests = entries + 8 * node_count h in
    let hashes = digests + 32 * h.external.count in
    record {
      node_count = node_count h;
      internal_node_count = record { 0 = h.internal.count };
      external_node_count = record { 0 = h.external.count };
      roots_count = roots.count;
      roots_offset = roots.next;
      basic_block_offset = blocks.next;
      basic_block_len = blocks.count;
      node_entry_offset = record { 0 = entries };
      external_digest_offset = record { 0 = digests };
      node_hash_offset = section_at h.hashless hashes;
      advice_map_offset = record { 0 = hashes + hash_bytes h.hashless h.internal.count };
    }

-- how many of the four counts are long
abbrev pub long_of : Nodes → CountAt → CountAt → ℕ
long_of h roots blocks = pick h.internal.shortest 0 1 + (pick h.external.shortest 0 1 + (pick roots.shortest 0 1 + (pick blocks.shortest 0 1 + 0)))

abbrev pub scanned_of : Nodes → CountAt → CountAt → Scanned
scanned_of h roots blocks = record { layout = layout_of h roots blocks; long = long_of h roots blocks }

-- ---- the segments

abbrev pub preamble_rules : FormatFacts → List ℕ → List Rule
preamble_rules f s =
    rule FORMAT 0 (bad_format f)
    ∷ rule SHORT 0 (ltb (length s) 4)
    ∷ rule MAGIC 0 (differs s 0 f.magic 4)
    ∷ rule SHORT 4 (ltb (length s) 5)
    ∷ rule SHORT 5 (ltb (length s) 8)
    ∷ []

abbrev pub mark_rules : FormatFacts → Bool → List ℕ → List Rule
mark_rules f allow s =
    rule VERSION 5 (differs s 5 f.version 3)
    ∷ rule FLAGS 4 (share (get_or s 4 0) f.reserved)
    ∷ rule HASHLESS 4 (share (get_or s 4 0) f.hashless && not allow)
    ∷ []

abbrev pub head_rules : FormatFacts → List ℕ → List Rule
head_rules f s =
    let internal = here s 8 in
    let external = here s internal.next.0 in
    count_rule s 8
    ∷ count_rule s internal.next.0
    ∷ rule OVERFLOW 8 (over (internal.count + external.count))
    ∷ rule TOO-MANY 8 (ltb f.max_nodes (internal.count + external.count))
    ∷ []

abbrev pub budget_rules : Option ℕ → Nodes → List Rule
budget_rules bound h =
    rule BUDGET 8 (over_budget bound 8 (node_count h))
    ∷ rule BUDGET 8 (over_budget bound 32 h.external.count)
    ∷ rule BUDGET 8 (not h.hashless && over_budget bound 32 h.internal.count)
    ∷ []

abbrev pub roots_rules : Option ℕ → ℕ → List ℕ → List Rule
roots_rules bound at s =
    let roots = here s at in
    count_rule s at
    ∷ rule BUDGET at (over_budget bound 4 roots.count)
    ∷ rule OVERFLOW at (over (4 * roots.count))
    ∷ short_rule s roots.next.0 (4 * roots.count)
    ∷ []

abbrev pub blocks_rules : Option ℕ → ℕ → ℕ → List ℕ → List Rule
blocks_rules bound at fixed s =
    let blocks = here s at in
    count_rule s at
    ∷ rule OVERFLOW at (over (blocks.count + fixed))
    ∷ rule BUDGET at (over_budget bound 1 (blocks.count + fixed))
    ∷ short_rule s blocks.next.0 (blocks.count + fixed)
    ∷ []

abbrev pub words_at : List ℕ → ℕ → ℕ → List ℕ
words_at s first n = numbers_of 8 n (slice first (first + 8 * n) s)

unfoldable pub entry_section_rules : ℕ → Nodes → List ℕ → List Rule
entry_section_rules first h s =
    let words = words_at s first (node_count h) in
    words_rules 8 first words ++ (rule EXTERNALS h.internal.next.0 (not (eqb (externals words) h.external.count)) ∷ [])

-- ---- the stages

abbrev pub count_at : List ℕ → ℕ → Outcome CountAt
count_at s at = first_met (count_rule s at ∷ []) (here s at)

abbrev pub marks_outcome : FormatFacts → Bool → List ℕ → Outcome Bool
marks_outcome f allow s = first_met (mark_rules f allow s) (share (get_or s 4 0) f.hashless)

abbrev pub head_outcome : FormatFacts → Bool → List ℕ → Outcome Nodes
head_outcome f hashless s = first_met (head_rules f s) (nodes_here hashless s)

abbrev pub roots_outcome : Option ℕ → ℕ → List ℕ → Outcome CountAt
roots_outcome bound at s = first_met (roots_rules bound at s) (here s at)

abbrev pub blocks_outcome : Option ℕ → ℕ → ℕ → List ℕ → Outcome CountAt
blocks_outcome bound at fixed s = first_met (blocks_rules bound at fixed s) (here s at)

-- the stages in a row
unfoldable pub stages_outcome : FormatFacts → Bool → Option ℕ → List ℕ → Outcome Scanned
stages_outcome f allow bound s = do
  _ ← checked (preamble_rules f s)
  hashless ← marks_outcome f allow s
  h ← head_outcome f hashless s
  _ ← checked (budget_rules bound h)
  roots ← roots_outcome bound h.external.next.0 s
  blocks ← blocks_outcome bound (roots.next.0 + 4 * roots.count) (fixed_of h) s
  _ ← checked (entry_section_rules (blocks.next.0 + blocks.count) h s)
  accepted (scanned_of h roots blocks)
