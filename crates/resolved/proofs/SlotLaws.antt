-- Laws of the slot table's definitions, and the kind of a node by the top byte of its row.
-- Assumes nothing.
use mathlib.Core.Path.{◌≡◌, refl, sym, ap, ◌∙◌}
use mathlib.Core.Bool.{Bool, true, false, beq, ◌&&◌}
use mathlib.Core.List.{List, [], ◌∷◌, ◌++◌, append_assoc}
use Prim.Native.Nat.{ℕ, zero, suc, ◌+◌, ◌*◌, ◌-◌, ◌/◌, ◌%◌, ◌^◌, ◌<◌, ◌≤◌}
use native.Mathlib.Nat.{add-zero, add-suc}
use native.Mathlib.Numerals.{add-one}
use native.Mathlib.Omega.{arith}
use borrow.Author.Tests.{ne_eqb, ltb-true, ltb-false, lt-ltb}
use lib.Dec.{ltb, leb, eqb}
use lib.ListN.{length, get_or, drop, set, length-append, get_or-append}
use lib.Seq.{drop-cons, set_at, get_or_at, slice_empty}
use Rattle.std.specs.Prelude.{Option, Some, None}
use Rattle.std.specs.Option.{MatchOption, IsSomeAnd}
use Rattle.std.specs.Int.{from_bool}
use Rattle.wire.specs.Table.{Outcome, rule, refused, accepted, pick, first_met, checked, ◌>>=◌}
use Rattle.wire.specs.Refusals.{TAG, PAYLOAD}
use Rattle.wire.specs.Le.{Bytes, le, le_at}
use Rattle.wire.proofs.Le.{le_parts, le_next, le-slice_below}
use Rattle.wire.proofs.Stages.{both_taken}
use Rattle.wire.proofs.Tables.{accepted_none}
use Rattle.info.specs.Node.{is_external}
use Rattle.info.specs.Entry.{entry_from, entry_of, bad_tag, bad_payload, decode_rules, decode_outcome}
use Rattle.info.specs.declared.MastNodeEntry.{MastNodeEntry}
use Rattle.info.proofs.NodeLaws.{by_tag}
use Rattle.rows.specs.Rows.{row_word, row_rules, row_outcome, node_pass, external_one, count_external, entry_pass}
use Rattle.rows.proofs.Pass.{pass_each}
use Rattle.rows.proofs.RowLaws.{inside_row}
use Rattle.layout.specs.declared.forest.ForestLayout.{ForestLayout}
use Rattle.resolved.specs.Nodes.{node_entry, external_in, external_row, external_node}
use Rattle.resolved.specs.Slots.{count_of, slot_of, slots_of, lacks, spent, table_rules, slots_outcome, table_after}

-- ---- counts and slots, where `kinds i` is the kind of node i

same_kind : (b : Bool) → beq b b ≡ true
same_kind true = refl
same_kind false = refl

is_true : (b : Bool) → beq true b ≡ b
is_true true = refl
is_true false = refl

one_if : (b : Bool) → from_bool b ≡ pick b 1 0
one_if true = refl
one_if false = refl

pub one_or_none : (b : Bool) → from_bool b ≤ 1
one_or_none true = omega arith
one_or_none false = omega arith

one_kind : (b : Bool) → pick (beq true b) 1 0 + pick (beq false b) 1 0 ≡ 1
one_kind true = refl
one_kind false = refl

module _ (kinds : ℕ → Bool) where
  pub count_next : (kind : Bool) (i : ℕ) → count_of kinds kind (i + 1) ≡ count_of kinds kind i + pick (beq kind (kinds i)) 1 0
  unfolding count_of
  count_next kind i = rw add-one

  -- each node is of one kind, so one count gives the other
  pub count_both : (i : ℕ) → count_of kinds true i + count_of kinds false i ≡ i
  unfolding count_of
  count_both zero = refl
  count_both (suc i) = omega (arith, count_both i, one_kind (kinds i))

  -- the slot of node i by its kind, from the number of externals before it
  pub slot_is : (b : Bool) (e i : ℕ) → e ≡ count_of kinds true i → pick b e (i - e) ≡ count_of kinds b i
  slot_is true e i q = q
  slot_is false e i q = omega (arith, q, count_both i)

  pub length_slots : (n : ℕ) → length (slots_of kinds n) ≡ n
  unfolding slots_of
  length_slots zero = refl
  length_slots (suc n) = simp (length-append, length_slots n) (add-one n)

  -- a slot stored at i in a table whose first i places are filled
  fill_next : (table : List ℕ) (i : ℕ) → i < length table →
      set (slots_of kinds i ++ drop i table) i (slot_of kinds i) ≡ slots_of kinds (i + 1) ++ drop (i + 1) table
  unfolding slots_of
  fill_next table i h =
      rw (add-one, drop-cons table i 0, append_assoc) (set_at (slots_of kinds i) (get_or table i 0) (drop (suc i) table) (slot_of kinds i) i (length_slots i))

-- ---- the slots of one kind

module _ (kinds : ℕ → Bool) where
  count_grows : (kind : Bool) (m k : ℕ) → count_of kinds kind m ≤ count_of kinds kind (m + k)
  unfolding count_of
  count_grows kind m zero = rw add-zero (omega arith)
  count_grows kind m (suc k) = rw add-suc (omega (arith, count_grows kind m k))

  -- a slot is below the number of nodes of its kind
  pub slot_below : (i n : ℕ) → i < n → slot_of kinds i < count_of kinds (kinds i) n
  slot_below i n h =
      let e : (i + 1) + (n - (i + 1)) ≡ n = omega arith in
      let g : count_of kinds (kinds i) (i + 1) ≤ count_of kinds (kinds i) n = rw e at (count_grows (kinds i) (i + 1) (n - (i + 1))) in
      omega (arith, rw same_kind at (count_next kinds (kinds i) i))

  -- slots of one kind rise with the nodes
  pub slots_rise : (i j : ℕ) → i < j → kinds i ≡ kinds j → slot_of kinds i < slot_of kinds j
  slots_rise i j h e = omega (arith, slot_below i j h, ap (λ (k : Bool). count_of kinds k j) e)

  -- so no two nodes of one kind share one
  pub slots_distinct : (i j : ℕ) → kinds i ≡ kinds j → slot_of kinds i ≡ slot_of kinds j → i ≡ j
  slots_distinct i j e q = go (ltb i j) (ltb j i) refl refl
    where
      go : (a b : Bool) → ltb i j ≡ a → ltb j i ≡ b → i ≡ j
      go true b p r = absurd (omega (arith, slots_rise i j (ltb-true i j p) e))
      go false true p r = absurd (omega (arith, slots_rise j i (ltb-true j i r) (sym e)))
      go false false p r = omega (arith, ltb-false i j p, ltb-false j i r)

  slots_grow : (i m k : ℕ) → i < m → get_or (slots_of kinds (m + k)) i 0 ≡ get_or (slots_of kinds m) i 0
  unfolding slots_of
  slots_grow i m zero h = rw add-zero
  slots_grow i m (suc k) h =
      let l : i < length (slots_of kinds (m + k)) = rw length_slots (omega arith) in
      rw (add-suc, get_or-append (slots_of kinds (m + k)) (slot_of kinds (m + k) ∷ []) 0 i l) (slots_grow i m k h)

  -- row i of the slots is the slot of node i
  pub slot_at : (i n : ℕ) → i < n → get_or (slots_of kinds n) i 0 ≡ slot_of kinds i
  unfolding slots_of
  slot_at i n h =
      let e : suc i + (n - suc i) ≡ n = omega arith in
      rw e at (slots_grow i (suc i) (n - suc i) (omega arith)) ∙ get_or_at (slots_of kinds i) (slot_of kinds i) [] 0 i (length_slots kinds i)

-- What holds of the filler's table and its count after i nodes, where the table was `table₀` at first.
pub record Upto (kinds : ℕ → Bool) (table₀ table : List ℕ) (externals i : ℕ) : Type 0 where
  pub so_far : table ≡ slots_of kinds i ++ drop i table₀
  pub external : externals ≡ count_of kinds true i

module _ {kinds : ℕ → Bool} {table₀ : List ℕ} where
  pub upto_none : Upto kinds table₀ table₀ 0 0
  unfolding slots_of count_of
  upto_none = record { so_far = refl; external = refl }

  pub upto_fit : {table : List ℕ} {e i : ℕ} → Upto kinds table₀ table e i → e ≤ i
  upto_fit {i = i} u = rw u.external (omega (arith, count_both kinds i))

  pub upto_next : {table : List ℕ} {e i slot one : ℕ} → i < length table₀ → slot ≡ pick (kinds i) e (i - e) → one ≡ from_bool (kinds i) →
      Upto kinds table₀ table e i → Upto kinds table₀ (set table i slot) (e + one) (i + 1)
  upto_next {e = e} {i = i} h s o u =
      record {
        so_far = rw (u.so_far, s, slot_is kinds (kinds i) e i u.external) (fill_next kinds table₀ i h);
        external = rw (count_next kinds true i, is_true (kinds i), o, one_if (kinds i), u.external);
      }

-- ---- the top byte of a row

-- the tag is the upper half of the last byte
tag_byte : (s : List ℕ) → Bytes s → (at : ℕ) → at + 8 ≤ length s → le_at s at 8 / 2 ^ 60 ≡ get_or s (at + 7) 0 / 16
unfolding le
tag_byte s b at h =
    let none : le_at s (at + 8) 0 ≡ 0 = rw (add-zero, slice_empty (at + 8) s) in
    omega (arith, le_parts s at 7 1 (omega arith), le_next s at 7 0 (omega arith), le-slice_below 7 at (at + 7) s b (omega arith))

-- what a tag and a payload say, where `wide` is whether the payload is too wide for a single
abbrev tagged : Bool → ℕ → ℕ → ℕ → Outcome MastNodeEntry
tagged wide t p i = first_met (rule TAG i (ltb 8 t) ∷ rule PAYLOAD i ((leb 2 t && leb t 5) && wide) ∷ []) (entry_from t p)

low_tag : (wide : Bool) (t p i : ℕ) → t ≤ 8 → external_in (tagged wide t p i) ≡ eqb t 8
unfolding first_met
low_tag true t p i h = by_tag (λ t. external_in (tagged true t p i) ≡ eqb t 8) refl refl refl refl refl refl refl refl refl t h
low_tag false t p i h = by_tag (λ t. external_in (tagged false t p i) ≡ eqb t 8) refl refl refl refl refl refl refl refl refl t h

high_tag : (wide : Bool) (t p i : ℕ) → 8 < t → external_in (tagged wide t p i) ≡ eqb t 8
unfolding first_met
high_tag wide t p i h = rw (lt-ltb 8 t h) (sym (ne_eqb t 8 (λ e. omega arith)))

-- a node is external exactly if its tag is 8, whatever its payload
tag_kind : (wide : Bool) (t p i : ℕ) → external_in (tagged wide t p i) ≡ eqb t 8
tag_kind wide t p i = go (ltb 8 t) refl
  where
    go : (far : Bool) → ltb 8 t ≡ far → external_in (tagged wide t p i) ≡ eqb t 8
    go true q = high_tag wide t p i (ltb-true 8 t q)
    go false q = low_tag wide t p i (ltb-false 8 t q)

-- so the top byte of its row says it
pub top_kind : (s : List ℕ) → Bytes s → (first i n : ℕ) → first + 8 * n ≤ length s → length s < 2 ^ 64 → i < n →
    external_row s first i ≡ eqb (get_or s (first + 8 * i + 7) 0 / 16) 8
unfolding decode_outcome decode_rules entry_of bad_tag bad_payload
top_kind s b first i n inside fits h =
    rw (inside_row s first i n inside fits h, ← tag_byte s b (first + 8 * i) (omega arith)) (tag_kind (ltb (2 ^ 32 - 1) (row_word s first i % 2 ^ 60)) (row_word s first i / 2 ^ 60) (row_word s first i % 2 ^ 60) i)

-- ---- rows that are read

-- a row with an entry is whole, inside the file
pub row_inside : (s : List ℕ) (first i : ℕ) (e : MastNodeEntry) → row_outcome s first i ≡ accepted e →
    (first + 8 * i + 8 ≤ 2 ^ 64 - 1) × (first + 8 * i + 8 ≤ length s)
unfolding row_outcome row_rules
row_inside s first i e q =
    let k = accepted_none (row_rules s first i) (entry_of (row_word s first i)) e q in
    (ltb-false _ _ k.0.0, ltb-false _ _ k.0.1.0)

-- where all of n rows are read, they lie inside the file
pub rows_inside : (s : List ℕ) (first n externals : ℕ) → entry_pass (row_outcome s first) n ≡ accepted externals → 0 < n → first + 8 * n ≤ length s
rows_inside s first n externals q h =
    let last = pass_each (row_outcome s first) count_external 0 n externals q (n - 1) (omega arith) in
    omega (arith, (row_inside s first (n - 1) last.entry last.read_as).1)

-- one external, or none, by what a row says
one_of_row : (o : Outcome MastNodeEntry) (e : MastNodeEntry) → o ≡ accepted e → pick (beq true (external_in o)) 1 0 ≡ external_one e
one_of_row o e q = rw (q, is_true (is_external e))

-- the externals that are counted are those of the kinds
pub counted_kinds : (s : List ℕ) (first n externals : ℕ) → entry_pass (row_outcome s first) n ≡ accepted externals → externals ≡ count_of (external_row s first) true n
unfolding node_pass count_of
counted_kinds s first zero x q = cc
counted_kinds s first (suc n) x q =
    let b = both_taken (entry_pass (row_outcome s first) n) _ x q in
    let r = both_taken (row_outcome s first n) _ x b.2 in
    let sum : b.0 + external_one r.0 ≡ x = cc in
    omega (arith, counted_kinds s first n b.0 b.1, one_of_row (row_outcome s first n) r.0 r.1)

pub counted_le : (s : List ℕ) (first n externals : ℕ) → entry_pass (row_outcome s first) n ≡ accepted externals → externals ≤ n
counted_le s first n externals q = omega (arith, counted_kinds s first n externals q, count_both (external_row s first) n)

-- ---- the bound, as the code asks and lessens it

pub lacks_said : (bound : Option ℕ) (bytes : ℕ) (t : Bool) (Said : ℕ → Type 0) → ((n : ℕ) → Said n → t ≡ ltb n bytes)
    → MatchOption bound (t ≡ false) Said → t ≡ lacks bound bytes
lacks_said None bytes t Said known e = e
lacks_said (Some n) bytes t Said known e = known n e

pub spent_said : (bound : Option ℕ) (bytes : ℕ) (r : Option ℕ) (Said : ℕ → ℕ → Type 0) → ((n m : ℕ) → Said n m → m ≡ n - bytes)
    → MatchOption bound (r ≡ None) (λ n. IsSomeAnd r (Said n)) → r ≡ spent bound bytes
spent_said None bytes r Said known e = e
spent_said (Some n) bytes None Said known e = absurd e
spent_said (Some n) bytes (Some m) Said known e = rw (known n m e)

-- ---- the builder's answer and its table, stage by stage

module _ (s : List ℕ) (l : ForestLayout) (bound : Option ℕ) (table : List ℕ) where
  abbrev nodes : ℕ
  nodes = l.node_count

  abbrev rules : Outcome (Unit {0})
  rules = checked (table_rules nodes bound (length table))

  -- what was built, of an answer that is known
  pub refused_table : (n p : ℕ) → slots_outcome s l bound (length table) ≡ refused n p → table_after s l bound table ≡ table
  unfolding table_after
  refused_table n p e = rw e

  pub filled_table : (left : Option ℕ) → slots_outcome s l bound (length table) ≡ accepted left → table_after s l bound table ≡ slots_of (external_node s l) nodes ++ drop nodes table
  unfolding table_after
  filled_table left e = rw (e, length_slots (external_node s l) nodes)

  -- refused before any entry is read
  pub table_stops : (n p : ℕ) → refused n p ≡ rules → (refused n p ≡ slots_outcome s l bound (length table)) × (table ≡ table_after s l bound table)
  unfolding slots_outcome ◌>>=◌
  table_stops n p e =
      let built : slots_outcome s l bound (length table) ≡ refused n p = rw (← e) in
      (sym built, sym (refused_table n p built))

  -- refused at an entry
  pub entries_stop : (n p : ℕ) → accepted tt ≡ rules → refused n p ≡ entry_pass (node_entry s l) nodes →
      (refused n p ≡ slots_outcome s l bound (length table)) × (table ≡ table_after s l bound table)
  unfolding slots_outcome ◌>>=◌
  entries_stop n p e q =
      let built : slots_outcome s l bound (length table) ≡ refused n p = rw (← e, ← q) in
      (sym built, sym (refused_table n p built))

  -- filled
  pub entries_fill : (externals : ℕ) (left : Option ℕ) (after : List ℕ) → accepted tt ≡ rules → accepted externals ≡ entry_pass (node_entry s l) nodes →
      left ≡ spent bound (4 * nodes) → after ≡ slots_of (external_node s l) nodes ++ drop nodes table →
      (accepted left ≡ slots_outcome s l bound (length table)) × (after ≡ table_after s l bound table)
  unfolding slots_outcome ◌>>=◌
  entries_fill externals left after e q b a =
      let built : slots_outcome s l bound (length table) ≡ accepted left = rw (← e, ← q, b) in
      (sym built, a ∙ sym (filled_table left built))
