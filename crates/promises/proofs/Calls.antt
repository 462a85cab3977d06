-- What the functions' promises allow, under names: `Scans s f allow bound r` says that the scan may answer r, and so on. Under each name it is seen
-- that the function's own promise is meant (`scans` and the others, over `Post`, which the toolchain makes of its clauses), so that a theorem about
-- the name is one about every call.
-- Assumes nothing.
use mathlib.Core.Path.{◌≡◌}
use mathlib.Core.Bool.{Bool}
use mathlib.Core.List.{List}
use Prim.Native.Nat.{ℕ}
use lib.ListN.{length}
use Rattle.std.specs.Prelude.{Option, Result}
use Rattle.wire.specs.Counts.{count_outcome}
use Rattle.wire.specs.Shown.{shown_read}
use Rattle.wire.specs.declared.refusal.Refused.{Refused}
use Rattle.wire.specs.declared.units.ByteOffset.{ByteOffset}
use Rattle.wire.specs.declared.units.Cursor.{Cursor}
use Rattle.wire.specs.declared.count.Count.{Count}
use Rattle.wire.proofs.count.read_count.Reads as read_count
use Rattle.info.specs.Entry.{decode_outcome, encode_outcome}
use Rattle.info.specs.Shown.{shown_decoded, shown_encoded}
use Rattle.info.specs.declared.MastNodeEntry.{MastNodeEntry}
use Rattle.info.proofs.decode_entry.Reads as decode_entry
use Rattle.info.proofs.encode_entry.Reads as encode_entry
use Rattle.rows.specs.Shown.{shown_row}
use Rattle.layout.specs.Given.{Given}
use Rattle.layout.specs.Scan.{scan_outcome}
use Rattle.layout.specs.Index.{root_outcome, node_outcome}
use Rattle.layout.specs.Shown.{shown_scan, shown_root}
use Rattle.layout.specs.declared.facts.FormatFacts.{FormatFacts}
use Rattle.layout.specs.declared.forest.ForestLayout.{ForestLayout}
use Rattle.layout.specs.declared.scan.Scanned.{Scanned as Scan}
use Rattle.layout.proofs.scan.scan_layout.Reads as scan_layout
use Rattle.layout.proofs.index.read_node_entry_at.Reads as read_node
use Rattle.layout.proofs.index.read_procedure_root_at.Reads as read_root
use Rattle.resolved.specs.Slots.{slots_outcome, table_after}
use Rattle.resolved.specs.Digests.{digest_by_counting, digest_with_table}
use Rattle.resolved.specs.Shown.{shown_slots, shown_digest}
use Rattle.resolved.proofs.slots.build_slots.Reads as build_slots
use Rattle.resolved.proofs.digests.digest_by_counting.Reads as counting
use Rattle.resolved.proofs.digests.digest_with_table.Reads as tabled
use Rattle.checks.specs.Checks.{children_outcome, order_outcome, strict_outcome}
use Rattle.checks.specs.Shown.{shown_check}
use Rattle.checks.proofs.check_children.Reads as children
use Rattle.checks.proofs.check_order.Reads as order
use Rattle.checks.proofs.check_strict.Reads as strict
use Rattle.advice.specs.Walk.{walk_outcome, key_table}
use Rattle.advice.specs.Lookup.{lookup_outcome, values_part}
use Rattle.advice.specs.Shown.{shown_walk, shown_lookup, shown_key, shown_map_entry}
use Rattle.advice.specs.declared.walk.Walked.{Walked as MapWalk}
use Rattle.advice.specs.declared.lookup.MapLookup.{MapLookup}
use Rattle.advice.proofs.walk.walk_map.Reads as walk_map
use Rattle.advice.proofs.lookup.lookup.Reads as lookup_reads
use Rattle.advice.proofs.lookup.values.Reads as values_reads
use Rattle.advice.specs.Table.{key_outcome, map_entry_outcome, places_needed}
use Rattle.advice.specs.declared.table.MapEntry.{MapEntry as EntryRead}
use Rattle.advice.proofs.table.key_at.Reads as key_at
use Rattle.advice.proofs.table.entry_at.Reads as entry_at
use Rattle.advice.proofs.table.most_places.Reads as most_places
use Rattle.whole.specs.Whole.{whole_outcome}
use Rattle.whole.specs.Shown.{shown_whole}
use Rattle.whole.specs.declared.Whole.{Whole}
use Rattle.whole.proofs.read_whole.Reads as read_whole
use Rattle.writer.specs.Parts.{Parts}
use Rattle.writer.specs.Writer.{write_outcome, output_after}
use Rattle.writer.specs.Shown.{shown_write, lent_parts}
use Rattle.writer.proofs.file.write_forest.Reads as write_forest
use Rattle.writer.proofs.file.write_forest_hinted.Reads as write_forest_hinted

-- ---- counts

abbrev pub ReadsCount : List ℕ → ℕ → Result (Count × Cursor) (Refused ByteOffset) → Type 0
ReadsCount s at r = shown_read r ≡ count_outcome s at

pub reads_count : (κs : _) (a : _) (r : _) (e : _) → read_count.Post κs a r e → ReadsCount a.0.now a.1.0.0 r
reads_count κs a r e p = p

-- ---- entries

abbrev pub Decodes : ℕ → Result MastNodeEntry (Refused ByteOffset) → Type 0
Decodes w r = shown_decoded r ≡ decode_outcome 0 w

pub decodes : (κs : _) (a : _) (r : _) (e : _) → decode_entry.Post κs a r e → Decodes a.0 r
decodes κs a r e p = p

abbrev pub Encodes : MastNodeEntry → Result ℕ (Refused ByteOffset) → Type 0
Encodes x r = shown_encoded r ≡ encode_outcome x

pub encodes : (κs : _) (a : _) (r : _) (e : _) → encode_entry.Post κs a r e → Encodes a.0 r
encodes κs a r e p = p

-- ---- the scan, and the readers by index

-- the scan answers r; and what the types of its arguments say of them
pub record Scans (s : List ℕ) (f : FormatFacts) (allow : Bool) (bound : Option ℕ) (r : Result Scan (Refused ByteOffset)) : Type 0 where
  pub answer : shown_scan r ≡ scan_outcome f s allow bound
  pub given : Given f s

pub scans : (κs : _) (a : _) (r : _) (e : _) → scan_layout.Post κs a r e → Scans a.0.now a.1.0 a.1.1.0 a.1.1.1.0 r
scans κs a r e p = record { answer = p.0; given = p.1 }

abbrev pub ReadsNode : List ℕ → ForestLayout → ℕ → Result MastNodeEntry (Refused ℕ) → Type 0
ReadsNode s l i x = shown_row x ≡ node_outcome s l i

pub reads_node : (κs : _) (a : _) (r : _) (e : _) → read_node.Post κs a r e → ReadsNode a.0.now a.1.0 a.1.1.0 r
reads_node κs a r e p = p

abbrev pub ReadsRoot : List ℕ → ForestLayout → ℕ → Result ℕ (Refused ℕ) → Type 0
ReadsRoot s l i x = shown_root x ≡ root_outcome s l i

pub reads_root : (κs : _) (a : _) (r : _) (e : _) → read_root.Post κs a r e → ReadsRoot a.0.now a.1.0 a.1.1.0 r
reads_root κs a r e p = p

-- ---- slots and digests

-- the builder answers r and leaves the table t, which was t₀
pub record Builds (s : List ℕ) (l : ForestLayout) (bound : Option ℕ) (t₀ t : List ℕ) (r : Result (Option ℕ) (Refused ℕ)) : Type 0 where
  pub answer : shown_slots r ≡ slots_outcome s l bound (length t₀)
  pub table : t ≡ table_after s l bound t₀

pub builds : (κs : _) (a : _) (r : _) (e : _) → build_slots.Post κs a r e
    → Builds a.0.now a.1.0 a.1.1.0 a.1.1.1.0.now e.1.1.1.0.now r
builds κs a r e p = record { answer = p.0; table = p.1 }

abbrev pub ByCounting : List ℕ → ForestLayout → ℕ → Result (List ℕ) (Refused ℕ) → Type 0
ByCounting s l i r = shown_digest r ≡ digest_by_counting s l i

pub by_counting : (κs : _) (a : _) (r : _) (e : _) → counting.Post κs a r e → ByCounting a.0.now a.1.0 a.1.1.0 r
by_counting κs a r e p = p

abbrev pub WithTable : List ℕ → ForestLayout → ℕ → List ℕ → Result (List ℕ) (Refused ℕ) → Type 0
WithTable s l i t r = shown_digest r ≡ digest_with_table s l i t

pub with_table : (κs : _) (a : _) (r : _) (e : _) → tabled.Post κs a r e → WithTable a.0.now a.1.0 a.1.1.0 a.1.1.1.0.now r
with_table κs a r e p = p

-- ---- the checks

abbrev pub ChecksChildren : List ℕ → ForestLayout → Result (Unit {0}) (Refused ℕ) → Type 0
ChecksChildren s l r = shown_check r ≡ children_outcome s l

pub checks_children : (κs : _) (a : _) (r : _) (e : _) → children.Post κs a r e → ChecksChildren a.0.now a.1.0 r
checks_children κs a r e p = p

abbrev pub ChecksOrder : List ℕ → ForestLayout → Result (Unit {0}) (Refused ℕ) → Type 0
ChecksOrder s l r = shown_check r ≡ order_outcome s l

pub checks_order : (κs : _) (a : _) (r : _) (e : _) → order.Post κs a r e → ChecksOrder a.0.now a.1.0 r
checks_order κs a r e p = p

abbrev pub ChecksStrict : List ℕ → ForestLayout → Result (Unit {0}) (Refused ℕ) → Type 0
ChecksStrict s l r = shown_check r ≡ strict_outcome s l

pub checks_strict : (κs : _) (a : _) (r : _) (e : _) → strict.Post κs a r e → ChecksStrict a.0.now a.1.0 r
checks_strict κs a r e p = p

-- ---- the map

-- the walk answers r and leaves the table t, which was t₀
pub record Walks (s : List ℕ) (at : ℕ) (t₀ t : List ℕ) (r : Result MapWalk (Refused ByteOffset)) : Type 0 where
  pub answer : shown_walk r ≡ walk_outcome (length t₀) s at
  pub table : t ≡ key_table s at t₀

pub walks : (κs : _) (a : _) (r : _) (e : _) → walk_map.Post κs a r e → Walks a.0.now a.1.0.0 a.1.1.0.now e.1.1.0.now r
walks κs a r e p = record { answer = p.0; table = p.1 }

abbrev pub LooksUp : List ℕ → List ℕ → ℕ → List ℕ → Result MapLookup (Refused ℕ) → Type 0
LooksUp s t n key r = shown_lookup r ≡ lookup_outcome s t n key

pub looks_up : (κs : _) (a : _) (r : _) (e : _) → lookup_reads.Post κs a r e → LooksUp a.0.now a.1.0.now a.1.1.0 a.1.1.1.0 r
looks_up κs a r e p = p

-- the second call gives the part b
abbrev pub GivesPart : List ℕ → List ℕ → ℕ → List ℕ → List ℕ → Type 0
GivesPart s t n key b = b ≡ values_part s (lookup_outcome s t n key)

pub gives_part : (κs : _) (a : _) (r : _) (e : _) → values_reads.Post κs a r e → GivesPart a.0.now a.1.0.now a.1.1.0 a.1.1.1.0 r.now
gives_part κs a r e p = p

-- by place of a table t: the key there, the entry there; and k places are enough for the map
abbrev pub ReadsKey : List ℕ → List ℕ → ℕ → Result (List ℕ) (Refused ℕ) → Type 0
ReadsKey s t i r = shown_key r ≡ key_outcome s t i

pub reads_key : (κs : _) (a : _) (r : _) (e : _) → key_at.Post κs a r e → ReadsKey a.0.now a.1.0.now a.1.1.0 r
reads_key κs a r e p = p

abbrev pub ReadsMapEntry : List ℕ → List ℕ → ℕ → Result EntryRead (Refused ℕ) → Type 0
ReadsMapEntry s t i r = shown_map_entry r ≡ map_entry_outcome s t i

pub reads_map_entry : (κs : _) (a : _) (r : _) (e : _) → entry_at.Post κs a r e → ReadsMapEntry a.0.now a.1.0.now a.1.1.0 r
reads_map_entry κs a r e p = p

abbrev pub NeedsPlaces : List ℕ → ℕ → ℕ → Type 0
NeedsPlaces s at k = k ≡ places_needed s at

pub needs_places : (κs : _) (a : _) (r : _) (e : _) → most_places.Post κs a r e → NeedsPlaces a.0.now a.1.0.0 r
needs_places κs a r e p = p

-- ---- scan and walk in a row

abbrev pub ReadsWhole : List ℕ → FormatFacts → Bool → Option ℕ → ℕ → Result Whole (Refused ByteOffset) → Type 0
ReadsWhole s f allow bound places r = shown_whole r ≡ whole_outcome f allow bound places s

pub reads_whole : (κs : _) (a : _) (r : _) (e : _) → read_whole.Post κs a r e → ReadsWhole a.0.now a.1.0 a.1.1.0 a.1.1.1.0 (length a.1.1.1.1.0.now) r
reads_whole κs a r e p = p.0

-- ---- the writer

-- of facts f and parts p into the output o₀: the answer r, and the output o afterwards
pub record Writes (f : FormatFacts) (p : Parts) (o₀ o : List ℕ) (r : Result ℕ (Refused ℕ)) : Type 0 where
  pub answer : shown_write r ≡ write_outcome f p (length o₀)
  pub output : o ≡ output_after f p o₀

pub writes : (κs : _) (a : _) (r : _) (e : _) → write_forest.Post κs a r e
    → Writes a.0 (lent_parts a.1.0.now) a.1.1.0.now e.1.1.0.now r
writes κs a r e p = record { answer = p.0; output = p.1 }

-- and with a claim on the keys' order the same, whatever is claimed
pub writes_hinted : (κs : _) (a : _) (r : _) (e : _) → write_forest_hinted.Post κs a r e
    → Writes a.0 (lent_parts a.1.0.now) a.1.1.1.0.now e.1.1.1.0.now r
writes_hinted κs a r e p = record { answer = p.0; output = p.1 }
