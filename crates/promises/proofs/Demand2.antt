-- Demand 2, its statements: what is so of an accepted file and of an accepted map, of entries, of the checks, and that there are accepted files.
-- Each is proved by citing (Scan, Resolved, Checks, Advice, and the crates' own laws).
-- Assumes nothing.
use mathlib.Core.Path.{◌≡◌, sym, ap, ◌∙◌}
use mathlib.Core.Bool.{Bool, true, false}
use mathlib.Core.List.{List, ◌++◌}
use mathlib.Core.Logic.{◌⊎◌, ◌↔◌}
use Prim.Native.Nat.{ℕ, ◌*◌, ◌≤◌, ◌<◌}
use lib.ListN.{length, get_or}
use Rattle.std.specs.Prelude.{Option, Some, None, Result, Ok, Err}
use Rattle.std.specs.declared.cmp.Ordering.TheVariants.{Less}
use Rattle.wire.specs.Table.{accepted, NoneMet, FirstMet}
use Rattle.wire.specs.Refusals.{ELEMENT, number_of}
use Rattle.wire.specs.declared.refusal.Refusal.{Refusal}
use Rattle.wire.specs.declared.refusal.Refusal.TheVariants.{RootId, Element, Room}
use Rattle.wire.specs.declared.refusal.Refused.{Refused}
use Rattle.wire.specs.declared.units.ByteOffset.{ByteOffset}
use Rattle.wire.specs.declared.units.Cursor.{Cursor}
use Rattle.wire.proofs.Answers.{place, cursor}
use Rattle.info.specs.Entry.{tag_of, payload_of, entry_of, canonical, Held}
use Rattle.info.specs.declared.MastNodeEntry.{MastNodeEntry}
use Rattle.info.proofs.Laws.{encoded_decodes, decoded_encodes, canonical_exactly}
use Rattle.layout.specs.Scan.{Scanned, scan_rules, scan_shown}
use Rattle.layout.specs.Accepted.{EndToEnd, Counted}
use Rattle.layout.specs.declared.facts.FormatFacts.{FormatFacts}
use Rattle.layout.specs.declared.forest.ForestLayout.{ForestLayout}
use Rattle.layout.specs.declared.scan.Scanned.{Scanned as Scan}
use Rattle.layout.proofs.Answers.{scan_one}
use Rattle.resolved.specs.Nodes.{external_node}
use Rattle.resolved.specs.Slots.{slot_of, rows_of, lacks, spent}
use Rattle.resolved.specs.Digests.{section_of, DigestSaid}
use Rattle.resolved.specs.Shown.{shown_digest}
use Rattle.checks.specs.Checks.{ChildrenBelow, NeverFall, AsWritten}
use Rattle.wire.specs.Words.{word_order}
use Rattle.keys.specs.Keys.{seen_key}
use Rattle.advice.specs.Walk.{shown_keys, walked, first_entry, map_rules, key_table, Risen, EntryOf}
use Rattle.advice.specs.Lookup.{element_rules}
use Rattle.advice.specs.declared.walk.Walked.{Walked as MapWalk}
use Rattle.advice.specs.declared.walk.Values.{Values}
use Rattle.advice.specs.declared.lookup.MapLookup.{MapLookup}
use Rattle.advice.specs.declared.table.MapEntry.{MapEntry as EntryRead}
use Rattle.advice.proofs.Answers.{walk_one}
use Rattle.writer.specs.Parts.{Parts, parts_shown}
use Rattle.renderings.specs.Rendering.{Lengths, rendered_file, Lengthened, Valid}
use Rattle.renderings.proofs.Rendered.{rendering_accepted}
use Rattle.promises.proofs.Terms.{one_in}
use Rattle.promises.proofs.Calls.{Decodes, Encodes, Scans, ReadsNode, ReadsRoot, Builds, ByCounting, WithTable, ChecksChildren, ChecksOrder, ChecksStrict, Walks, LooksUp, ReadsKey, ReadsMapEntry, NeedsPlaces}
use Rattle.promises.proofs.Scan as of_scan
use Rattle.promises.proofs.Resolved as of_slots
use Rattle.promises.proofs.Resolved.{ReadsDigest}
use Rattle.promises.proofs.Checks as of_checks
use Rattle.promises.proofs.Advice as of_map

-- ---- the file

-- of an accepted file
pub record AcceptedFile (f : FormatFacts) (s : List ℕ) (l : ForestLayout) : Type 0 where
  -- its sections lie end to end, and its nodes are as many as they say
  pub sections : EndToEnd f s l
  pub counted : Counted f s l
  -- the entry of every node reads, and is that of the file's parts; and so every root, with ROOT-ID exactly if it names no node
  pub entries : (i : ℕ) (x : Result MastNodeEntry (Refused ℕ)) → ReadsNode s l i x → i < l.node_count → x ≡ Ok (entry_of (get_or (parts_shown f s).words i 0))
  pub roots : (i : ℕ) (x : Result ℕ (Refused ℕ)) → ReadsRoot s l i x → i < l.roots_count
      → (get_or (parts_shown f s).roots i 0 < l.node_count → x ≡ Ok (get_or (parts_shown f s).roots i 0)) × (l.node_count ≤ get_or (parts_shown f s).roots i 0 → x ≡ Err (record { why = RootId; at = i }))
  -- the builder fills the table t₀, given room and as many bytes as it asks; and where it fills, each node's slot is in it: the number of earlier
  -- nodes of its kind, External or not, which is below its section's count
  pub fills : (bound : Option ℕ) (t₀ t : List ℕ) (r : Result (Option ℕ) (Refused ℕ)) → Builds s l bound t₀ t r → lacks bound (4 * l.node_count) ≡ false → l.node_count ≤ length t₀
      → r ≡ Ok (spent bound (4 * l.node_count))
  pub slots : (bound left : Option ℕ) (t₀ t : List ℕ) → Builds s l bound t₀ t (Ok left) → (i : ℕ) → i < l.node_count
      → (get_or t i 0 ≡ slot_of (external_node s l) i) × (slot_of (external_node s l) i < rows_of l (external_node s l i))
  -- a digest, by counting or with such a table, is the word of its row, or NO-HASH, or ELEMENT; and it is the same by both ways
  pub digests : (i : ℕ) (x : Result (List ℕ) (Refused ℕ)) → i < l.node_count → ReadsDigest s l i x → DigestSaid s i (slot_of (external_node s l) i) (section_of l (external_node s l i)) (shown_digest x)
  pub agree : (bound left : Option ℕ) (t₀ t : List ℕ) → Builds s l bound t₀ t (Ok left) → (i : ℕ) (x y : Result (List ℕ) (Refused ℕ)) → WithTable s l i t x → ByCounting s l i y → x ≡ y

-- the scan answered r
pub record Demand2File (s : List ℕ) (f : FormatFacts) (allow : Bool) (bound : Option ℕ) (r : Result Scan (Refused ByteOffset)) : Type 0 where
  pub accepts : (l : ForestLayout) (long : ℕ) → (r ≡ Ok (record { layout = l; long_counts = long })) ↔ (NoneMet (scan_rules f s allow bound) × (scan_shown f s allow bound ≡ record { layout = l; long = long }))
  pub refuses : (why : Refusal) (at : ByteOffset) → (r ≡ Err (record { why = why; at = at })) ↔ FirstMet (scan_rules f s allow bound) (number_of why) at.0
  pub file : (l : ForestLayout) (long : ℕ) → r ≡ Ok (record { layout = l; long_counts = long }) → AcceptedFile f s l

pub file_demanded : (s : List ℕ) (f : FormatFacts) (allow : Bool) (bound : Option ℕ) (r : Result Scan (Refused ByteOffset)) → Scans s f allow bound r → Demand2File s f allow bound r
file_demanded s f allow bound r promised =
    record {
      accepts = of_scan.accepts s f allow bound r promised;
      refuses = of_scan.refuses s f allow bound r promised;
      file = λ l long taken.
          record {
            sections = of_scan.sections_end_to_end s f allow bound r promised l long taken;
            counted = of_scan.nodes_counted s f allow bound r promised l long taken;
            entries = of_scan.every_entry s f allow bound r promised l long taken;
            roots = of_scan.every_root s f allow bound r promised l long taken;
            fills = of_slots.slots_fill s f allow bound r promised l long taken;
            slots = λ limit left t₀ t built i h.
                (of_slots.slot_of_each s l limit left t₀ t built i h, of_slots.slot_below_count s f allow bound r promised l long taken i h);
            digests = of_slots.digest_of_each s f allow bound r promised l long taken;
            agree = of_slots.both_ways_agree s l;
          };
    }

-- ---- the map

-- the walk answered r and left the table t, which was t₀
pub record Demand2Map (s : List ℕ) (at : ℕ) (t₀ t : List ℕ) (r : Result MapWalk (Refused ByteOffset)) : Type 0 where
  pub accepts : (n : ℕ) (c : Cursor) (long : ℕ) → (r ≡ Ok (record { entries = n; end = c; long_counts = long })) ↔ (NoneMet (map_rules s at (length t₀)) × (walked s at ≡ record { entries = n; end = c.at.0; long = long }))
  pub refuses : (why : Refusal) (p : ByteOffset) → (r ≡ Err (record { why = why; at = p })) ↔ FirstMet (map_rules s at (length t₀)) (number_of why) p.0
  pub table : t ≡ key_table s at t₀
  -- of an accepted map: the keys of the table's first n offsets are whole and rise
  pub rises : (n : ℕ) (c : Cursor) (long : ℕ) → r ≡ Ok (record { entries = n; end = c; long_counts = long }) → Risen s t n
  -- lookup says absent exactly if no entry has the key; what it finds are the values of the entry that has it; and the key of an entry is found
  -- at that entry's values if they are elements, and else refused with ELEMENT at the first that is none
  pub absent : (n : ℕ) (c : Cursor) (long : ℕ) → r ≡ Ok (record { entries = n; end = c; long_counts = long }) → (key : List ℕ) (x : Result MapLookup (Refused ℕ)) → LooksUp s t n key x
      → ((k : ℕ) × (x ≡ Ok (record { values = None; compared = k }))) ↔ (seen_key (shown_keys s (first_entry s at) n) key ≡ false)
  pub found : (n : ℕ) (c : Cursor) (long : ℕ) → r ≡ Ok (record { entries = n; end = c; long_counts = long }) → (key : List ℕ) (x : Result MapLookup (Refused ℕ)) → LooksUp s t n key x
      → (v : Values) (k : ℕ) → x ≡ Ok (record { values = Some v; compared = k }) → EntryOf s at n key v.at.0 v.len
  pub present : (n : ℕ) (c : Cursor) (long : ℕ) → r ≡ Ok (record { entries = n; end = c; long_counts = long }) → (key : List ℕ) (x : Result MapLookup (Refused ℕ)) → LooksUp s t n key x
      → (from len : ℕ) → EntryOf s at n key from len
      → (NoneMet (element_rules s from len) → (k : ℕ) × (x ≡ Ok (record { values = Some (record { at = place from; len = len }); compared = k })))
      × ((p : ℕ) → FirstMet (element_rules s from len) ELEMENT p → x ≡ Err (record { why = Element; at = p }))
  -- each of the table's first n places gives a key, and an entry, that is one of the map's; each of the map's has its place; keys rise with their places
  pub keys : (n : ℕ) (c : Cursor) (long : ℕ) → r ≡ Ok (record { entries = n; end = c; long_counts = long }) → (i : ℕ) → i < n → (x : Result (List ℕ) (Refused ℕ)) → ReadsKey s t i x
      → (word : List ℕ) × ((x ≡ Ok word) × ((from : ℕ) × ((len : ℕ) × EntryOf s at n word from len)))
  pub entries : (n : ℕ) (c : Cursor) (long : ℕ) → r ≡ Ok (record { entries = n; end = c; long_counts = long }) → (i : ℕ) → i < n → (x : Result EntryRead (Refused ℕ)) → ReadsMapEntry s t i x
      → (e : EntryRead) × ((x ≡ Ok e) × EntryOf s at n e.key e.values.at.0 e.values.len)
  pub placed : (n : ℕ) (c : Cursor) (long : ℕ) → r ≡ Ok (record { entries = n; end = c; long_counts = long }) → (key : List ℕ) (from len : ℕ) → EntryOf s at n key from len
      → (i : ℕ) × ((i < n) × ((x : Result EntryRead (Refused ℕ)) → ReadsMapEntry s t i x → x ≡ Ok (record { key = key; values = record { at = place from; len = len } })))
  pub rising : (n : ℕ) (c : Cursor) (long : ℕ) → r ≡ Ok (record { entries = n; end = c; long_counts = long }) → (i j : ℕ) (a b : List ℕ) → ReadsKey s t i (Ok a) → ReadsKey s t j (Ok b) → i < j → j < n → word_order a b ≡ Less
  -- and whatever it answered: with k places or more it does not say ROOM, where k places are enough
  pub room : (k : ℕ) → NeedsPlaces s at k → k ≤ length t₀ → (p : ByteOffset) → r ≡ Err (record { why = Room; at = p }) → ⊥

pub map_demanded : (s : List ℕ) (at : ℕ) (t₀ t : List ℕ) (r : Result MapWalk (Refused ByteOffset)) → Walks s at t₀ t r → Demand2Map s at t₀ t r
map_demanded s at t₀ t r promised =
    record {
      accepts = of_map.accepts s at t₀ t r promised;
      refuses = of_map.refuses s at t₀ t r promised;
      table = promised.table;
      rises = of_map.keys_risen s at t₀ t r promised;
      absent = of_map.absent_if_none s at t₀ t r promised;
      found = of_map.found_values s at t₀ t r promised;
      present = of_map.entry_found s at t₀ t r promised;
      keys = of_map.key_there s at t₀ t r promised;
      entries = of_map.entry_there s at t₀ t r promised;
      placed = of_map.entry_placed s at t₀ t r promised;
      rising = of_map.keys_rise s at t₀ t r promised;
      room = of_map.room_enough s at t₀ t r promised;
    }

-- ---- the entries

-- what is written reads back; what was read is written in the word's canonical form, which is the word exactly if its tag is below 6 or its
-- payload is zero. The numbers of an entry are of 32 bits (`Held`).
pub record Demand2Entries : Type 0 where
  pub back : (e : MastNodeEntry) (w : ℕ) (r : Result MastNodeEntry (Refused ByteOffset)) → Held e → Encodes e (Ok w) → Decodes w r → r ≡ Ok e
  pub again : (w : ℕ) (e : MastNodeEntry) (r : Result ℕ (Refused ByteOffset)) → Decodes w (Ok e) → Encodes e r → r ≡ Ok (canonical w)
  pub exactly : (w : ℕ) (e : MastNodeEntry) → Decodes w (Ok e) → Encodes e (Ok w) ↔ ((tag_of w < 6) ⊎ (payload_of w ≡ 0))

pub entries_demanded : Demand2Entries
entries_demanded =
    record {
      back = λ e w r held written read. one_in _ r (Ok e) read (sym (encoded_decodes 0 e w held (sym written)));
      again = λ w e r read written. one_in _ r (Ok (canonical w)) written (sym (decoded_encodes 0 w e (sym read)));
      exactly = λ w e read. let law = canonical_exactly 0 w e (sym read) in (λ said. law.0 (sym said), λ h. sym (law.1 h));
    }

-- ---- the checks, of any record

pub record Demand2Checks (s : List ℕ) (l : ForestLayout) (r : Result (Unit {0}) (Refused ℕ)) : Type 0 where
  pub children : ChecksChildren s l r → (r ≡ Ok tt) ↔ ChildrenBelow s l l.node_count
  pub order : ChecksOrder s l r → (r ≡ Ok tt) ↔ NeverFall s l l.node_count
  pub strict : ChecksStrict s l r → (r ≡ Ok tt) ↔ AsWritten s l l.node_count

pub checks_demanded : (s : List ℕ) (l : ForestLayout) (r : Result (Unit {0}) (Refused ℕ)) → Demand2Checks s l r
checks_demanded s l r = record { children = of_checks.children_exactly s l r; order = of_checks.order_exactly s l r; strict = of_checks.strict_exactly s l r }

-- ---- there are accepted files: the rendering of valid parts p, each count in a length l that it has a form of, whatever bytes follow

-- the scan accepts it, and nothing else; the walk over so many key places accepts its map, to its end; and it shows those parts
pub record MustTake (f : FormatFacts) (places : ℕ) (s : List ℕ) (p : Parts) (end : ℕ) : Type 0 where
  pub scans : (r : Result Scan (Refused ByteOffset)) → Scans s f true None r → (l : ForestLayout) × ((long : ℕ) × (r ≡ Ok (record { layout = l; long_counts = long })))
  pub walks : (l : ForestLayout) (long : ℕ) → Scans s f true None (Ok (record { layout = l; long_counts = long })) → (t₀ t : List ℕ) (r : Result MapWalk (Refused ByteOffset)) → length t₀ ≡ places
      → Walks s l.advice_map_offset.0 t₀ t r → (more : ℕ) × (r ≡ Ok (record { entries = length p.lengths; end = cursor end; long_counts = more }))
  pub shows : (r : Result Scan (Refused ByteOffset)) → Scans s f true None r → parts_shown f s ≡ p

pub rendering_demanded : (f : FormatFacts) (places : ℕ) (p : Parts) (l : Lengths) (rest : List ℕ) → Valid f places p → Lengthened p l
    → MustTake f places (rendered_file f p l ++ rest) p (length (rendered_file f p l))
rendering_demanded f places p l rest valid long =
    record {
      scans = λ r said.
          let t = (rendering_accepted f said.given.proper places p l rest valid long).taken in
          (t.layout, (t.scan_long, scan_one _ r (Ok _) said.answer (sym t.scanned)));
      walks = λ k n said t₀ t r enough walks.
          let x = (rendering_accepted f said.given.proper places p l rest valid long).taken in
          let same : x.layout ≡ k = ap (λ (y : Scanned). y.layout) (one (sym x.scanned ∙ sym said.answer)) in (
            x.walk_long,
            walk_one _ r (Ok _) (rw enough at walks.answer) (sym (rw same at x.walked)),
          );
      shows = λ r said. (rendering_accepted f said.given.proper places p l rest valid long).parts;
    }
  where
    one : {a b : Scanned} → ◌≡◌ (accepted a) (accepted b) → a ≡ b
    one e = cc
