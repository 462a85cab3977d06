-- Renderings: the file of some parts with each count in a given length; and which parts and lengths a file can have.
use Rattle.std.specs.Prelude.{ℕ, ◌+◌, ◌*◌, ◌^◌, ◌≤◌, ◌<◌, ◌≡◌, true, false, List, [], ◌∷◌, ◌++◌, map, length, take, drop, None}
use Rattle.wire.specs.Table.{Rule, accepted, NoneMet}
use Rattle.wire.specs.Le.{Bytes}
use Rattle.wire.specs.Rows.{rows, Below}
use Rattle.wire.specs.Counts.{Form, count_form, shortest_len}
use Rattle.layout.specs.Facts.{share, bad_format, hash_bytes}
use Rattle.layout.specs.Scan.{words_rules, externals, internal, external, roots, blocks, map_at, scan_rules, scan_outcome}
use Rattle.layout.specs.declared.facts.FormatFacts.{FormatFacts}
use Rattle.layout.specs.declared.forest.ForestLayout.{ForestLayout}
use Rattle.advice.specs.Walk.{Advice, entry_count, map_rules, walk_outcome}
use Rattle.writer.specs.Parts.{Parts, advice, parts_shown, file_end}
use Rattle.writer.specs.Writer.{internals, written, sum, key_rules}

-- what is said of a map: the number of its entries, and its end
pub record Ends : Type 0 where
  pub entries : ℕ
  pub end : ℕ

-- The scan, with hashless files allowed and no bound, accepts s; and the walk from the offset that it gives, over so many key places, accepts
-- with the number of entries and the end w. Each says how many counts are long.
pub record Taken (f : FormatFacts) (places : ℕ) (s : List ℕ) (w : Ends) : Type 0 where
  pub layout : ForestLayout
  pub scan_long : ℕ
  pub walk_long : ℕ
  pub scanned : scan_outcome f s true None ≡ accepted (record { layout = layout; long = scan_long })
  pub walked : walk_outcome places s layout.advice_map_offset.0 ≡ accepted (record { entries = w.entries; end = w.end; long = walk_long })

-- no rule of this table is met exactly if they accept
abbrev pub file_rules : FormatFacts → ℕ → List ℕ → List Rule
file_rules f places s = scan_rules f s true None ++ map_rules s (map_at f s) places

-- ---- parts under lengths

-- the length in bytes of each count: of the internal and the external nodes, the roots, the block bytes, the map's entries; and of each entry
-- the length of its values' count
pub record Lengths : Type 0 where
  pub internal : ℕ
  pub external : ℕ
  pub roots : ℕ
  pub blocks : ℕ
  pub entries : ℕ
  pub sizes : List ℕ

-- those that a file shows
abbrev pub lengths_shown : FormatFacts → List ℕ → Lengths
lengths_shown f s =
    record {
      internal = (internal f s).len;
      external = (external f s).len;
      roots = (roots f s).len;
      blocks = (blocks f s).len;
      entries = (entry_count s (map_at f s)).len;
      sizes = map (λ (a : Advice). a.size.len) (advice f s);
    }

-- each shortest
abbrev pub shortest : Parts → Lengths
shortest p =
    record {
      internal = shortest_len (internals p.words);
      external = shortest_len (externals p.words);
      roots = shortest_len (length p.roots);
      blocks = shortest_len (length p.blocks);
      entries = shortest_len (length p.lengths);
      sizes = map shortest_len p.lengths;
    }

-- the map's entries: for each length n, in l bytes, four numbers of the keys, the length, and that many values
unfoldable pub advice_forms : List ℕ → List ℕ → List ℕ → List ℕ → List ℕ
advice_forms keys [] ls values = []
advice_forms keys (n ∷ ns) [] values = []
advice_forms keys (n ∷ ns) (l ∷ ls) values =
    (rows 8 (take 4 keys) ++ (count_form l n ++ rows 8 (take n values))) ++ advice_forms (drop 4 keys) ns ls (drop n values)

-- the file: what the scan reads, and then the map
unfoldable pub rendered_file : FormatFacts → Parts → Lengths → List ℕ
rendered_file f p l =
    ((f.magic ++ ((p.flags ∷ []) ++ f.version))
    ++ (count_form l.internal (internals p.words)
    ++ (count_form l.external (externals p.words)
    ++ (count_form l.roots (length p.roots)
    ++ (rows 4 p.roots
    ++ (count_form l.blocks (length p.blocks)
    ++ (p.blocks
    ++ (rows 8 p.words
    ++ (p.external
    ++ p.hashes)))))))))
    ++ (count_form l.entries (length p.lengths) ++ advice_forms p.keys p.lengths l.sizes p.values)

-- the parts with each entry word in its written form
abbrev pub as_written : Parts → Parts
as_written p =
    record {
      flags = p.flags;
      roots = p.roots;
      blocks = p.blocks;
      words = written p.words;
      external = p.external;
      hashes = p.hashes;
      keys = p.keys;
      lengths = p.lengths;
      values = p.values;
    }

-- ---- which parts and lengths

-- each number has a form of the length beside it, and there are as many of both
abbrev pub Forms : List ℕ → List ℕ → Type 0
Forms [] [] = Unit {0}
Forms [] (n ∷ ns) = ⊥
Forms (l ∷ ls) [] = ⊥
Forms (l ∷ ls) (n ∷ ns) = Form l n × Forms ls ns

-- each count has a form of its length
pub record Lengthened (p : Parts) (l : Lengths) : Type 0 where
  pub internal : Form l.internal (internals p.words)
  pub external : Form l.external (externals p.words)
  pub roots : Form l.roots (length p.roots)
  pub blocks : Form l.blocks (length p.blocks)
  pub entries : Form l.entries (length p.lengths)
  pub sizes : Forms l.sizes p.lengths

-- the parts of a file, of a format and for so many key places
pub record Valid (f : FormatFacts) (places : ℕ) (p : Parts) : Type 0 where
  pub format : bad_format f ≡ false
  -- each number fits its bytes
  pub flags_fit : p.flags < 256
  pub roots_fit : Below (2 ^ 32) p.roots
  pub blocks_fit : Bytes p.blocks
  pub words_fit : Below (2 ^ 64) p.words
  pub external_fit : Bytes p.external
  pub hashes_fit : Bytes p.hashes
  pub keys_fit : Below (2 ^ 64) p.keys
  pub values_fit : Below (2 ^ 64) p.values
  -- no reserved flag; not too many nodes; every word an entry; every key of elements, and none twice
  pub reserved : share p.flags f.reserved ≡ false
  pub nodes : length p.words ≤ f.max_nodes
  pub entries : NoneMet (words_rules 1 0 p.words)
  pub tested : NoneMet (key_rules 0 [] p.keys p.lengths)
  pub few : length p.lengths ≤ places
  -- the parts are as long as they must be
  pub external : length p.external ≡ 32 * externals p.words
  pub hashes : length p.hashes ≡ hash_bytes (share p.flags f.hashless) (internals p.words)
  pub keys : length p.keys ≡ 4 * length p.lengths
  pub values : length p.values ≡ sum p.lengths
  -- and not longer than 64 bits can say
  pub root_bytes : 4 * length p.roots < 2 ^ 64
  pub section_bytes : length p.blocks + (8 * length p.words + (length p.external + length p.hashes)) < 2 ^ 64
  pub value_bytes : Below (2 ^ 61) p.lengths

-- ---- a file and its rendering

-- s is, up to where its map ends, the rendering of its parts under the lengths l
pub record Rendering (f : FormatFacts) (places : ℕ) (s : List ℕ) (l : Lengths) : Type 0 where
  pub valid : Valid f places (parts_shown f s)
  pub lengthened : Lengthened (parts_shown f s) l
  pub whole : file_end f s ≤ length s
  pub bytes : take (file_end f s) s ≡ rendered_file f (parts_shown f s) l
