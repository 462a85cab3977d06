-- The parts of a file: what the writer takes, and what a file shows that scan and walk accept.
use Rattle.std.specs.Prelude.{ℕ, ◌≡◌, List, [], ◌∷◌, ◌++◌, map}
use Rattle.std.proofs.Math.Seq.{slice}
use Rattle.wire.specs.Rows.{numbers_of}
use Rattle.wire.specs.Counts.{shortest_len}
use Rattle.wire.specs.declared.count.Count.{Count}
use Rattle.info.specs.Entry.{entry_of}
use Rattle.info.specs.declared.MastNodeEntry.{MastNodeEntry}
use Rattle.layout.specs.Scan.{flags_of, roots, root_rows, blocks_at, block_data, entries_at, digests_at, hashes_at, map_at, words, head_counts}
use Rattle.layout.specs.declared.facts.FormatFacts.{FormatFacts}
use Rattle.advice.specs.Walk.{Advice, walk_shown, walk_end, entry_count, first_entry, map_counts}

-- the flags; the roots; the block bytes; the entry words; the bytes of the external digests and of the hashes; four numbers a key; the length
-- of each key's values; the values, one key's after the other's
pub record Parts : Type 0 where
  pub flags : ℕ
  pub roots : List ℕ
  pub blocks : List ℕ
  pub words : List ℕ
  pub external : List ℕ
  pub hashes : List ℕ
  pub keys : List ℕ
  pub lengths : List ℕ
  pub values : List ℕ

-- ---- the same parts: entries are compared as read

pub record PartsRead : Type 0 where
  pub flags : ℕ
  pub roots : List ℕ
  pub blocks : List ℕ
  pub entries : List MastNodeEntry
  pub external : List ℕ
  pub hashes : List ℕ
  pub keys : List ℕ
  pub lengths : List ℕ
  pub values : List ℕ

abbrev pub as_read : Parts → PartsRead
as_read p =
    record {
      flags = p.flags;
      roots = p.roots;
      blocks = p.blocks;
      entries = map entry_of p.words;
      external = p.external;
      hashes = p.hashes;
      keys = p.keys;
      lengths = p.lengths;
      values = p.values;
    }

abbrev pub SameParts : Parts → Parts → Type 0
SameParts p q = as_read p ≡ as_read q

-- ---- what an accepted file shows

-- one list after the other
unfoldable pub joined : List (List ℕ) → List ℕ
joined [] = []
joined (l ∷ ls) = l ++ joined ls

module _ (f : FormatFacts) (s : List ℕ) where
  -- the entries of the map, in their order
  abbrev pub advice : List Advice
  advice = walk_shown s (first_entry s (map_at f s)) (entry_count s (map_at f s)).value

  unfoldable pub parts_shown : Parts
  parts_shown =
      record {
        flags = flags_of f s;
        roots = numbers_of 4 (roots f s).value (slice (root_rows f s) (blocks_at f s) s);
        blocks = slice (block_data f s) (entries_at f s) s;
        words = words f s;
        external = slice (digests_at f s) (hashes_at f s) s;
        hashes = slice (hashes_at f s) (map_at f s) s;
        keys = joined (map (λ (a : Advice). a.key) advice);
        lengths = map (λ (a : Advice). a.size.value) advice;
        values = joined (map (λ (a : Advice). a.values) advice);
      }

  -- where its map ends
  unfoldable pub file_end : ℕ
  file_end = walk_end s (first_entry s (map_at f s)) (entry_count s (map_at f s)).value

  -- its counts, in the file's order
  unfoldable pub file_counts : List Count
  file_counts = head_counts f s ++ map_counts s (map_at f s)

-- each count has its shortest form
abbrev pub EachShortest : List Count → Type 0
EachShortest [] = Unit {0}
EachShortest (c ∷ cs) = (c.len ≡ shortest_len c.value) × EachShortest cs
