-- The scan's table and the walk's are the file piece's rules; the end, the parts and the counts that a file shows are those of the piece's value.
-- Assumes nothing.
use mathlib.Core.Path.{◌≡◌}
use mathlib.Core.List.{List, ◌∷◌, map}
use Prim.Native.Nat.{ℕ}
use Rattle.wire.specs.declared.count.Count.{Count}
use Rattle.layout.specs.Scan.{map_at, scan_rules}
use Rattle.layout.specs.declared.facts.FormatFacts.{FormatFacts}
use Rattle.advice.specs.Walk.{Advice}
use Rattle.advice.proofs.Pieces.{Entry, map_rules_lem, map_end, map_shown}
use Rattle.writer.specs.Parts.{Parts, joined, parts_shown, file_end, file_counts}
use Rattle.layout.specs.Given.{Proper}
use Rattle.renderings.specs.Rendering.{file_rules, Lengths, lengths_shown}
use Rattle.renderings.proofs.File.{File, file, flag_of, internal_of, external_of, root_count_of, roots_of, block_count_of, sections_of, words_of, entry_count_of, entries_of}

abbrev pub key_of : Entry → List ℕ
key_of e = e.0

abbrev pub size_of : Entry → Count
size_of e = e.1.0

abbrev pub length_of : Entry → ℕ
length_of e = e.1.0.value

abbrev pub len_of : Entry → ℕ
len_of e = e.1.0.len

abbrev pub values_of : Entry → List ℕ
values_of e = e.1.1

abbrev pub parts_of : File → Parts
parts_of v =
    record {
      flags = flag_of v;
      roots = roots_of v;
      blocks = (sections_of v).0;
      words = words_of v;
      external = (sections_of v).1.1.0;
      hashes = (sections_of v).1.1.1;
      keys = joined (map key_of (entries_of v));
      lengths = map length_of (entries_of v);
      values = joined (map values_of (entries_of v));
    }

abbrev pub counts_of : File → List Count
counts_of v = internal_of v ∷ external_of v ∷ root_count_of v ∷ block_count_of v ∷ entry_count_of v ∷ map size_of (entries_of v)

abbrev pub lengths_of : File → Lengths
lengths_of v =
    record {
      internal = (internal_of v).len;
      external = (external_of v).len;
      roots = (root_count_of v).len;
      blocks = (block_count_of v).len;
      entries = (entry_count_of v).len;
      sizes = map len_of (entries_of v);
    }

module _ (f : FormatFacts) (k : Proper f) (places : ℕ) (s : List ℕ) where
  pub rules_same : file_rules f places s ≡ (file f k places).rules s 0
  unfolding scan_rules
  rules_same = rw (map_rules_lem places s)

  pub end_same : file_end f s ≡ (file f k places).next s 0
  unfolding file_end
  end_same = map_end places s (map_at f s)

  pub parts_same : parts_shown f s ≡ parts_of ((file f k places).value s 0)
  unfolding parts_shown
  parts_same =
      rw (
        map_shown places s (map_at f s) (λ (a : Advice). a.key),
        map_shown places s (map_at f s) (λ (a : Advice). a.size.value),
        map_shown places s (map_at f s) (λ (a : Advice). a.values),
      )

  pub counts_same : file_counts f s ≡ counts_of ((file f k places).value s 0)
  unfolding file_counts
  counts_same = rw (map_shown places s (map_at f s) (λ (a : Advice). a.size))

  pub lengths_same : lengths_shown f s ≡ lengths_of ((file f k places).value s 0)
  lengths_same = rw (map_shown places s (map_at f s) (λ (a : Advice). a.size.len))
