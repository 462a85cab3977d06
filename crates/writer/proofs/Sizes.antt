-- The file by its sections, and its size by its parts. Assumes nothing.
use mathlib.Core.Path.{◌≡◌}
use mathlib.Core.List.{List, [], ◌∷◌, ◌++◌, map, append_assoc}
use Prim.Native.Nat.{ℕ, ◌-◌, ◌≤◌}
use native.Mathlib.Omega.{arith}
use lib.ListN.{length, length-append}
use Rattle.wire.specs.Rows.{rows}
use Rattle.wire.specs.Counts.{count_bytes}
use Rattle.wire.proofs.Leaves.{length-rows}
use Rattle.info.specs.Entry.{canonical}
use Rattle.layout.specs.declared.facts.FormatFacts.{FormatFacts}
use Rattle.writer.specs.Parts.{Parts}
use Rattle.writer.specs.Writer.{advice_bytes, head_bytes, root_bytes, block_bytes, node_bytes, map_bytes, written_file}
use Rattle.writer.specs.Inner.{file_size, Fitting, Numbered}
use Rattle.writer.proofs.Counted.{length-count}
use Rattle.writer.proofs.Entries.{length-advice}
use Rattle.writer.proofs.Rows.{length_mapped}
use Rattle.writer.proofs.Words.{externals_few, words_written}

module _ (f : FormatFacts) (p : Parts) (x : ℕ) (fit : Fitting p x) where
  -- the externals are among the nodes
  pub few : x ≤ length p.words
  few = rw fit.external (externals_few p.words)

  abbrev head : List ℕ
  head = (f.magic ++ ((p.flags ∷ []) ++ f.version)) ++ (count_bytes (length p.words - x) ++ count_bytes x)

  abbrev nodes : List ℕ
  nodes = rows 8 (map canonical p.words) ++ (p.external ++ p.hashes)

  -- one section after the other, as the code writes them
  pub as_written_lem : head ++ ((count_bytes (length p.roots) ++ rows 4 p.roots) ++ ((count_bytes (length p.blocks) ++ p.blocks)
      ++ (nodes ++ (count_bytes (length p.lengths) ++ advice_bytes p.keys p.lengths p.values)))) ≡ written_file f p
  unfolding written_file head_bytes root_bytes block_bytes node_bytes map_bytes
  as_written_lem = rw (← fit.external, words_written 0 p.words fit.words) (simp append_assoc)

  pub length-file : length f.magic ≡ 4 → length f.version ≡ 3 → Numbered p → length (written_file f p) ≡ file_size 8 p x
  length-file magic version numbered =
      let internal = length-count (length p.words - x) (omega (arith, numbered.words)) in
      let external = length-count x (omega (arith, few, numbered.words)) in
      let roots = length-count (length p.roots) numbered.roots in
      let blocks = length-count (length p.blocks) numbered.blocks in
      let entries = length-count (length p.lengths) numbered.lengths in
      let advice = length-advice p.keys p.lengths p.values numbered.sizes fit.keys fit.values in
      rw (← as_written_lem) (simp length-append (omega (arith, internal, external, roots, blocks, entries, advice, length-rows 4 p.roots, length_mapped 8 canonical p.words)))
