-- The value that parts and lengths make: its form is the rendering; the writer's file is the form of the value with each count shortest and
-- each entry in its written form; and that is what a file with these parts becomes when it is trimmed.
-- Assumes nothing.
use mathlib.Core.Path.{◌≡◌, refl, ap, sym, ◌∙◌}
use mathlib.Core.List.{List, [], ◌∷◌, ◌++◌, map, append_assoc}
use mathlib.Core.Logic.{◌↔◌}
use Prim.Native.Nat.{ℕ, ◌+◌, ◌≤◌}
use native.Mathlib.Omega.{arith}
use borrow.Author.Tests.{eqb-true, not-false}
use lib.ListN.{length, length-map}
use Rattle.wire.specs.Rows.{rows}
use Rattle.wire.specs.Counts.{count_of, count_bytes}
use Rattle.info.specs.Entry.{entry_of}
use Rattle.layout.specs.Scan.{externals}
use Rattle.layout.specs.declared.facts.FormatFacts.{FormatFacts}
use Rattle.writer.specs.Parts.{Parts, PartsRead, SameParts, EachShortest}
use Rattle.writer.specs.Writer.{internals, written, head_bytes, root_bytes, block_bytes, node_bytes, map_bytes, written_file}
use Rattle.layout.specs.Given.{Proper}
use Rattle.renderings.specs.Rendering.{Lengths, shortest, rendered_file}
use Rattle.renderings.proofs.Entries.{written_read, same_externals, same_written}
use Rattle.renderings.proofs.File.{File, body, file, flag_of, internal_of, external_of, root_count_of, roots_of, block_count_of, sections_of, words_of, entry_count_of, entries_of}
use Rattle.renderings.proofs.Shown.{key_of, length_of, values_of, parts_of, counts_of, lengths_of}
use Rattle.renderings.proofs.Map.{entries_from, short_forms, entries_form, Joined, good_joined, kept, entries_few, more_places}

-- ---- the value of parts, with these words, and lengths

abbrev pub value_of : Parts → List ℕ → Lengths → File
value_of p words l = (
  (
    (tt, (p.flags, tt)),
    (
      count_of l.internal (internals p.words),
      (
        count_of l.external (externals p.words),
        (
          count_of l.roots (length p.roots),
          (p.roots, (count_of l.blocks (length p.blocks), (p.blocks, (words, (p.external, p.hashes))))),
        ),
      ),
    ),
  ),
  (count_of l.entries (length p.lengths), entries_from p.keys p.lengths l.sizes p.values),
)

-- what the writer makes of parts
abbrev pub file_of : Parts → File
file_of p = value_of p (written p.words) (shortest p)

-- it depends only on the parts as read
pub same_file : (p q : Parts) → SameParts p q → file_of p ≡ file_of q
same_file p q same =
    let words : map entry_of p.words ≡ map entry_of q.words = ap (λ (r : PartsRead). r.entries) same in
    let nodes : length p.words ≡ length q.words = sym (length-map p.words entry_of) ∙ ap length words ∙ length-map q.words entry_of in
    rw (
      nodes,
      same_externals p.words q.words words,
      same_written p.words q.words words,
      ap (λ (r : PartsRead). r.flags) same,
      ap (λ (r : PartsRead). r.roots) same,
      ap (λ (r : PartsRead). r.blocks) same,
      ap (λ (r : PartsRead). r.external) same,
      ap (λ (r : PartsRead). r.hashes) same,
      ap (λ (r : PartsRead). r.keys) same,
      ap (λ (r : PartsRead). r.lengths) same,
      ap (λ (r : PartsRead). r.values) same,
    )

-- ---- the file

-- the writer's groups of sections, one after the other
regroup : (h i e r rs b bs w x n m : List ℕ)
    → (h ++ (i ++ (e ++ (r ++ (rs ++ (b ++ (bs ++ (w ++ (x ++ n))))))))) ++ m
    ≡ ((h ++ (i ++ e)) ++ ((r ++ rs) ++ (b ++ bs))) ++ ((w ++ (x ++ n)) ++ m)
regroup h i e r rs b bs w x n m = simp append_assoc

module _ (f : FormatFacts) (k : Proper f) (places : ℕ) where
  pub rendered_form : (p : Parts) (l : Lengths) → (file f k places).form (value_of p p.words l) ≡ rendered_file f p l
  unfolding rendered_file
  rendered_form p l = rw entries_form

  pub written_form : (p : Parts) → (file f k places).form (file_of p) ≡ written_file f p
  unfolding written_file head_bytes root_bytes block_bytes node_bytes map_bytes
  written_form p =
      rw (entries_form, short_forms)
      (regroup (f.magic ++ ((p.flags ∷ []) ++ f.version)) (count_bytes (internals p.words)) (count_bytes (externals p.words))
      (count_bytes (length p.roots)) (rows 4 p.roots) (count_bytes (length p.blocks)) p.blocks
      (rows 8 (written p.words)) p.external p.hashes (map_bytes p))

  module _ (v : File) (good : (file f k places).Good v) where
    abbrev body_good : (body f (flag_of v) (internal_of v).value (external_of v).value).Good v.0.1.1.1
    body_good = good.0.1.1.1

    -- what the counts say of the parts
    pub externals_said : externals (words_of v) ≡ (external_of v).value
    externals_said = eqb-true _ _ (not-false _ body_good.1.1.1.1.1)

    pub words_said : length (words_of v) ≡ (internal_of v).value + (external_of v).value
    words_said = body_good.1.1.1.0.1.0.0

    pub internals_said : internals (words_of v) ≡ (internal_of v).value
    internals_said = omega (arith, externals_said, words_said)

    pub roots_said : length (roots_of v) ≡ (root_count_of v).value
    roots_said = body_good.1.0.0

    pub blocks_said : length (sections_of v).0 ≡ (block_count_of v).value
    blocks_said = body_good.1.1.1.0.0.0

    pub joined_said : Joined places (entry_count_of v).value [] (entries_of v)
    joined_said = good_joined places (entry_count_of v).value [] (entries_of v) good.1.1

    -- a file is the value of its parts and lengths
    pub whole_file : value_of (parts_of v) (words_of v) (lengths_of v) ≡ v
    whole_file =
        rw (
          internals_said,
          externals_said,
          roots_said,
          blocks_said,
          joined_said.counted,
          joined_said.whole,
          ← good.0.1.0.1,
          ← good.0.1.1.0.0.1,
          ← body_good.0.0.1,
          ← body_good.1.1.0.0.1,
          ← good.1.0.1,
        )

    -- trimmed, it is what the writer makes of its parts
    pub trimmed_file : (file f k places).trim v ≡ file_of (parts_of v)
    trimmed_file = rw (internals_said, externals_said, roots_said, blocks_said, joined_said.counted, joined_said.trimmed)

    -- a trimmed file shows the same parts, entries as read
    pub trimmed_parts : SameParts (parts_of ((file f k places).trim v)) (parts_of v)
    trimmed_parts =
        let n = (entry_count_of v).value in
        rw (
          written_read (words_of v) body_good.1.1.1.1.0,
          kept places key_of (λ e. refl) n [] (entries_of v),
          kept places length_of (λ e. refl) n [] (entries_of v),
          kept places values_of (λ e. refl) n [] (entries_of v),
        )

    -- and its counts are shortest one by one
    pub tight_file : (file f k places).Tight v ↔ EachShortest (counts_of v)
    tight_file =
        let e = joined_said.tight in (
          λ t. (t.0.1.0, (t.0.1.1.0, (t.0.1.1.1.0, (t.0.1.1.1.1.1.0, (t.1.0, e.0 t.1.1))))),
          λ t. (((tt, (tt, tt)), (t.0, (t.1.0, (t.1.1.0, (tt, (t.1.1.1.0, (tt, (tt, (tt, tt))))))))), (t.1.1.1.1.0, e.1 t.1.1.1.1.1)),
        )

    -- it has places for its entries, and is as good with others
    pub file_few : (entry_count_of v).value ≤ places
    file_few = omega (arith, entries_few places (entry_count_of v).value [] (entries_of v) (omega arith) good.1.1)

    pub file_more : (q : ℕ) → (entry_count_of v).value ≤ q → (file f k q).Good v
    file_more q h = (good.0, (good.1.0, more_places places q (entry_count_of v).value [] (entries_of v) (omega arith) good.1.1))
