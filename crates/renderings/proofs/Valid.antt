-- The parts of a good value are valid, and each of its counts has a form of its length; and what valid parts and such lengths make is a good
-- value, with those parts and lengths. The writer refuses no valid parts, and its file is one of their renderings.
-- Assumes nothing.
use mathlib.Core.Path.{◌≡◌, refl, sym, ap, ◌∙◌}
use mathlib.Core.List.{[]}
use mathlib.Core.Bool.{Bool, true, false, not, ◌&&◌}
use Prim.Native.Nat.{ℕ, ◌+◌, ◌-◌, ◌*◌, ◌^◌, ◌≤◌, ◌<◌}
use native.Mathlib.Omega.{arith}
use borrow.Author.Tests.{ltb-false, le-ltb, eq-eqb}
use lib.Dec.{ltb, eqb}
use lib.ListN.{length}
use Rattle.wire.specs.Table.{NoneMet}
use Rattle.wire.specs.Le.{over}
use Rattle.wire.proofs.Tables.{none_append}
use Rattle.wire.proofs.Piece.{◌▸◌}
use Rattle.layout.specs.Facts.{share, over_budget, hash_bytes}
use Rattle.layout.specs.Scan.{words_rules, externals}
use Rattle.layout.specs.declared.facts.FormatFacts.{FormatFacts}
use Rattle.writer.specs.Parts.{Parts}
use Rattle.writer.specs.Writer.{internals, written, written_file, key_rules, writer_rules}
use Rattle.layout.specs.Given.{Proper}
use Rattle.writer.proofs.Words.{externals_few}
use Rattle.renderings.specs.Rendering.{Lengths, shortest, rendered_file, as_written, Lengthened, Valid}
use Rattle.renderings.proofs.Entries.{entries_mean, written_read, length-written, same_externals}
use Rattle.renderings.proofs.File.{File, file, flag_of, internal_of, external_of, root_count_of, block_count_of, words_of}
use Rattle.renderings.proofs.Shown.{parts_of, lengths_of}
use Rattle.renderings.proofs.Map.{from_back, joined_good}
use Rattle.renderings.proofs.Written.{value_of, file_of, rendered_form, written_form, externals_said, words_said, internals_said, roots_said, blocks_said, joined_said, file_few}

-- ---- a good value's parts and lengths

module _ (f : FormatFacts) (k : Proper f) (places : ℕ) (v : File) (good : (file f k places).Good v) where
  pub good_valid : Valid f places (parts_of v)
  good_valid =
      let head = good.0.0 in
      let b = good.0.1.1.1 in
      let c = b.1.1.1 in
      let j = joined_said f k places v good in
      let e = externals_said f k places v good in
      let w = words_said f k places v good in
      let digests = c.0.1.1.0.0 in
      let hashes = c.0.1.1.1.0 in
      let i = (internal_of v).value in
      let x = (external_of v).value in
      let sum = (block_count_of v).value + (8 * (i + x) + (32 * x + hash_bytes (share (flag_of v) f.hashless) i)) in
      let most : i + x ≤ f.max_nodes = ltb-false _ _ good.0.1.1.0.1.1.0 in
      let roots : 4 * (root_count_of v).value ≤ 2 ^ 64 - 1 = ltb-false _ _ b.0.1.1.0 in
      let sections : sum ≤ 2 ^ 64 - 1 = ltb-false _ _ b.1.1.0.1.0 in
      record {
        format = head.0.0;
        flags_fit = head.1.0.1.0;
        roots_fit = b.1.0.1;
        blocks_fit = c.0.0.1;
        words_fit = c.0.1.0.1;
        external_fit = c.0.1.1.0.1;
        hashes_fit = c.0.1.1.1.1;
        keys_fit = j.keys_fit;
        values_fit = j.values_fit;
        reserved = head.1.1.0;
        nodes = omega arith;
        entries = (entries_mean 1 0 (words_of v)).1 c.1.0;
        tested = j.tested 0;
        few = rw j.counted (file_few f k places v good);
        external = digests ∙ ap (λ (n : ℕ). 32 * n) (sym e);
        hashes = hashes ∙ ap (hash_bytes (share (flag_of v) f.hashless)) (sym (internals_said f k places v good));
        keys = j.keys;
        values = j.values;
        root_bytes = omega (arith, roots_said f k places v good);
        section_bytes = omega (arith, blocks_said f k places v good);
        value_bytes = j.value_bytes;
      }

  pub good_lengthened : Lengthened (parts_of v) (lengths_of v)
  good_lengthened =
      let b = good.0.1.1.1 in
      let j = joined_said f k places v good in
      record {
        internal = rw (internals_said f k places v good) good.0.1.0.0;
        external = rw (externals_said f k places v good) good.0.1.1.0.0.0;
        roots = rw (roots_said f k places v good) b.0.0.0;
        blocks = rw (blocks_said f k places v good) b.1.1.0.0.0;
        entries = rw j.counted good.1.0.0;
        sizes = j.forms;
      }

-- ---- the value of valid parts and their lengths

and_false : (b : Bool) → (b && false) ≡ false
and_false true = refl
and_false false = refl

module _ (f : FormatFacts) (k : Proper f) (places : ℕ) (p : Parts) (valid : Valid f places p) where
  nodes_sum : internals p.words + externals p.words ≡ length p.words
  nodes_sum = omega (arith, externals_few p.words)

  pub valid_good : (l : Lengths) → Lengthened p l → (file f k places).Good (value_of p p.words l)
  unfolding over_budget
  valid_good l long =
      let i = internals p.words in
      let e = externals p.words in
      let sum = length p.blocks + (8 * (i + e) + (32 * e + hash_bytes (share p.flags f.hashless) i)) in
      let n = nodes_sum in
      let x = valid.external in
      let y = valid.hashes in
      let z = valid.section_bytes in
      let nodes : over (i + e) ≡ false = le-ltb (2 ^ 64 - 1) (i + e) (omega arith) in
      let most : ltb f.max_nodes (i + e) ≡ false = le-ltb f.max_nodes (i + e) (omega (arith, valid.nodes)) in
      let roots : over (4 * length p.roots) ≡ false = le-ltb (2 ^ 64 - 1) (4 * length p.roots) (omega (arith, valid.root_bytes)) in
      let sections : over sum ≡ false = le-ltb (2 ^ 64 - 1) sum (omega arith) in
      let counted : not (eqb e e) ≡ false = rw (eq-eqb e e refl) refl in
      let entries =
      joined_good places 0 [] p.keys p.lengths l.sizes p.values (omega (arith, valid.few)) valid.keys valid.values
      valid.keys_fit valid.values_fit valid.value_bytes long.sizes valid.tested in (
        (
          ((valid.format, tt), ((tt, (valid.flags_fit, tt)), (valid.reserved, (and_false (share p.flags f.hashless), tt)))),
          (
            (long.internal, refl),
            (
              ((long.external, refl), (nodes, (most, (refl, (refl, (and_false (not (share p.flags f.hashless)), tt)))))),
              (
                ((long.roots, refl), (refl, (roots, tt))),
                (
                  (refl, valid.roots_fit),
                  (
                    ((long.blocks, refl), (sections, (refl, tt))),
                    (
                      ((refl, valid.blocks_fit), ((sym n, valid.words_fit), ((x, valid.external_fit), (y, valid.hashes_fit)))),
                      ((entries_mean 1 0 p.words).0 valid.entries, counted),
                    ),
                  ),
                ),
              ),
            ),
          ),
        ),
        ((long.entries, refl), entries),
      )

  -- the parts and the lengths are had back
  pub valid_parts : (l : Lengths) → Lengthened p l → parts_of (value_of p p.words l) ≡ p
  valid_parts l long =
      let b = from_back p.keys p.lengths l.sizes p.values valid.keys valid.values long.sizes in
      rw (b.keys, b.lengths, b.values)

  pub valid_lengths : (l : Lengths) → Lengthened p l → lengths_of (value_of p p.words l) ≡ l
  valid_lengths l long =
      let b = from_back p.keys p.lengths l.sizes p.values valid.keys valid.values long.sizes in
      rw b.lens

  -- ---- the writer takes them, where its file has room; and that is the rendering, entries in their written form, each count shortest

  pub valid_written : written_file f p ≡ rendered_file f (as_written p) (shortest p)
  valid_written =
      let ws = p.words in
      let read = written_read ws ((entries_mean 1 0 ws).0 valid.entries) in
      let same : file_of p ≡ value_of (as_written p) (written ws) (shortest p) = rw (length-written ws, same_externals (written ws) ws read) refl in
      sym (written_form f k places p) ∙ ap (file f k places).form same ∙ rendered_form f k places (as_written p) (shortest p)

  pub valid_writable : (room : ℕ) → length (written_file f p) < 2 ^ 64 → length (written_file f p) ≤ room → NoneMet (writer_rules f p room)
  unfolding writer_rules
  valid_writable room most fits =
      valid.format
      ▸ valid.reserved
      ▸ le-ltb _ _ valid.nodes
      ▸ none_append (words_rules 1 0 p.words) _ valid.entries
      ((rw (eq-eqb _ _ valid.external) refl)
      ▸ (rw (eq-eqb _ _ valid.hashes) refl)
      ▸ (rw (eq-eqb _ _ valid.keys) refl)
      ▸ (rw (eq-eqb _ _ valid.values) refl)
      ▸ none_append (key_rules 0 [] p.keys p.lengths) _ valid.tested
      (le-ltb (2 ^ 64 - 1) (length (written_file f p)) (omega arith) ▸ le-ltb room _ fits ▸ tt))
