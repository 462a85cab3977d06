-- The writer's file of an accepted file's parts is of bytes.
-- Assumes nothing.
use mathlib.Core.List.{List, [], ◌∷◌, ◌++◌}
use Prim.Native.Nat.{ℕ}
use lib.Dec.{lit<}
use lib.ListN.{length, take, drop}
use Rattle.wire.specs.Le.{Bytes}
use Rattle.wire.specs.Rows.{rows}
use Rattle.wire.specs.Counts.{shortest_len, count_form, count_bytes}
use Rattle.wire.proofs.Le.{bytes_take, bytes_append, bytes_front}
use Rattle.wire.proofs.Leaves.{bytes_rows}
use Rattle.wire.proofs.Forms.{bytes_form}
use Rattle.layout.specs.Scan.{externals}
use Rattle.layout.specs.declared.facts.FormatFacts.{FormatFacts}
use Rattle.writer.specs.Parts.{parts_shown, file_end}
use Rattle.writer.specs.Writer.{internals, written, advice_bytes, head_bytes, root_bytes, block_bytes, node_bytes, map_bytes, written_file}
use Rattle.layout.specs.Given.{Proper}
use Rattle.renderings.specs.Rendering.{Ends, Taken, lengths_shown, advice_forms, rendered_file}
use Rattle.renderings.proofs.Rendered.{taken_rendering}

count_bytes_lem : (v : ℕ) → Bytes (count_bytes v)
count_bytes_lem v = bytes_form (shortest_len v) v

advice_bytes_lem : (keys lengths values : List ℕ) → Bytes (advice_bytes keys lengths values)
unfolding advice_bytes
advice_bytes_lem keys [] values = λ i. lit< tt
advice_bytes_lem keys (n ∷ ns) values =
    bytes_append (rows 8 (take 4 keys) ++ (count_bytes n ++ rows 8 (take n values))) (advice_bytes (drop 4 keys) ns (drop n values))
    (bytes_append (rows 8 (take 4 keys)) (count_bytes n ++ rows 8 (take n values)) (bytes_rows 8 (take 4 keys))
    (bytes_append (count_bytes n) (rows 8 (take n values)) (count_bytes_lem n) (bytes_rows 8 (take n values))))
    (advice_bytes_lem (drop 4 keys) ns (drop n values))

-- the header of a rendering is of bytes, since the file is; and so are the parts that stand in it as they are
pub written_bytes : (f : FormatFacts) → Proper f → (places : ℕ) (s : List ℕ) → Bytes s → (w : Ends) → Taken f places s w → Bytes (written_file f (parts_shown f s))
unfolding rendered_file written_file head_bytes root_bytes block_bytes node_bytes map_bytes
written_bytes f k places s bs w taken =
    let p = parts_shown f s in
    let r = taken_rendering f k places s bs w taken in
    let head = f.magic ++ ((p.flags ∷ []) ++ f.version) in
    let whole : Bytes (rendered_file f p (lengths_shown f s)) = rw r.bytes at (bytes_take (file_end f s) s bs) in
    let l = lengths_shown f s in
    let rest =
    count_form l.internal (internals p.words)
    ++ (count_form l.external (externals p.words)
    ++ (count_form l.roots (length p.roots)
    ++ (rows 4 p.roots
    ++ (count_form l.blocks (length p.blocks)
    ++ (p.blocks
    ++ (rows 8 p.words
    ++ (p.external
    ++ p.hashes))))))) in
    let last = count_form l.entries (length p.lengths) ++ advice_forms p.keys p.lengths l.sizes p.values in
    let header : Bytes head = bytes_front head rest (bytes_front (head ++ rest) last whole) in
    let counts = bytes_append (count_bytes (internals p.words)) (count_bytes (externals p.words)) (count_bytes_lem (internals p.words)) (count_bytes_lem (externals p.words)) in
    let roots = bytes_append (count_bytes (length p.roots)) (rows 4 p.roots) (count_bytes_lem (length p.roots)) (bytes_rows 4 p.roots) in
    let blocks = bytes_append (count_bytes (length p.blocks)) p.blocks (count_bytes_lem (length p.blocks)) r.valid.blocks_fit in
    let digests = bytes_append p.external p.hashes r.valid.external_fit r.valid.hashes_fit in
    let nodes = bytes_append (rows 8 (written p.words)) (p.external ++ p.hashes) (bytes_rows 8 (written p.words)) digests in
    let map = bytes_append (count_bytes (length p.lengths)) (advice_bytes p.keys p.lengths p.values) (count_bytes_lem (length p.lengths)) (advice_bytes_lem p.keys p.lengths p.values) in
    bytes_append (head_bytes f p ++ (root_bytes p ++ block_bytes p)) (node_bytes p ++ map_bytes p)
    (bytes_append (head_bytes f p) (root_bytes p ++ block_bytes p)
    (bytes_append head (count_bytes (internals p.words) ++ count_bytes (externals p.words)) header counts)
    (bytes_append (root_bytes p) (block_bytes p) roots blocks))
    (bytes_append (node_bytes p) (map_bytes p) nodes map)
