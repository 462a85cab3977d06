-- The writer: the file of some parts, what is refused, in the paper's order, and what the output holds afterwards.
use Rattle.std.specs.Prelude.{ℕ, ◌+◌, ◌-◌, ◌*◌, List, [], ◌∷◌, ◌++◌, map, not, length, take, drop, ltb, eqb}
use Rattle.wire.specs.Table.{Rule, rule, Outcome, refused, accepted, first_met}
use Rattle.wire.specs.Refusals.{FLAGS, OVERFLOW, TOO-MANY, ELEMENT, DUPLICATE, ROOM, FORMAT, PARTS}
use Rattle.wire.specs.Le.{over}
use Rattle.wire.specs.Rows.{rows}
use Rattle.wire.specs.Counts.{count_bytes}
use Rattle.wire.specs.Words.{not_elements}
use Rattle.info.specs.Entry.{entry_of, word_of}
use Rattle.layout.specs.Facts.{share, bad_format, hash_bytes}
use Rattle.layout.specs.Scan.{words_rules, externals}
use Rattle.layout.specs.declared.facts.FormatFacts.{FormatFacts}
use Rattle.keys.specs.Keys.{seen_key}
use Rattle.writer.specs.Parts.{Parts}

-- ---- the file

-- the nodes that are not External
abbrev pub internals : List ℕ → ℕ
internals words = length words - externals words

-- each entry in its written form
abbrev pub written : List ℕ → List ℕ
written words = map (λ (w : ℕ). word_of (entry_of w)) words

abbrev pub sum : List ℕ → ℕ
sum [] = 0
sum (n ∷ ns) = n + sum ns

-- the map's entries: for each length four numbers of the keys, the length, and that many values
unfoldable pub advice_bytes : List ℕ → List ℕ → List ℕ → List ℕ
advice_bytes keys [] values = []
advice_bytes keys (n ∷ ns) values =
    (rows 8 (take 4 keys) ++ (count_bytes n ++ rows 8 (take n values))) ++ advice_bytes (drop 4 keys) ns (drop n values)

-- the header of 8 bytes and two counts; the roots; the blocks; entries and digests; the map. Counts in their shortest form.
unfoldable pub head_bytes : FormatFacts → Parts → List ℕ
head_bytes f p =
    (f.magic ++ ((p.flags ∷ []) ++ f.version)) ++ (count_bytes (internals p.words) ++ count_bytes (externals p.words))

unfoldable pub root_bytes : Parts → List ℕ
root_bytes p = count_bytes (length p.roots) ++ rows 4 p.roots

unfoldable pub block_bytes : Parts → List ℕ
block_bytes p = count_bytes (length p.blocks) ++ p.blocks

unfoldable pub node_bytes : Parts → List ℕ
node_bytes p = rows 8 (written p.words) ++ (p.external ++ p.hashes)

unfoldable pub map_bytes : Parts → List ℕ
map_bytes p = count_bytes (length p.lengths) ++ advice_bytes p.keys p.lengths p.values

unfoldable pub written_file : FormatFacts → Parts → List ℕ
written_file f p = (head_bytes f p ++ (root_bytes p ++ block_bytes p)) ++ (node_bytes p ++ map_bytes p)

-- ---- the rules

-- for each key in turn, from number i on, after the keys `seen`: ELEMENT, then DUPLICATE of an earlier one, both [this key's number]
unfoldable pub key_rules : ℕ → List (List ℕ) → List ℕ → List ℕ → List Rule
key_rules i seen keys [] = []
key_rules i seen keys (n ∷ ns) =
    rule ELEMENT i (not_elements (take 4 keys))
    ∷ rule DUPLICATE i (seen_key seen (take 4 keys))
    ∷ key_rules (i + 1) (take 4 keys ∷ seen) (drop 4 keys) ns

-- PARTS 1: external bytes not 32 a node; 2: hash bytes not 32 a node, or not none where the file is hashless; 3: keys not four per length;
-- 4: values not the sum of lengths
unfoldable pub writer_rules : FormatFacts → Parts → ℕ → List Rule
writer_rules f p room =
    rule FORMAT 0 (bad_format f)
    ∷ rule FLAGS 4 (share p.flags f.reserved)
    ∷ rule TOO-MANY 0 (ltb f.max_nodes (length p.words))
    ∷ words_rules 1 0 p.words
    ++ (rule PARTS 1 (not (eqb (length p.external) (32 * externals p.words)))
    ∷ rule PARTS 2 (not (eqb (length p.hashes) (hash_bytes (share p.flags f.hashless) (internals p.words))))
    ∷ rule PARTS 3 (not (eqb (length p.keys) (4 * length p.lengths)))
    ∷ rule PARTS 4 (not (eqb (length p.values) (sum p.lengths)))
    ∷ key_rules 0 [] p.keys p.lengths
    ++ (rule OVERFLOW 0 (over (length (written_file f p)))
    ∷ rule ROOM (length (written_file f p)) (ltb room (length (written_file f p)))
    ∷ []))

-- into an output of so many bytes; accepted, the file's length is given
unfoldable pub write_outcome : FormatFacts → Parts → ℕ → Outcome ℕ
write_outcome f p room = first_met (writer_rules f p room) (length (written_file f p))

-- the output afterwards: the file, and the bytes past it as they were; refused, all as it was
abbrev pub output_of : List ℕ → List ℕ → Outcome ℕ → List ℕ
output_of file out (refused n place) = out
output_of file out (accepted n) = file ++ drop n out

unfoldable pub output_after : FormatFacts → Parts → List ℕ → List ℕ
output_after f p out = output_of (written_file f p) out (write_outcome f p (length out))
