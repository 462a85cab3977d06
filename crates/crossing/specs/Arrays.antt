-- Arrays of fixed length, and what they stand for. The length is the type's: a place past the end does not occur, and would read as 0.
use Rattle.std.specs.Prelude.{ℕ, List, [], ◌∷◌, ◌++◌, Option, Some, None, eqb, get_or}
use Rattle.std.specs.Option.{option_map}
use Rattle.wire.specs.Table.{pick}
use Rattle.wire.specs.declared.units.ByteOffset.{ByteOffset}
use Rattle.info.specs.declared.MastNodeEntry.{MastNodeEntry}
use Rattle.info.specs.Node.{kind_of, numbers_of}
use Rattle.layout.specs.Scan.{Scanned}
use Rattle.layout.specs.declared.facts.FormatFacts.{FormatFacts}
use Rattle.layout.specs.declared.forest.ForestLayout.{ForestLayout}

-- ---- what an array stands for

-- nine bytes: magic, version, hashless mask, reserved mask
unfoldable pub facts_of : List ℕ → ℕ → FormatFacts
facts_of marks most =
    let b : ℕ → ℕ = λ i. get_or marks i 0 in
    record {
      magic = b 0 ∷ b 1 ∷ b 2 ∷ b 3 ∷ [];
      version = b 4 ∷ b 5 ∷ b 6 ∷ [];
      hashless = b 7;
      reserved = b 8;
      max_nodes = most;
    }

-- a flag of 0 is none
unfoldable pub optional_of : ℕ → ℕ → Option ℕ
optional_of flag n = pick (eqb flag 0) None (Some n)

abbrev pub hashes_of : ℕ → ℕ → Option ByteOffset
hashes_of flag at = option_map (λ n. record { 0 = n }) (optional_of flag at)

-- twelve numbers, in the order of the record's fields; the section of hashes is two of them
unfoldable pub layout_of : List ℕ → ForestLayout
layout_of row =
    let n : ℕ → ℕ = λ i. get_or row i 0 in
    record {
      node_count = n 0;
      internal_node_count = record { 0 = n 1 };
      external_node_count = record { 0 = n 2 };
      roots_count = n 3;
      roots_offset = record { 0 = n 4 };
      basic_block_offset = record { 0 = n 5 };
      basic_block_len = n 6;
      node_entry_offset = record { 0 = n 7 };
      external_digest_offset = record { 0 = n 8 };
      node_hash_offset = hashes_of (n 9) (n 10);
      advice_map_offset = record { 0 = n 11 };
    }

abbrev pub bound_of : List ℕ → Option ℕ
bound_of row = optional_of (get_or row 0 0) (get_or row 1 0)

-- ---- and back

-- 1 and the number, or 0 and 0
abbrev pub optional_row : Option ℕ → List ℕ
optional_row None = 0 ∷ 0 ∷ []
optional_row (Some n) = 1 ∷ n ∷ []

abbrev pub hash_row : Option ByteOffset → List ℕ
hash_row hashes = optional_row (option_map (λ at. at.0) hashes)

abbrev pub layout_row : ForestLayout → List ℕ
layout_row l =
    l.node_count
    ∷ l.internal_node_count.0
    ∷ l.external_node_count.0
    ∷ l.roots_count
    ∷ l.roots_offset.0
    ∷ l.basic_block_offset.0
    ∷ l.basic_block_len
    ∷ l.node_entry_offset.0
    ∷ l.external_digest_offset.0
    ∷ get_or (hash_row l.node_hash_offset) 0 0
    ∷ get_or (hash_row l.node_hash_offset) 1 0
    ∷ l.advice_map_offset.0
    ∷ []

-- the layout's, and how many of the scan's counts are long
abbrev pub scanned_row : Scanned → List ℕ
scanned_row x = layout_row x.layout ++ (x.long ∷ [])

abbrev pub bound_row : Option ℕ → List ℕ
bound_row = optional_row

-- the kind, by its tag, and two numbers, 0 where there are none
abbrev pub entry_row : MastNodeEntry → List ℕ
entry_row e = kind_of e ∷ get_or (numbers_of e) 0 0 ∷ get_or (numbers_of e) 1 0 ∷ []
