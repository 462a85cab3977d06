-- The digest of a node, by counting the earlier nodes of its kind, and with a lent slot table.
use Rattle.std.specs.Prelude.{ℕ, ◌≡◌, Bool, true, false, List, [], ◌∷◌, Option, Some, None, ltb, leb, length, get_or}
use Rattle.wire.specs.Table.{Rule, rule, Outcome, refused, accepted, first_met, checked, ◌>>=◌}
use Rattle.wire.specs.Refusals.{SHORT, OVERFLOW, INDEX, NO-HASH, ELEMENT, ROOM}
use Rattle.wire.specs.Le.{is_short}
use Rattle.wire.specs.Words.{not_elements, four_at}
use Rattle.info.specs.Node.{is_external}
use Rattle.rows.specs.Rows.{row_at, row_over, entry_pass}
use Rattle.layout.specs.declared.forest.ForestLayout.{ForestLayout}
use Rattle.wire.specs.declared.units.ByteOffset.{ByteOffset}
use Rattle.resolved.specs.Nodes.{node_entry, external_node}
use Rattle.resolved.specs.Slots.{slot_of}

-- where the digests of a kind lie: the External ones in their own section, all others among the hashes
abbrev pub section_of : ForestLayout → Bool → Option ByteOffset
section_of l true = Some l.external_digest_offset
section_of l false = l.node_hash_offset

-- a row of 32 bytes: its end above 2 ^ 64 - 1, not all there, no word; all [the index asked for]
unfoldable pub digest_rules : List ℕ → ℕ → ℕ → ℕ → List Rule
digest_rules s index section slot =
    rule OVERFLOW index (row_over section 32 slot)
    ∷ rule SHORT index (is_short s (row_at section 32 slot) 32)
    ∷ rule ELEMENT index (not_elements (four_at s (row_at section 32 slot)))
    ∷ []

unfoldable pub digest_at : List ℕ → ℕ → ℕ → ℕ → Outcome (List ℕ)
digest_at s index section slot = first_met (digest_rules s index section slot) (four_at s (row_at section 32 slot))

-- the digest in a slot of a section; NO-HASH where the section is not there
abbrev pub digest_in : List ℕ → ℕ → ℕ → Option ByteOffset → Outcome (List ℕ)
digest_in s index slot None = refused NO-HASH index
digest_in s index slot (Some section) = digest_at s index section.0 slot

-- by counting: INDEX, the entries of nodes 0 to the index in turn, and the digest in the node's slot
unfoldable pub digest_by_counting : List ℕ → ForestLayout → ℕ → Outcome (List ℕ)
digest_by_counting s l index =
    checked (rule INDEX index (leb l.node_count index) ∷ [])
    >>= (λ _. entry_pass (node_entry s l) index
    >>= (λ _. node_entry s l index
    >>= (λ e. digest_in s index (slot_of (external_node s l) index) (section_of l (is_external e)))))

-- with a table: INDEX, ROOM where the table is shorter than the node count, the entry of the index alone, and the digest in the table's slot
unfoldable pub digest_with_table : List ℕ → ForestLayout → ℕ → List ℕ → Outcome (List ℕ)
digest_with_table s l index table =
    checked (rule INDEX index (leb l.node_count index) ∷ rule ROOM index (ltb (length table) l.node_count) ∷ [])
    >>= (λ _. node_entry s l index
    >>= (λ e. digest_in s index (get_or table index 0) (section_of l (is_external e))))

-- What a node's digest can be where its row lies inside the file, in its slot of its kind's section: the row's word; NO-HASH exactly if there is no
-- section; ELEMENT exactly if the row is no word.
pub data DigestSaid (s : List ℕ) (i slot : ℕ) (section : Option ByteOffset) : Outcome (List ℕ) → Type 0 where
  word : (at : ByteOffset) → section ≡ Some at → not_elements (four_at s (row_at at.0 32 slot)) ≡ false → DigestSaid s i slot section (accepted (four_at s (row_at at.0 32 slot)))
  no_hash : section ≡ None → DigestSaid s i slot section (refused NO-HASH i)
  no_element : (at : ByteOffset) → section ≡ Some at → not_elements (four_at s (row_at at.0 32 slot)) ≡ true → DigestSaid s i slot section (refused ELEMENT i)
