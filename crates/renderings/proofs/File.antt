-- The file as a piece: its sections one after the other, read with hashless files allowed and no allocation bound. The scan's table and the
-- walk's are this piece's rules (proofs/Shown.antt).
-- Assumes nothing.
use mathlib.Core.Path.{◌≡◌, refl}
use mathlib.Core.List.{List, [], ◌∷◌, ◌++◌}
use mathlib.Core.Bool.{true, false, not, ◌&&◌}
use mathlib.Core.Logic.{◌↔◌}
use Prim.Native.Nat.{ℕ, ◌+◌, ◌*◌, ◌≤◌}
use native.Mathlib.Omega.{arith}
use borrow.Author.Tests.{le-ltb}
use lib.Dec.{ltb, eqb}
use lib.ListN.{length, length-append}
use Rattle.std.specs.Prelude.{None}
use Rattle.wire.specs.Table.{Rule, rule, NoneMet}
use Rattle.wire.specs.Refusals.{SHORT, MAGIC, VERSION, FLAGS, HASHLESS, OVERFLOW, TOO-MANY, BUDGET, EXTERNALS, FORMAT}
use Rattle.wire.specs.Le.{over}
use Rattle.wire.specs.Counts.{counted}
use Rattle.wire.specs.Rows.{rows}
use Rattle.wire.specs.declared.count.Count.{Count}
use Rattle.wire.proofs.Tables.{none_append, none_parts}
use Rattle.wire.proofs.Piece.{◌▸◌, Tests, Piece, then, both, checked, tested, guarded, within, tidied}
use Rattle.wire.proofs.Leaves.{count, bytes, byte, given, numbers, length-rows}
use Rattle.layout.specs.Facts.{share, bad_format, over_budget, hash_bytes}
use Rattle.layout.specs.Scan.{words_rules, externals}
use Rattle.layout.specs.declared.facts.FormatFacts.{FormatFacts}
use Rattle.advice.proofs.Pieces.{Entry, map_piece}
use Rattle.writer.specs.Writer.{written}
use Rattle.layout.specs.Given.{Proper}
use Rattle.renderings.proofs.Entries.{Entries, entries_mean, written_read, written_entries, written_below, length-written, same_externals}

-- a count with tests on its value
abbrev counting : (ℕ → ℕ) → (ℕ → Tests) → Piece Count
counting place tests = tested count place (λ c. tests c.value) (λ c. refl)

abbrev here : ℕ → ℕ
here at = at

-- ---- the sections that one rule covers

-- blocks, words, external digests, hashes
abbrev pub Sections : Type 0
Sections = List ℕ × (List ℕ × (List ℕ × List ℕ))

-- entry words, written in their own form
pub words_tidy : (n : ℕ) (ws : List ℕ) → (numbers 8 n).Good ws → (numbers 8 n).Good (written ws) × (length (rows 8 (written ws)) ≡ length (rows 8 ws))
words_tidy n ws good =
    let l = length-written ws in
    ((omega (arith, good.0), written_below ws), omega (arith, length-rows 8 (written ws), length-rows 8 ws))

abbrev word_rows : ℕ → Piece (List ℕ)
word_rows n = tidied (numbers 8 n) written (words_tidy n)

-- sections of b, 8 * n, e and h bytes
module _ (b n e h : ℕ) where
  abbrev four : Piece Sections
  four = both (bytes b) (both (word_rows n) (both (bytes e) (bytes h)))

  pub four_long : (v : Sections) → four.Good v → length (four.form v) ≡ b + (8 * n + (e + h))
  four_long v g = simp (length-append, length-rows) (omega (arith, g.0.0, g.1.0.0, g.1.1.0.0, g.1.1.1.0))

  pub four_free : (s : List ℕ) (at : ℕ) → at + (b + (8 * n + (e + h))) ≤ length s → NoneMet (four.rules s at)
  four_free s at w =
      le-ltb (length s) (at + b) (omega arith)
      ▸ le-ltb (length s) (at + b + 8 * n) (omega arith)
      ▸ le-ltb (length s) (at + b + 8 * n + e) (omega arith)
      ▸ le-ltb (length s) (at + b + 8 * n + e + h) (omega arith)
      ▸ tt

  -- the entries' rules, and the External ones counted: x of them
  module _ (x : ℕ) where
    abbrev section_rules : List ℕ → ℕ → Sections → List Rule
    section_rules s at v = words_rules 8 (at + b) v.1.0 ++ (rule EXTERNALS (8 + (counted s 8).len) (not (eqb (externals v.1.0) x)) ∷ [])

    abbrev GoodSections : Sections → Type 0
    GoodSections v = Entries v.1.0 × (not (eqb (externals v.1.0) x) ≡ false)

    pub sections_mean : (s : List ℕ) (at : ℕ) (v : Sections) → NoneMet (section_rules s at v) ↔ GoodSections v
    sections_mean s at v =
        let m = entries_mean 8 (at + b) v.1.0 in (
          λ n. let k = none_parts (words_rules 8 (at + b) v.1.0) _ n in (m.0 k.0, k.1.0),
          λ g. none_append (words_rules 8 (at + b) v.1.0) _ (m.1 g.0) (g.1, tt),
        )

    pub sections_steady : (v : Sections) → GoodSections v → GoodSections (four.trim v)
    sections_steady v g =
        let ws = v.1.0 in
        (written_entries ws g.0, rw (same_externals (written ws) ws (written_read ws g.0)) g.1)

    abbrev pub sections : Piece Sections
    sections = checked (within (b + (8 * n + (e + h))) SHORT four four_long four_free) section_rules GoodSections sections_mean sections_steady

-- ---- the file

abbrev pub Header : Type 0
Header = Unit {0} × (ℕ × Unit {0})

-- the root count, the roots, the block length, the sections
abbrev pub Body : Type 0
Body = Count × (List ℕ × (Count × Sections))

-- what the scan reads: the header, the internal and the external count, the rest
abbrev pub Scanned : Type 0
Scanned = Header × (Count × (Count × Body))

-- and what the walk reads: the map's count, and its entries
abbrev pub File : Type 0
File = Scanned × (Count × List Entry)

-- the parts by name
module _ (v : File) where
  abbrev pub flag_of : ℕ
  flag_of = v.0.0.1.0

  abbrev pub internal_of : Count
  internal_of = v.0.1.0

  abbrev pub external_of : Count
  external_of = v.0.1.1.0

  abbrev pub root_count_of : Count
  root_count_of = v.0.1.1.1.0

  abbrev pub roots_of : List ℕ
  roots_of = v.0.1.1.1.1.0

  abbrev pub block_count_of : Count
  block_count_of = v.0.1.1.1.1.1.0

  abbrev pub sections_of : Sections
  sections_of = v.0.1.1.1.1.1.1

  abbrev pub words_of : List ℕ
  words_of = sections_of.1.0

  abbrev pub entry_count_of : Count
  entry_count_of = v.1.0

  abbrev pub entries_of : List Entry
  entries_of = v.1.1

module _ (f : FormatFacts) where
  -- roots, and what comes after: where the flags and the two node counts are known
  module _ (flags i e : ℕ) where
    abbrev hashes : ℕ
    hashes = hash_bytes (share flags f.hashless) i

    abbrev roots_count : Piece Count
    roots_count = counting here (λ n. (BUDGET, over_budget None 4 n) ∷ (OVERFLOW, over (4 * n)) ∷ [])

    abbrev block_count : Piece Count
    block_count =
        counting here
        (λ b. (OVERFLOW, over (b + (8 * (i + e) + (32 * e + hashes)))) ∷ (BUDGET, over_budget None 1 (b + (8 * (i + e) + (32 * e + hashes)))) ∷ [])

    abbrev pub body : Piece Body
    body =
        then roots_count
        (λ r. both (numbers 4 r.value)
        (then block_count
        (λ b. sections b.value (i + e) (32 * e) hashes e)
        (λ a. refl)))
        (λ a. refl)

  -- the two node counts
  abbrev external_count : ℕ → ℕ → Piece Count
  external_count flags i =
      counting (λ at. 8)
      (λ e. (OVERFLOW, over (i + e))
      ∷ (TOO-MANY, ltb f.max_nodes (i + e))
      ∷ (BUDGET, over_budget None 8 (i + e))
      ∷ (BUDGET, over_budget None 32 e)
      ∷ (BUDGET, not (share flags f.hashless) && over_budget None 32 i)
      ∷ [])

  module _ (k : Proper f) where
    abbrev header : Piece Header
    header =
        guarded ((FORMAT, bad_format f) ∷ [])
        (tested (both (given MAGIC 4 f.magic k.four) (both byte (given VERSION 3 f.version k.three))) (λ at. 4)
        (λ v. (FLAGS, share v.1.0 f.reserved) ∷ (HASHLESS, share v.1.0 f.hashless && not true) ∷ []) (λ v. refl))

    abbrev pub scan : Piece Scanned
    scan =
        then header
        (λ h. then count
        (λ i. then (external_count h.1.0 i.value) (λ e. body h.1.0 i.value e.value)
        (λ a. refl))
        (λ a. refl))
        (λ a. refl)

    -- over so many key places
    abbrev pub file : ℕ → Piece File
    file places = both scan (map_piece places)
