-- The worked examples of the format, P1 to P10, and those of requests, by one statement over one list: what the definitions answer is what the
-- papers say.
-- antt computes both sides.
-- Assumes nothing.
use mathlib.Core.Path.{◌≡◌, refl}
use mathlib.Core.Bool.{true, false}
use mathlib.Core.List.{List, [], ◌∷◌, ◌++◌, map}
use Prim.Native.Nat.{ℕ, ◌-◌, ◌^◌}
use lib.Count.{count_trailing_zeros, ones, ones_in}
use Rattle.std.specs.Prelude.{None}
use Rattle.wire.specs.Table.{Outcome, refused, accepted, first_met, ◌>>=◌, At}
use Rattle.wire.specs.Refusals.{SHORT, TAG, PAYLOAD}
use Rattle.wire.specs.Le.{le, le_bytes}
use Rattle.wire.specs.Counts.{long_ones, count_length, count_value, counted, count_outcome, least_from, shortest_len, count_form, count_bytes}
use Rattle.wire.specs.Rows.{numbers_of}
use Rattle.wire.specs.Words.{is_element, not_elements, four_at}
use Rattle.wire.specs.declared.count.Count.{Count}
use Rattle.info.specs.Entry.{entry_of, bad_tag, bad_payload, decode_rules, decode_outcome, encode_outcome}
use Rattle.info.specs.declared.MastNodeEntry.{MastNodeEntry}
use Rattle.info.specs.declared.MastNodeEntry.TheVariants.{Join, Dyn}
use Rattle.layout.specs.Facts.{bad_format, over_budget}
use Rattle.layout.specs.Scan.{Scanned, words_rules, externals, scan_rules, scan_outcome}
use Rattle.rows.specs.Rows.{row_rules, row_outcome, node_pass}
use Rattle.resolved.specs.Slots.{count_of, slots_of, table_rules, slots_outcome, table_after}
use Rattle.keys.specs.Keys.{seen_key}
use Rattle.advice.specs.Walk.{walk_rules, walk_end, walk_shown, map_rules, walk_outcome}
use Rattle.text.specs.Text.{bytes as quoted, decimal_in, decimal, piece, holes_past, filled_from}
use Rattle.whole.specs.Whole.{map_outcome, whole_outcome}
use Rattle.page.specs.Page.{hashes_text, page_text}
use Rattle.page.specs.Answer.{answer_outcome, answer_text}
use Rattle.layout.specs.declared.facts.FormatFacts.{FormatFacts}

-- what is asked, and what is answered
pub data Question : Type 0 where
  count : List ℕ → Question
  shortest : ℕ → Question
  decode : ℕ → Question
  encode : MastNodeEntry → Question
  scan : List ℕ → Question
  slots : List ℕ → Question
  page : List ℕ → Question
  long : List ℕ → Question

pub data Answer : Type 0 where
  counts : Outcome (At Count) → Answer
  bytes : List ℕ → Answer
  entry : Outcome MastNodeEntry → Answer
  word : Outcome ℕ → Answer
  layout : Outcome Scanned → Answer
  table : List ℕ → Answer
  longs : Outcome (ℕ × ℕ) → Answer

pub record Example : Type 0 where
  pub question : Question
  pub answer : Answer

infix 5 ◌⇒◌
abbrev pub ◌⇒◌ : Question → Answer → Example
q ⇒ a = record { question = q; answer = a }

-- v, in n bytes: its shortest form, or a long one
abbrev pub says : ℕ → ℕ → Answer
says v n = counts (accepted (record { value = record { value = v; len = n; shortest = true }; next = n }))

abbrev pub says_long : ℕ → ℕ → Answer
says_long v n = counts (accepted (record { value = record { value = v; len = n; shortest = false }; next = n }))

-- the stand-in facts of the small program: magic MAST, version 0 0 2, hashless mask 2, reserved mask 0xFC, at most 2 ^ 30 - 1 nodes
abbrev pub stand_in : FormatFacts
stand_in =
    record {
      magic = 0x4D ∷ 0x41 ∷ 0x53 ∷ 0x54 ∷ [];
      version = 0x00 ∷ 0x00 ∷ 0x02 ∷ [];
      hashless = 0x02;
      reserved = 0xFC;
      max_nodes = 2 ^ 30 - 1;
    }

-- P10: a hashless header, three counts, one root, the block length, a byte of block data, three entries, a digest, and an empty map
abbrev pub hashless_file : List ℕ
hashless_file =
    (0x4D ∷ 0x41 ∷ 0x53 ∷ 0x54 ∷ 0x02 ∷ 0x00 ∷ 0x00 ∷ 0x02 ∷ [])
    ++ ((0x05 ∷ 0x03 ∷ 0x03 ∷ [])
    ++ ((0x02 ∷ 0x00 ∷ 0x00 ∷ 0x00 ∷ [])
    ++ ((0x03 ∷ 0xAB ∷ [])
    ++ ((le_bytes 8 0x8000000000000000 ++ (le_bytes 8 0x3000000000000000 ++ le_bytes 8 1))
    ++ (le_bytes 32 0
    ++ (0x01 ∷ []))))))

-- P10's page, as the small program prints it: its seven lines
abbrev pub page10 : List ℕ
page10 =
    quoted "nodes 3 internal 2 external 1\n"
    ++ (quoted "roots 1 at 11\n"
    ++ (quoted "blocks 1 at 16\n"
    ++ (quoted "entries at 17\n"
    ++ (quoted "external digests at 41\n"
    ++ (quoted "node hashes none\n"
    ++ quoted "advice at 73 end 74\n")))))

-- the slots of an accepted file's three nodes
abbrev pub slot_table : List ℕ → Outcome Scanned → List ℕ
slot_table s (refused n p) = []
slot_table s (accepted x) = table_after s x.layout None (9 ∷ 9 ∷ 9 ∷ [])

-- the numbers of long counts: the scan's, and the walk's over two key places
abbrev pub long_numbers : List ℕ → Outcome (ℕ × ℕ)
long_numbers s = scan_outcome stand_in s true None >>= (λ x. walk_outcome 2 s x.layout.advice_map_offset.0 >>= (λ w. accepted (x.long, w.long)))

-- a header, and counts
abbrev pub headed : List ℕ → List ℕ
headed rest = 0x4D ∷ 0x41 ∷ 0x53 ∷ 0x54 ∷ 0x00 ∷ 0x00 ∷ 0x00 ∷ 0x02 ∷ rest

-- what the definitions answer
abbrev pub ask : Question → Answer
ask (count bs) = counts (count_outcome bs 0)
ask (shortest v) = bytes (count_bytes v)
ask (decode w) = entry (decode_outcome 0 w)
ask (encode e) = word (encode_outcome e)
ask (scan s) = layout (scan_outcome stand_in s true None)
ask (slots s) = table (slot_table s (scan_outcome stand_in s true None))
ask (page s) = bytes (answer_text stand_in 8 s)
ask (long s) = longs (long_numbers s)

abbrev pub examples : List Example
examples =
    -- P1
    (shortest 0 ⇒ bytes (0x01 ∷ []))
    ∷ (count (0x01 ∷ []) ⇒ says 0 1)
    ∷ (count (0x02 ∷ 0x00 ∷ []) ⇒ says_long 0 2)
    -- P2
    ∷ (shortest 127 ⇒ bytes (0xFF ∷ []))
    ∷ (count (0xFF ∷ []) ⇒ says 127 1)
    ∷ (shortest 128 ⇒ bytes (0x02 ∷ 0x02 ∷ []))
    ∷ (count (0x02 ∷ 0x02 ∷ []) ⇒ says 128 2)
    -- P3
    ∷ (shortest 16383 ⇒ bytes (0xFE ∷ 0xFF ∷ []))
    ∷ (count (0xFE ∷ 0xFF ∷ []) ⇒ says 16383 2)
    ∷ (shortest 16384 ⇒ bytes (0x04 ∷ 0x00 ∷ 0x02 ∷ []))
    ∷ (count (0x04 ∷ 0x00 ∷ 0x02 ∷ []) ⇒ says 16384 3)
    -- P4
    ∷ (shortest (2 ^ 56 - 1) ⇒ bytes (0x80 ∷ 0xFF ∷ 0xFF ∷ 0xFF ∷ 0xFF ∷ 0xFF ∷ 0xFF ∷ 0xFF ∷ []))
    ∷ (count (0x80 ∷ 0xFF ∷ 0xFF ∷ 0xFF ∷ 0xFF ∷ 0xFF ∷ 0xFF ∷ 0xFF ∷ []) ⇒ says (2 ^ 56 - 1) 8)
    ∷ (shortest (2 ^ 56) ⇒ bytes (0x00 ∷ 0x00 ∷ 0x00 ∷ 0x00 ∷ 0x00 ∷ 0x00 ∷ 0x00 ∷ 0x00 ∷ 0x01 ∷ []))
    ∷ (count (0x00 ∷ 0x00 ∷ 0x00 ∷ 0x00 ∷ 0x00 ∷ 0x00 ∷ 0x00 ∷ 0x00 ∷ 0x01 ∷ []) ⇒ says (2 ^ 56) 9)
    -- P5
    ∷ (encode (Join 1 2) ⇒ word (accepted 0x40000002))
    ∷ (decode 0x40000002 ⇒ entry (accepted (Join 1 2)))
    -- P6
    ∷ (decode 0x0FFFFFFFFFFFFFFF ⇒ entry (accepted (Join (2 ^ 30 - 1) (2 ^ 30 - 1))))
    ∷ (encode (Join (2 ^ 30 - 1) (2 ^ 30 - 1)) ⇒ word (accepted 0x0FFFFFFFFFFFFFFF))
    -- P7
    ∷ (decode 0x2000000100000000 ⇒ entry (refused PAYLOAD 0))
    -- P8
    ∷ (decode 0x6000000000000001 ⇒ entry (accepted Dyn))
    ∷ (encode Dyn ⇒ word (accepted 0x6000000000000000))
    -- P9
    ∷ (decode 0x9000000000000000 ⇒ entry (refused TAG 0))
    -- P10
    ∷ (scan hashless_file
    ⇒ layout
    (accepted
    (record {
      long = 0;
      layout = record {
        node_count = 3;
        internal_node_count = record { 0 = 2 };
        external_node_count = record { 0 = 1 };
        roots_count = 1;
        roots_offset = record { 0 = 11 };
        basic_block_offset = record { 0 = 16 };
        basic_block_len = 1;
        node_entry_offset = record { 0 = 17 };
        external_digest_offset = record { 0 = 41 };
        node_hash_offset = None;
        advice_map_offset = record { 0 = 73 };
      };
    })))
    ∷ (slots hashless_file ⇒ table (0 ∷ 0 ∷ 1 ∷ []))
    ∷ (page hashless_file ⇒ bytes page10)
    -- request 2: at the limit of one, two and eight bytes; each of the four counts of the scan; the map's; a length; and a refused file has no number
    ∷ (count (0xFE ∷ 0x01 ∷ []) ⇒ says_long 127 2)
    ∷ (count (0xFC ∷ 0xFF ∷ 0x01 ∷ []) ⇒ says_long 16383 3)
    ∷ (count (0x00 ∷ 0xFF ∷ 0xFF ∷ 0xFF ∷ 0xFF ∷ 0xFF ∷ 0xFF ∷ 0xFF ∷ 0x00 ∷ []) ⇒ says_long (2 ^ 56 - 1) 9)
    ∷ (long (headed (0x01 ∷ 0x01 ∷ 0x01 ∷ 0x01 ∷ 0x01 ∷ [])) ⇒ longs (accepted (0, 0)))
    ∷ (long (headed (0x02 ∷ 0x00 ∷ 0x01 ∷ 0x01 ∷ 0x01 ∷ 0x01 ∷ [])) ⇒ longs (accepted (1, 0)))
    ∷ (long (headed (0x01 ∷ 0x02 ∷ 0x00 ∷ 0x01 ∷ 0x01 ∷ 0x01 ∷ [])) ⇒ longs (accepted (1, 0)))
    ∷ (long (headed (0x01 ∷ 0x01 ∷ 0x02 ∷ 0x00 ∷ 0x01 ∷ 0x01 ∷ [])) ⇒ longs (accepted (1, 0)))
    ∷ (long (headed (0x01 ∷ 0x01 ∷ 0x01 ∷ 0x02 ∷ 0x00 ∷ 0x01 ∷ [])) ⇒ longs (accepted (1, 0)))
    ∷ (long (headed (0x01 ∷ 0x01 ∷ 0x01 ∷ 0x01 ∷ 0x02 ∷ 0x00 ∷ [])) ⇒ longs (accepted (0, 1)))
    ∷ (long (headed ((0x02 ∷ 0x00 ∷ 0x02 ∷ 0x00 ∷ 0x02 ∷ 0x00 ∷ 0x02 ∷ 0x00 ∷ 0x06 ∷ 0x00 ∷ []) ++ (le_bytes 32 5 ++ (0x02 ∷ 0x00 ∷ [])))) ⇒ longs (accepted (4, 2)))
    ∷ (long (headed (0x02 ∷ 0x00 ∷ 0x01 ∷ 0x01 ∷ 0x01 ∷ [])) ⇒ longs (refused SHORT 13))
    -- request 4: bytes behind a count; a first byte of 0, with seven bytes after it and with eight
    ∷ (count (0x01 ∷ 0xFF ∷ 0xFF ∷ 0xFF ∷ 0xFF ∷ 0xFF ∷ 0xFF ∷ 0xFF ∷ []) ⇒ says 0 1)
    ∷ (count (0x40 ∷ 0x00 ∷ 0x00 ∷ 0x00 ∷ 0x00 ∷ 0x00 ∷ 0x80 ∷ 0xFF ∷ []) ⇒ says (2 ^ 48) 7)
    ∷ (count (0x00 ∷ 0xFF ∷ 0xFF ∷ 0xFF ∷ 0xFF ∷ 0xFF ∷ 0xFF ∷ 0xFF ∷ []) ⇒ counts (refused SHORT 0))
    ∷ (count (0x00 ∷ 0xFF ∷ 0xFF ∷ 0xFF ∷ 0xFF ∷ 0xFF ∷ 0xFF ∷ 0xFF ∷ 0xFF ∷ []) ⇒ says (2 ^ 64 - 1) 9)
    ∷ []

pub answered : map (λ (x : Example). ask x.question) examples ≡ map (λ (x : Example). x.answer) examples
unfolding first_met count_outcome long_ones counted count_length count_trailing_zeros count_value le le_bytes count_form shortest_len least_from decode_outcome decode_rules entry_of bad_tag bad_payload encode_outcome scan_outcome scan_rules bad_format ones ones_in over_budget words_rules externals numbers_of table_after slots_outcome table_rules slots_of count_of node_pass row_outcome row_rules ◌>>=◌ walk_rules walk_end walk_shown is_element not_elements four_at seen_key map_rules walk_outcome quoted decimal_in decimal piece holes_past filled_from hashes_text page_text map_outcome whole_outcome answer_outcome answer_text
answered = refl
