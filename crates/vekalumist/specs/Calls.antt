-- What each function that C has answers: the outcome of the definitions, over what was given as arrays.
use Rattle.std.specs.Prelude.{ℕ, ◌-◌, ◌^◌, Bool, false, ◌||◌, List, [], ◌∷◌, ltb, get_or}
use Rattle.wire.specs.Table.{rule, Outcome, first_met, checked, ◌>>=◌}
use Rattle.wire.specs.Refusals.{PAYLOAD}
use Rattle.wire.specs.Le.{short_rule}
use Rattle.wire.specs.Counts.{count_outcome}
use Rattle.info.specs.Node.{numbers_of, make_outcome}
use Rattle.info.specs.Entry.{decode_outcome, encode_outcome}
use Rattle.layout.specs.Scan.{scan_outcome}
use Rattle.layout.specs.Index.{root_outcome, node_outcome}
use Rattle.checks.specs.Checks.{children_outcome, order_outcome, strict_outcome}
use Rattle.resolved.specs.Digests.{digest_by_counting, digest_with_table}
use Rattle.resolved.specs.Slots.{slots_outcome, table_after}
use Rattle.advice.specs.Walk.{walk_outcome}
use Rattle.advice.specs.Table.{map_entry_outcome}
use Rattle.advice.specs.Lookup.{lookup_outcome}
use Rattle.writer.specs.Parts.{Parts}
use Rattle.writer.specs.Writer.{write_outcome, output_after}
use Rattle.crossing.specs.Arrays.{facts_of, layout_of, bound_of, scanned_row, bound_row, entry_row}
use Rattle.vekalumist.specs.Answers.{laid, count_row, walked_row, map_entry_row, looked_row, part_row}

-- 0.4.0: the major number times 10000, the minor one times 100, and the last
abbrev pub version : ℕ
version = 400

-- ---- counts and entries

abbrev pub count_call : List ℕ → ℕ → Outcome (List ℕ)
count_call s at = laid count_row (count_outcome s at)

abbrev pub decode_call : ℕ → Outcome (List ℕ)
decode_call word = laid entry_row (decode_outcome 0 word)

-- above 2 ^ 32 - 1
abbrev pub wide : ℕ → Bool
wide n = ltb (2 ^ 32 - 1) n

-- one of at most two
abbrev pub wide_any : List ℕ → Bool
wide_any [] = false
wide_any (a ∷ []) = wide a
wide_any (a ∷ (b ∷ more)) = wide a || wide b

-- the entry of a kind and two numbers: a kind above 8 is INDEX [the kind]; a number of the kind that is no number of an entry is PAYLOAD [0], as is an
-- id that is too wide for a word
unfoldable pub encode_call : List ℕ → Outcome ℕ
encode_call row =
    make_outcome (get_or row 0 0) (get_or row 1 0) (get_or row 2 0)
    >>= (λ e. checked (rule PAYLOAD 0 (wide_any (numbers_of e)) ∷ [])
    >>= (λ _. encode_outcome e))

-- ---- a file

-- the flags byte: SHORT [4] where there is none
unfoldable pub flags_call : List ℕ → Outcome ℕ
flags_call s = first_met (short_rule s 4 1 ∷ []) (get_or s 4 0)

abbrev pub scan_call : List ℕ → List ℕ → ℕ → Bool → List ℕ → Outcome (List ℕ)
scan_call s marks most allow bound = laid scanned_row (scan_outcome (facts_of marks most) s allow (bound_of bound))

abbrev pub root_call : List ℕ → List ℕ → ℕ → Outcome ℕ
root_call s layout i = root_outcome s (layout_of layout) i

abbrev pub entry_call : List ℕ → List ℕ → ℕ → Outcome (List ℕ)
entry_call s layout i = laid entry_row (node_outcome s (layout_of layout) i)

abbrev pub children_call : List ℕ → List ℕ → Outcome (Unit {0})
children_call s layout = children_outcome s (layout_of layout)

abbrev pub order_call : List ℕ → List ℕ → Outcome (Unit {0})
order_call s layout = order_outcome s (layout_of layout)

abbrev pub strict_call : List ℕ → List ℕ → Outcome (Unit {0})
strict_call s layout = strict_outcome s (layout_of layout)

-- ---- digests

abbrev pub digest_call : List ℕ → List ℕ → ℕ → Outcome (List ℕ)
digest_call s layout i = digest_by_counting s (layout_of layout) i

abbrev pub digest_table_call : List ℕ → List ℕ → ℕ → List ℕ → Outcome (List ℕ)
digest_table_call s layout i table = digest_with_table s (layout_of layout) i table

abbrev pub slots_call : List ℕ → List ℕ → List ℕ → ℕ → Outcome (List ℕ)
slots_call s layout bound room = laid bound_row (slots_outcome s (layout_of layout) (bound_of bound) room)

abbrev pub slots_after : List ℕ → List ℕ → List ℕ → List ℕ → List ℕ
slots_after s layout bound table = table_after s (layout_of layout) (bound_of bound) table

-- ---- the map

abbrev pub walk_call : ℕ → List ℕ → ℕ → Outcome (List ℕ)
walk_call places s at = laid (walked_row s) (walk_outcome places s at)

abbrev pub map_entry_call : List ℕ → List ℕ → ℕ → Outcome (List ℕ)
map_entry_call s keys i = laid map_entry_row (map_entry_outcome s keys i)

abbrev pub lookup_call : List ℕ → List ℕ → ℕ → List ℕ → Outcome (List ℕ)
lookup_call s keys n key = laid looked_row (lookup_outcome s keys n key)

abbrev pub values_call : List ℕ → List ℕ → ℕ → List ℕ → Outcome (List ℕ)
values_call s keys n key = laid part_row (lookup_outcome s keys n key)

-- ---- the writer

abbrev pub write_call : List ℕ → ℕ → Parts → ℕ → Outcome ℕ
write_call marks most parts room = write_outcome (facts_of marks most) parts room

abbrev pub write_after : List ℕ → ℕ → Parts → List ℕ → List ℕ
write_after marks most parts out = output_after (facts_of marks most) parts out
