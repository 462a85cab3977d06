-- The 8-byte node entry: the top 4 of 64 bits are the tag, the 60 below are the payload.
use Rattle.std.specs.Prelude.{ℕ, ◌+◌, ◌-◌, ◌*◌, ◌/◌, ◌%◌, ◌^◌, Bool, false, ◌&&◌, ◌||◌, List, [], ◌∷◌, ltb, leb}
use Rattle.wire.specs.Table.{Rule, rule, Outcome, pick, first_met, At}
use Rattle.wire.specs.Refusals.{TAG, PAYLOAD}
use Rattle.wire.specs.Le.{le_at, short_rule}
use Rattle.wire.specs.Rows.{Below}
use Rattle.info.specs.declared.MastNodeEntry.{MastNodeEntry}
use Rattle.info.specs.Node.{kind_of, numbers_of, entry_with}

abbrev pub tag_of : ℕ → ℕ
tag_of w = w / 2 ^ 60

abbrev pub payload_of : ℕ → ℕ
payload_of w = w % 2 ^ 60

-- ---- reading

-- the entry of a tag and a payload: Join and Split have two ids of 30 bits, left one higher; the others take all of it as one number, or leave it
abbrev pub entry_from : ℕ → ℕ → MastNodeEntry
entry_from t p = entry_with t (pick (ltb t 2) (p / 2 ^ 30) p) (p % 2 ^ 30)

-- the entry of a word; past the last tag TAG has refused
unfoldable pub entry_of : ℕ → MastNodeEntry
entry_of w = entry_from (tag_of w) (payload_of w)

-- tags 9 to 15
unfoldable pub bad_tag : ℕ → Bool
bad_tag w = ltb 8 (tag_of w)

-- a payload of Loop, Block, Call or SysCall above 2 ^ 32 - 1
unfoldable pub bad_payload : ℕ → Bool
bad_payload w = (leb 2 (tag_of w) && leb (tag_of w) 5) && ltb (2 ^ 32 - 1) (payload_of w)

-- the rules of a word, at a place
unfoldable pub decode_rules : ℕ → ℕ → List Rule
decode_rules at w = rule TAG at (bad_tag w) ∷ rule PAYLOAD at (bad_payload w) ∷ []

unfoldable pub decode_outcome : ℕ → ℕ → Outcome MastNodeEntry
decode_outcome at w = first_met (decode_rules at w) (entry_of w)

-- an entry at a place: SHORT, TAG, PAYLOAD, all [the place]
unfoldable pub entry_rules : List ℕ → ℕ → List Rule
entry_rules s at = short_rule s at 8 ∷ decode_rules at (le_at s at 8)

unfoldable pub entry_outcome : List ℕ → ℕ → Outcome (At MastNodeEntry)
entry_outcome s at = first_met (entry_rules s at) (record { value = entry_of (le_at s at 8); next = at + 8 })

-- ---- writing

-- the payload of an entry's numbers; Dyn, Dyncall and External have none
abbrev pub payload_with : List ℕ → ℕ
payload_with [] = 0
payload_with (a ∷ []) = a
payload_with (a ∷ (b ∷ more)) = a * 2 ^ 30 + b

abbrev pub word_of : MastNodeEntry → ℕ
word_of e = kind_of e * 2 ^ 60 + payload_with (numbers_of e)

-- an id of 2 ^ 30 or more
abbrev pub wide_id : ℕ → Bool
wide_id id = leb (2 ^ 30) id

-- one of two
abbrev pub wide_pair : List ℕ → Bool
wide_pair [] = false
wide_pair (a ∷ []) = false
wide_pair (a ∷ (b ∷ more)) = wide_id a || wide_id b

abbrev pub wide_ids : MastNodeEntry → Bool
wide_ids e = wide_pair (numbers_of e)

-- an id of 2 ^ 30 or more in Join or Split: PAYLOAD [0]
unfoldable pub encode_outcome : MastNodeEntry → Outcome ℕ
encode_outcome e = first_met (rule PAYLOAD 0 (wide_ids e) ∷ []) (word_of e)

-- the written form of the entry that a word reads as
abbrev pub canonical : ℕ → ℕ
canonical w = tag_of w * 2 ^ 60 + pick (ltb (tag_of w) 6) (payload_of w) 0

-- The numbers of an entry are of 32 bits, as the code holds them.
abbrev pub Held : MastNodeEntry → Type 0
Held e = Below (2 ^ 32) (numbers_of e)
