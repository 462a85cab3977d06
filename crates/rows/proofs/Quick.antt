-- Why the surveys are right: what they gather of the upper halves shows that every row has an entry.
-- Assumes nothing.
use mathlib.Core.Path.{◌≡◌, refl, sym, ◌∙◌}
use mathlib.Core.Bool.{◌&&◌}
use mathlib.Core.List.{[], ◌∷◌}
use Prim.Native.Nat.{ℕ, ◌+◌, ◌*◌, ◌-◌, ◌/◌, ◌%◌, ◌^◌, ◌<◌, ◌≤◌}
use native.Mathlib.Nat.{add_assoc}
use native.Mathlib.Omega.{arith}
use lib.Bits.{bit_or, or_mod, or_add_and, and_le_l, and_le_r}
use lib.Dec.{ltb, leb}
use Rattle.wire.specs.Table.{Outcome, rule, accepted, first_met, ◌>>=◌}
use Rattle.wire.specs.Refusals.{TAG, PAYLOAD}
use Rattle.info.specs.Entry.{entry_from, entry_of, bad_tag, bad_payload, decode_rules, decode_outcome}
use Rattle.info.specs.declared.MastNodeEntry.{MastNodeEntry}
use Rattle.info.proofs.Cases.{single_fits}
use Rattle.info.proofs.NodeLaws.{by_tag}
use Rattle.rows.specs.Rows.{count_external, Begun, Onward, Narrow}
use Rattle.rows.proofs.Pass.{step_next}

-- an `or` ends in zeros only if both sides do
or_zero : (a b : ℕ) → bit_or a b ≡ 0 → (a ≡ 0) × (b ≡ 0)
or_zero a b h =
    (omega (arith, or_add_and a b, and_le_r a b), omega (arith, or_add_and a b, and_le_l a b))

pub or_zeros : (a b k : ℕ) → bit_or a b % 2 ^ k ≡ 0 → (a % 2 ^ k ≡ 0) × (b % 2 ^ k ≡ 0)
or_zeros a b k h = or_zero (a % 2 ^ k) (b % 2 ^ k) (sym (or_mod a b k) ∙ h)

-- a row that says what a tag and a payload say, counted
abbrev counted : ℕ → ℕ → ℕ → ℕ → Outcome ℕ
counted i t p e =
    first_met (rule TAG i (ltb 8 t) ∷ rule PAYLOAD i ((leb 2 t && leb t 5) && ltb (2 ^ 32 - 1) p) ∷ []) (entry_from t p) >>= count_external i e

-- by the tag: a tag below 9, with a payload that fits, has an entry; the count grows with tag 8
tag_read : (t p i e : ℕ) → t < 9 → (2 ≤ t → t < 6 → p < 2 ^ 32) → counted i t p e ≡ accepted (e + t / 8)
unfolding first_met ◌>>=◌
tag_read t p i e h f =
    by_tag (λ t. (2 ≤ t → t < 6 → p < 2 ^ 32) → counted i t p e ≡ accepted (e + t / 8))
    (λ f. refl)
    (λ f. refl)
    (λ f. rw (single_fits p (f (omega arith) (omega arith))))
    (λ f. rw (single_fits p (f (omega arith) (omega arith))))
    (λ f. rw (single_fits p (f (omega arith) (omega arith))))
    (λ f. rw (single_fits p (f (omega arith) (omega arith))))
    (λ f. refl)
    (λ f. refl)
    (λ f. refl)
    t
    (omega arith)
    f

-- the same by the word's upper half
half_read : (w h i e : ℕ) → h ≡ w / 2 ^ 32 → h < 9 * 2 ^ 28 → Narrow h → (decode_outcome i w >>= count_external i e) ≡ accepted (e + h / 2 ^ 31)
unfolding decode_outcome decode_rules entry_of bad_tag bad_payload
half_read w h i e q low f =
    let tag : h / 2 ^ 31 ≡ w / 2 ^ 60 / 8 = omega arith in
    rw tag
    (tag_read (w / 2 ^ 60) (w % 2 ^ 60) i e (omega arith) (λ two six. omega (arith, f (omega arith) (omega arith))))

-- one row more, whose upper half is in order
half_next : (read : ℕ → Outcome MastNodeEntry) (i e w h : ℕ) → read i ≡ decode_outcome i w → h ≡ w / 2 ^ 32 → h < 9 * 2 ^ 28 → Narrow h →
    Begun read i e → Begun read (i + 1) (e + h / 2 ^ 31)
half_next read i e w h row q low f begun =
    (omega arith, rw (step_next read count_external 0 i e begun.1, row) (half_read w h i e q low f))

-- one row more: what was gathered before is gathered still, and covers this row
pub survey_next : (read : ℕ → Outcome MastNodeEntry) (i e w h singles single top top' : ℕ) → read i ≡ decode_outcome i w → h ≡ w / 2 ^ 32 →
    (2 * 2 ^ 28 ≤ h → h < 6 * 2 ^ 28 → single ≡ h) → (top ≤ top') × (h ≤ top') →
    (singles % 2 ^ 28 ≡ 0 → top < 9 * 2 ^ 28 → Begun read i e) →
    bit_or singles single % 2 ^ 28 ≡ 0 → top' < 9 * 2 ^ 28 → Begun read (i + 1) (e + h / 2 ^ 31)
survey_next read i e w h singles single top top' row q f larger so_far zeros low =
    let z : (singles % 2 ^ 28 ≡ 0) × (single % 2 ^ 28 ≡ 0) = or_zeros singles single 28 zeros in
    half_next read i e w h row q (omega arith) (λ two six. rw (f two six) at z.1) (so_far z.0 (omega arith))

-- one row more after the rows from some row on
pub onward_next : (read : ℕ → Outcome MastNodeEntry) (from i more w half : ℕ) → read i ≡ decode_outcome i w → half ≡ w / 2 ^ 32 → half < 9 * 2 ^ 28 → Narrow half →
    Onward read from i more → Onward read from (i + 1) (more + half / 2 ^ 31)
onward_next read from i more w half row q low narrow so_far before begun =
    rw (← add_assoc before more (half / 2 ^ 31)) (half_next read i (before + more) w half row q low narrow (so_far before begun))
