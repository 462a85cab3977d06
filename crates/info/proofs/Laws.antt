-- The laws of the node entry's two directions.
--     encoded_decodes     what is encoded decodes to the same entry
--     decoded_encodes     what decodes encodes to the word's canonical form (decoded-word: its word is that)
--     canonical_exactly   that is the word itself exactly if its tag is below 6 or its payload is zero
-- Assumes nothing.
use mathlib.Core.Path.{◌≡◌, refl, ◌∙◌}
use mathlib.Core.Bool.{Bool, true, false, ◌&&◌, ◌||◌}
use mathlib.Core.List.{[], ◌∷◌}
use mathlib.Core.Logic.{◌⊎◌, inl, inr, ⊎_elim, ◌↔◌}
use Prim.Native.Nat.{ℕ, ◌+◌, ◌*◌, ◌-◌, ◌/◌, ◌%◌, ◌^◌, ◌<◌, ◌≤◌}
use native.Mathlib.Nat.{div-add-mod'}
use native.Mathlib.Omega.{arith}
use borrow.Author.Tests.{ltb-true, ltb-false, leb-false, lt-leb, le-ltb}
use lib.Dec.{ltb, leb}
use lib.Pow.{high, low}
use Rattle.wire.specs.Table.{accepted, pick, first_met, rule}
use Rattle.wire.specs.Refusals.{PAYLOAD}
use Rattle.wire.proofs.Tables.{accepted_none}
use Rattle.info.specs.Entry.{tag_of, payload_of, entry_from, entry_of, bad_tag, bad_payload, decode_rules, decode_outcome, word_of, wide_id, wide_ids, encode_outcome, canonical, Held}
use Rattle.info.specs.declared.MastNodeEntry.{MastNodeEntry}
use Rattle.info.specs.declared.MastNodeEntry.TheVariants.{Join, Split, Loop, Block, Call, SysCall, Dyn, Dyncall, External}
use Rattle.info.proofs.Cases.{single_fits}
use Rattle.info.proofs.NodeLaws.{by_tag}

abbrev wide_for : ℕ → ℕ → Bool
wide_for t p = (leb 2 t && leb t 5) && ltb (2 ^ 32 - 1) p

-- ---- written, then read

decode_word : (at t p : ℕ) → p < 2 ^ 60 → ltb 8 t ≡ false → wide_for t p ≡ false → decode_outcome at (t * 2 ^ 60 + p) ≡ accepted (entry_from t p)
unfolding decode_outcome decode_rules first_met entry_of bad_tag bad_payload
decode_word at t p h a b = rw (high t 60 h, low t 60 h, a, b)

or_false : (a b : Bool) → (a || b) ≡ false → (a ≡ false) × (b ≡ false)
or_false true b e = (cc, cc)
or_false false b e = (refl, e)

-- ids that are not wide
narrow : (a b : ℕ) → (wide_id a || wide_id b) ≡ false → (a < 2 ^ 30) × (b < 2 ^ 30)
narrow a b e = let h = or_false (wide_id a) (wide_id b) e in (leb-false (2 ^ 30) a h.0, leb-false (2 ^ 30) b h.1)

pair_read : (at t : ℕ) (kind : ℕ → ℕ → MastNodeEntry) (a b : ℕ) → t < 2 → ((p : ℕ) → entry_from t p ≡ kind (p / 2 ^ 30) (p % 2 ^ 30))
    → (wide_id a || wide_id b) ≡ false → decode_outcome at (t * 2 ^ 60 + (a * 2 ^ 30 + b)) ≡ accepted (kind a b)
pair_read at t kind a b h is e =
    let n = narrow a b e in
    let p = a * 2 ^ 30 + b in
    decode_word at t p (omega arith) (le-ltb 8 t (omega arith)) (rw (lt-leb 2 t h)) ∙ rw (is p, high a 30 n.1, low a 30 n.1)

pub encoded_decodes : (at : ℕ) (e : MastNodeEntry) (w : ℕ) → Held e → encode_outcome e ≡ accepted w → decode_outcome at w ≡ accepted e
unfolding encode_outcome
encoded_decodes at e w held said =
    let k = accepted_none (rule PAYLOAD 0 (wide_ids e) ∷ []) (word_of e) w said in
    rw (← k.1) (go e held k.0.0)
  where
    go : (e : MastNodeEntry) → Held e → wide_ids e ≡ false → decode_outcome at (word_of e) ≡ accepted e
    go (Join a b) h n = pair_read at 0 Join a b (omega arith) (λ p. refl) n
    go (Split a b) h n = pair_read at 1 Split a b (omega arith) (λ p. refl) n
    go (Loop a) h n = decode_word at 2 a (omega (arith, h.0)) refl (single_fits a h.0)
    go (Block a) h n = decode_word at 3 a (omega (arith, h.0)) refl (single_fits a h.0)
    go (Call a) h n = decode_word at 4 a (omega (arith, h.0)) refl (single_fits a h.0)
    go (SysCall a) h n = decode_word at 5 a (omega (arith, h.0)) refl (single_fits a h.0)
    go Dyn h n = decode_word at 6 0 (omega arith) refl refl
    go Dyncall h n = decode_word at 7 0 (omega arith) refl refl
    go External h n = decode_word at 8 0 (omega arith) refl refl

-- ---- read, then written

encode_pair : (kind : ℕ → ℕ → MastNodeEntry) (t p : ℕ) → p < 2 ^ 60
    → ((a b : ℕ) → (wide_id a || wide_id b) ≡ false → encode_outcome (kind a b) ≡ accepted (t * 2 ^ 60 + (a * 2 ^ 30 + b)))
    → encode_outcome (kind (p / 2 ^ 30) (p % 2 ^ 30)) ≡ accepted (t * 2 ^ 60 + p)
encode_pair kind t p h write =
    let a : p / 2 ^ 30 < 2 ^ 30 = omega arith in
    let b : p % 2 ^ 30 < 2 ^ 30 = omega arith in
    rw (div-add-mod' p (2 ^ 30)) at (write (p / 2 ^ 30) (p % 2 ^ 30) (rw (lt-leb (2 ^ 30) (p / 2 ^ 30) a, lt-leb (2 ^ 30) (p % 2 ^ 30) b)))

-- by the tag: the same payload up to tag 5, and 0 from 6 on
rewritten : (t p : ℕ) → p < 2 ^ 60 → t ≤ 8 → encode_outcome (entry_from t p) ≡ accepted (t * 2 ^ 60 + pick (ltb t 6) p 0)
unfolding encode_outcome first_met
rewritten t p h n =
    by_tag (λ t. encode_outcome (entry_from t p) ≡ accepted (t * 2 ^ 60 + pick (ltb t 6) p 0))
    (encode_pair Join 0 p h (λ a b e. rw e)) (encode_pair Split 1 p h (λ a b e. rw e)) refl refl refl refl refl refl refl t n

pub decoded_encodes : (at w : ℕ) (e : MastNodeEntry) → decode_outcome at w ≡ accepted e → encode_outcome e ≡ accepted (canonical w)
unfolding decode_outcome decode_rules entry_of bad_tag
decoded_encodes at w e said =
    let k = accepted_none (decode_rules at w) (entry_of w) e said in
    rw (← k.1) (rewritten (tag_of w) (payload_of w) (omega arith) (ltb-false 8 (tag_of w) k.0.0))

-- so its word is that form
pub decoded_word : (at w : ℕ) (e : MastNodeEntry) → decode_outcome at w ≡ accepted e → word_of e ≡ canonical w
unfolding encode_outcome
decoded_word at w e said = (accepted_none (rule PAYLOAD 0 (wide_ids e) ∷ []) (word_of e) (canonical w) (decoded_encodes at w e said)).1

-- ---- canonical words

same_word : (w : ℕ) → (tag_of w < 6) ⊎ (payload_of w ≡ 0) → canonical w ≡ w
same_word w h = go (ltb (tag_of w) 6) refl
  where
    go : (t : Bool) → ltb (tag_of w) 6 ≡ t → tag_of w * 2 ^ 60 + pick t (payload_of w) 0 ≡ w
    go true e = div-add-mod' w (2 ^ 60)
    go false e = ⊎_elim (λ l. absurd (omega (arith, ltb-false (tag_of w) 6 e))) (λ z. omega arith) h

word_same : (w : ℕ) → canonical w ≡ w → (tag_of w < 6) ⊎ (payload_of w ≡ 0)
word_same w h = go (ltb (tag_of w) 6) refl h
  where
    go : (t : Bool) → ltb (tag_of w) 6 ≡ t → tag_of w * 2 ^ 60 + pick t (payload_of w) 0 ≡ w → (tag_of w < 6) ⊎ (payload_of w ≡ 0)
    go true e q = inl (ltb-true (tag_of w) 6 e)
    go false e q = inr (omega arith)

pub canonical_exactly : (at w : ℕ) (e : MastNodeEntry) → decode_outcome at w ≡ accepted e → (encode_outcome e ≡ accepted w) ↔ ((tag_of w < 6) ⊎ (payload_of w ≡ 0))
canonical_exactly at w e said =
    let r = decoded_encodes at w e said in
    (λ written. word_same w (cc), λ h. rw (same_word w h) at r)
