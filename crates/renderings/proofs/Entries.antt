-- Entry words: what their rules say of them; and the written form of an entry word reads as the same entry.
-- Assumes nothing.
use mathlib.Core.Path.{◌≡◌, refl, ap, sym, ◌∙◌}
use mathlib.Core.List.{List, [], ◌∷◌, map}
use mathlib.Core.Bool.{false, ◌&&◌}
use mathlib.Core.Logic.{◌↔◌}
use Prim.Native.Nat.{ℕ, suc, ◌+◌, ◌-◌, ◌^◌, ◌<◌}
use native.Mathlib.Nat.{mod-lt}
use native.Mathlib.Omega.{arith}
use borrow.Author.Tests.{ltb-false}
use lib.Dec.{ltb, leb, lit<}
use lib.ListN.{length}
use Rattle.wire.specs.Table.{accepted, NoneMet, pick}
use Rattle.wire.specs.Rows.{Below}
use Rattle.wire.proofs.Tables.{accepted_none, none_accepted}
use Rattle.info.specs.Node.{is_external}
use Rattle.info.specs.Entry.{tag_of, payload_of, entry_from, entry_of, bad_tag, bad_payload, decode_rules, decode_outcome, word_of, canonical, Held}
use Rattle.info.specs.declared.MastNodeEntry.{MastNodeEntry}
use Rattle.info.proofs.NodeLaws.{each_tag}
use Rattle.info.proofs.Laws.{encoded_decodes, decoded_encodes, decoded_word}
use Rattle.layout.specs.Scan.{words_rules, externals}
use Rattle.writer.specs.Writer.{written}

-- every word is an entry
abbrev pub Entries : List ℕ → Type 0
Entries [] = Unit {0}
Entries (w ∷ ws) = ((bad_tag w ≡ false) × (bad_payload w ≡ false)) × Entries ws

pub entries_mean : (step at : ℕ) (ws : List ℕ) → NoneMet (words_rules step at ws) ↔ Entries ws
unfolding words_rules decode_rules
entries_mean step at [] = (λ n. tt, λ n. tt)
entries_mean step at (w ∷ ws) =
    let ih = entries_mean step (at + step) ws in
    (λ n. ((n.0, n.1.0), ih.0 n.1.1), λ n. (n.0.0, (n.0.1, ih.1 n.1)))

-- ---- the numbers of what a tag and a payload say

kind_below : (t p : ℕ) → p < 2 ^ 60 → word_of (entry_from t p) < 2 ^ 64
kind_below t p h =
    each_tag (λ t. word_of (entry_from t p) < 2 ^ 64)
    (omega arith)
    (omega arith)
    (omega arith)
    (omega arith)
    (omega arith)
    (omega arith)
    (lit< tt)
    (lit< tt)
    (lit< tt)
    (λ t. lit< tt)
    t

kind_held : (t p : ℕ) → p < 2 ^ 60 → ((leb 2 t && leb t 5) && ltb (2 ^ 32 - 1) p) ≡ false → Held (entry_from t p)
kind_held t p h n =
    each_tag (λ t. ((leb 2 t && leb t 5) && ltb (2 ^ 32 - 1) p) ≡ false → Held (entry_from t p))
    (λ n. (omega arith, (omega arith, tt)))
    (λ n. (omega arith, (omega arith, tt)))
    (λ n. (omega (arith, ltb-false (2 ^ 32 - 1) p n), tt))
    (λ n. (omega (arith, ltb-false (2 ^ 32 - 1) p n), tt))
    (λ n. (omega (arith, ltb-false (2 ^ 32 - 1) p n), tt))
    (λ n. (omega (arith, ltb-false (2 ^ 32 - 1) p n), tt))
    (λ n. tt)
    (λ n. tt)
    (λ n. tt)
    (λ t n. tt)
    t
    n

-- ---- a word, written again

written_one : (w : ℕ) → word_of (entry_of w) < 2 ^ 64
unfolding entry_of
written_one w = kind_below (tag_of w) (payload_of w) (mod-lt w (lit< tt))

again : (w : ℕ) → bad_tag w ≡ false → bad_payload w ≡ false
    → (bad_tag (word_of (entry_of w)) ≡ false) × (bad_payload (word_of (entry_of w)) ≡ false) × (entry_of (word_of (entry_of w)) ≡ entry_of w)
unfolding decode_outcome decode_rules entry_of bad_payload
again w t p =
    let e = entry_of w in
    let said : decode_outcome 0 w ≡ accepted e = none_accepted (decode_rules 0 w) e (t, (p, tt)) in
    let back = encoded_decodes 0 e (canonical w) (kind_held (tag_of w) (payload_of w) (mod-lt w (lit< tt)) p) (decoded_encodes 0 w e said) in
    let r = accepted_none (decode_rules 0 (canonical w)) (entry_of (canonical w)) e back in
    rw (decoded_word 0 w e said) (r.0.0, r.0.1.0, r.1)

-- ---- words, written again

pub written_read : (ws : List ℕ) → Entries ws → map entry_of (written ws) ≡ map entry_of ws
written_read [] h = refl
written_read (w ∷ ws) h = rw ((again w h.0.0 h.0.1).2, written_read ws h.1)

pub written_entries : (ws : List ℕ) → Entries ws → Entries (written ws)
written_entries [] h = tt
written_entries (w ∷ ws) h = let g = again w h.0.0 h.0.1 in ((g.0, g.1), written_entries ws h.1)

pub written_below : (ws : List ℕ) → Below (2 ^ 64) (written ws)
written_below [] = tt
written_below (w ∷ ws) = (written_one w, written_below ws)

pub length-written : (ws : List ℕ) → length (written ws) ≡ length ws
length-written [] = refl
length-written (w ∷ ws) = ap suc (length-written ws)

-- ---- what is said of words is said of their entries

abbrev externals_read : List MastNodeEntry → ℕ
externals_read [] = 0
externals_read (e ∷ es) = pick (is_external e) 1 0 + externals_read es

externals_read_lem : (ws : List ℕ) → externals ws ≡ externals_read (map entry_of ws)
unfolding externals
externals_read_lem [] = refl
externals_read_lem (w ∷ ws) = rw (externals_read_lem ws)

written_of : (ws : List ℕ) → written ws ≡ map word_of (map entry_of ws)
written_of [] = refl
written_of (w ∷ ws) = rw (written_of ws)

-- words that read as the same entries
module _ (vs ws : List ℕ) (same : map entry_of vs ≡ map entry_of ws) where
  pub same_externals : externals vs ≡ externals ws
  same_externals = externals_read_lem vs ∙ ap externals_read same ∙ sym (externals_read_lem ws)

  pub same_written : written vs ≡ written ws
  same_written = written_of vs ∙ ap (map word_of) same ∙ sym (written_of ws)
