-- The cases of a word's entry as a row, of an entry by index, and of the entry of a kind and two numbers.
-- Assumes nothing.
use mathlib.Core.Path.{◌≡◌, refl, ap, ◌∙◌}
use mathlib.Core.Bool.{Bool, true, false, ◌||◌}
use mathlib.Core.List.{List, [], ◌∷◌}
use Prim.Native.Nat.{ℕ, ◌+◌, ◌-◌, ◌*◌, ◌^◌, ◌≤◌, ◌<◌}
use native.Mathlib.Omega.{arith}
use borrow.Author.Tests.{lt-ltb, le-ltb, ltb-true, ltb-false, le-leb, lt-leb}
use lib.Dec.{ltb}
use lib.ListN.{length, get_or}
use Rattle.wire.specs.Table.{Outcome, rule, refused, accepted, pick, first_met, checked, ◌>>=◌}
use Rattle.wire.specs.Refusals.{SHORT, OVERFLOW, PAYLOAD, INDEX}
use Rattle.wire.specs.Le.{is_short}
use Rattle.info.specs.Node.{numbers_of, make_outcome}
use Rattle.info.specs.Entry.{tag_of, payload_of, entry_of, bad_tag, bad_payload, decode_rules, decode_outcome, encode_outcome}
use Rattle.info.specs.declared.MastNodeEntry.{MastNodeEntry}
use Rattle.info.specs.declared.MastNodeEntry.TheVariants.{Join, Split, Loop, Block, Call, SysCall, External}
use Rattle.info.proofs.NodeLaws.{each_tag, kind_is_tag, numbers_single, numbers_none}
use Rattle.std.specs.Prelude.{Option, Some, None}
use Rattle.wire.specs.declared.units.ByteOffset.{ByteOffset}
use Rattle.rows.specs.Rows.{row_at, row_over, row_place, row_word, row_rules, row_outcome}
use Rattle.rows.proofs.RowLaws.{row_over_lem, inside_row}
use Rattle.layout.proofs.IndexLaws.{no_node, node_row}
use Rattle.crossing.specs.Arrays.{layout_of, entry_row}
use Rattle.vekalumist.specs.Answers.{laid}
use Rattle.vekalumist.specs.Calls.{wide, wide_any, encode_call, entry_call}
use Rattle.vekalumist.specs.Inner.{number_of_entry, entry_of_kind}

-- ---- a word

module _ (i w : ℕ) where
  pub bare_row : 5 < tag_of w → tag_of w ≤ 8 → laid entry_row (decode_outcome i w) ≡ accepted (tag_of w ∷ 0 ∷ 0 ∷ [])
  unfolding decode_outcome decode_rules bad_tag bad_payload entry_of first_met
  bare_row l h =
      let two : 2 ≤ tag_of w = omega arith in
      rw (le-ltb 8 (tag_of w) h, le-leb 2 (tag_of w) two, lt-leb (tag_of w) 5 l, kind_is_tag (tag_of w) (payload_of w) h, numbers_none (tag_of w) (payload_of w) l h)

  pub single_row : 2 ≤ tag_of w → tag_of w ≤ 5 → payload_of w ≤ 2 ^ 32 - 1 → laid entry_row (decode_outcome i w) ≡ accepted (tag_of w ∷ payload_of w ∷ 0 ∷ [])
  unfolding decode_outcome decode_rules bad_tag bad_payload entry_of first_met
  single_row l h p =
      let e : tag_of w ≤ 8 = omega arith in
      let six : tag_of w < 6 = omega arith in
      rw (le-ltb 8 (tag_of w) e, le-leb 2 (tag_of w) l, le-leb (tag_of w) 5 h, le-ltb (2 ^ 32 - 1) (payload_of w) p, kind_is_tag (tag_of w) (payload_of w) e, numbers_single (tag_of w) (payload_of w) l six)

pub ruleset rows = (bare_row, single_row)

-- ---- an entry by index, over twelve numbers

not_le : (a b : ℕ) → (a + 8 ≤ b → ⊥) → b < a + 8
not_le a b h = go (ltb b (a + 8)) refl
  where
    go : (t : Bool) → ltb b (a + 8) ≡ t → b < a + 8
    go true e = ltb-true b (a + 8) e
    go false e = absurd (h (ltb-false b (a + 8) e))

pub not_over : (first i : ℕ) → (row_place first 8 i ≡ None → ⊥) → row_over first 8 i ≡ false
not_over first i placed = go (row_over first 8 i) placed
  where
    go : (t : Bool) → (pick {A = Option ByteOffset} t None (Some (record { 0 = row_at first 8 i })) ≡ None → ⊥) → t ≡ false
    go true k = absurd (k refl)
    go false k = refl

module _ (s row : List ℕ) (i : ℕ) where
  abbrev first : ℕ
  first = get_or row 7 0

  abbrev at : ℕ
  at = row_at first 8 i

  pub past_nodes : get_or row 0 0 ≤ i → entry_call s row i ≡ refused INDEX i
  unfolding layout_of
  past_nodes n = ap (laid entry_row) (no_node s (layout_of row) i n)

  module _ (n : i < get_or row 0 0) where
    of_row : entry_call s row i ≡ laid entry_row (row_outcome s first i)
    unfolding layout_of
    of_row = ap (laid entry_row) (node_row s (layout_of row) i n)

    pub past_end : row_over first 8 i ≡ true → entry_call s row i ≡ refused OVERFLOW i
    past_end over = of_row ∙ ap (laid entry_row) (row_over_lem s first i over)

    short_row : row_over first 8 i ≡ false → is_short s at 8 ≡ true → row_outcome s first i ≡ refused SHORT i
    unfolding first_met row_outcome row_rules
    short_row below cut = rw (below, cut)

    pub past_file : row_over first 8 i ≡ false → (first + 8 * (i + 1) ≤ length s → ⊥) → entry_call s row i ≡ refused SHORT i
    past_file below out =
        of_row ∙ ap (laid entry_row) (short_row below (lt-ltb (length s) (first + 8 * i + 8) (not_le (first + 8 * i) (length s) (λ k. out (omega arith)))))

    -- a row inside the file says what its word decodes to
    pub word_there : length s < 2 ^ 64 → first + 8 * (i + 1) ≤ length s → entry_call s row i ≡ laid entry_row (decode_outcome i (row_word s first i))
    word_there fits inside = of_row ∙ ap (laid entry_row) (inside_row s first i (i + 1) inside fits (omega arith))

-- ---- the entry of a kind and two numbers

either_wide : (x y : Bool) (a b : ℕ) (e : ℕ → ℕ → MastNodeEntry)
    → (pick (x || y) (refused PAYLOAD 0) (accepted (tt {0})) >>= (λ _. accepted (e a b)))
    ≡ (pick x (refused PAYLOAD 0) (accepted a) >>= (λ a. pick y (refused PAYLOAD 0) (accepted b) >>= (λ b. accepted (e a b))))
unfolding ◌>>=◌
either_wide true y a b e = refl
either_wide false true a b e = refl
either_wide false false a b e = refl

one_wide : (x : Bool) (a : ℕ) (e : ℕ → MastNodeEntry)
    → (pick x (refused PAYLOAD 0) (accepted (tt {0})) >>= (λ _. accepted (e a))) ≡ (pick x (refused PAYLOAD 0) (accepted a) >>= (λ a. accepted (e a)))
unfolding ◌>>=◌
one_wide true a e = refl
one_wide false a e = refl

none_wide : (high : Bool) (kind : ℕ)
    → (pick high (refused INDEX kind) (accepted External) >>= (λ e. checked (rule PAYLOAD 0 (wide_any (numbers_of e)) ∷ []) >>= (λ _. accepted e)))
    ≡ pick high (refused INDEX kind) (accepted External)
unfolding first_met ◌>>=◌
none_wide true kind = refl
none_wide false kind = refl

module _ (kind a b : ℕ) where
  pub pair_stages : kind < 2 → entry_of_kind kind a b ≡ (number_of_entry a >>= (λ a. number_of_entry b >>= (λ b. make_outcome kind a b)))
  unfolding entry_of_kind make_outcome first_met ◌>>=◌
  pair_stages h = each_tag (λ k. k < 2 → entry_of_kind k a b ≡ (number_of_entry a >>= (λ a. number_of_entry b >>= (λ b. make_outcome k a b))))
      (λ h. either_wide (wide a) (wide b) a b Join) (λ h. either_wide (wide a) (wide b) a b Split)
      (λ h. absurd (omega arith)) (λ h. absurd (omega arith)) (λ h. absurd (omega arith)) (λ h. absurd (omega arith))
      (λ h. absurd (omega arith)) (λ h. absurd (omega arith)) (λ h. absurd (omega arith)) (λ t h. absurd (omega arith)) kind h

  pub single_stages : 2 ≤ kind → kind < 6 → entry_of_kind kind a b ≡ (number_of_entry a >>= (λ a. make_outcome kind a 0))
  unfolding entry_of_kind make_outcome first_met ◌>>=◌
  single_stages m l = each_tag (λ k. 2 ≤ k → k < 6 → entry_of_kind k a b ≡ (number_of_entry a >>= (λ a. make_outcome k a 0)))
      (λ m l. absurd (omega arith)) (λ m l. absurd (omega arith))
      (λ m l. one_wide (wide a) a Loop) (λ m l. one_wide (wide a) a Block) (λ m l. one_wide (wide a) a Call) (λ m l. one_wide (wide a) a SysCall)
      (λ m l. absurd (omega arith)) (λ m l. absurd (omega arith)) (λ m l. absurd (omega arith)) (λ t m l. absurd (omega arith)) kind m l

  pub bare_stages : 6 ≤ kind → entry_of_kind kind a b ≡ make_outcome kind 0 0
  unfolding entry_of_kind make_outcome first_met ◌>>=◌
  bare_stages l = each_tag (λ k. 6 ≤ k → entry_of_kind k a b ≡ make_outcome k 0 0)
      (λ l. absurd (omega arith)) (λ l. absurd (omega arith)) (λ l. absurd (omega arith)) (λ l. absurd (omega arith)) (λ l. absurd (omega arith)) (λ l. absurd (omega arith))
      (λ l. refl) (λ l. refl) (λ l. refl) (λ t l. none_wide _ _) kind l

regroup : (m : Outcome MastNodeEntry) (judged : MastNodeEntry → Outcome (Unit {0})) (k : MastNodeEntry → Outcome ℕ)
    → (m >>= (λ e. judged e >>= (λ _. k e))) ≡ ((m >>= (λ e. judged e >>= (λ _. accepted e))) >>= k)
unfolding ◌>>=◌
regroup (refused n p) judged k = refl
regroup (accepted e) judged k = go (judged e)
  where
    go : (o : Outcome (Unit {0})) → (o >>= (λ _. k e)) ≡ ((o >>= (λ _. accepted e)) >>= k)
    go (refused n p) = refl
    go (accepted u) = refl

pub encode_stages : (row : List ℕ) → encode_call row ≡ (entry_of_kind (get_or row 0 0) (get_or row 1 0) (get_or row 2 0) >>= encode_outcome)
unfolding encode_call entry_of_kind
encode_stages row = regroup (make_outcome (get_or row 0 0) (get_or row 1 0) (get_or row 2 0)) (λ e. checked (rule PAYLOAD 0 (wide_any (numbers_of e)) ∷ [])) encode_outcome
