-- The page is one text: its lines with holes one after the other; and no page or refusal is long.
-- Assumes nothing.
use mathlib.Core.Path.{◌≡◌, refl, sym, ap, ◌∙◌}
use mathlib.Core.List.{List, [], ◌∷◌, ◌++◌}
use Prim.Native.Nat.{ℕ, ◌+◌, ◌*◌, ◌≤◌}
use native.Mathlib.Omega.{arith}
use lib.ListN.{length}
use Rattle.std.specs.Prelude.{Option, Some, None}
use Rattle.wire.specs.declared.units.ByteOffset.{ByteOffset}
use Rattle.layout.specs.declared.forest.ForestLayout.{ForestLayout}
use Rattle.text.specs.Text.{bytes, filled, longest}
use Rattle.text.proofs.Lines.{holes, lines, filled_short}
use Rattle.page.specs.Page.{nodes_line, roots_line, blocks_line, entries_line, digests_line, hashes_line, no_hashes_line, advice_line, refusal_line, hashes_text, page_text, refusal_text}

-- the page's sixth line as a text, with its numbers
abbrev pub hashes_form : Option ByteOffset → List ℕ
hashes_form (Some at) = hashes_line
hashes_form None = no_hashes_line

abbrev pub hashes_numbers : Option ByteOffset → List ℕ
hashes_numbers (Some at) = at.0 ∷ []
hashes_numbers None = []

as_many : (h : Option ByteOffset) → holes (hashes_form h) ≡ length (hashes_numbers h)
unfolding bytes
as_many (Some at) = refl
as_many None = refl

sixth : (h : Option ByteOffset) → filled (hashes_form h) (hashes_numbers h) ≡ hashes_text h
unfolding hashes_text
sixth (Some at) = refl
sixth None = refl

abbrev pub page_form : Option ByteOffset → List ℕ
page_form h = nodes_line ++ (roots_line ++ (blocks_line ++ (entries_line ++ (digests_line ++ (hashes_form h ++ advice_line)))))

-- filled it has at most 512 bytes
form_short : (h : Option ByteOffset) → 20 * holes (page_form h) + length (page_form h) ≤ 512
unfolding bytes
form_short (Some at) = omega arith
form_short None = omega arith

pub form_fits : (h : Option ByteOffset) → length (page_form h) ≤ longest
form_fits h = omega (arith, form_short h)

module _ (l : ForestLayout) (end : ℕ) where
  abbrev nodes_numbers : List ℕ
  nodes_numbers = l.node_count ∷ l.internal_node_count.0 ∷ l.external_node_count.0 ∷ []

  abbrev roots_numbers : List ℕ
  roots_numbers = l.roots_count ∷ l.roots_offset.0 ∷ []

  abbrev blocks_numbers : List ℕ
  blocks_numbers = l.basic_block_len ∷ l.basic_block_offset.0 ∷ []

  abbrev entries_numbers : List ℕ
  entries_numbers = l.node_entry_offset.0 ∷ []

  abbrev digests_numbers : List ℕ
  digests_numbers = l.external_digest_offset.0 ∷ []

  abbrev advice_numbers : List ℕ
  advice_numbers = l.advice_map_offset.0 ∷ end ∷ []

  abbrev pub page_numbers : Option ByteOffset → List ℕ
  page_numbers h = nodes_numbers ++ (roots_numbers ++ (blocks_numbers ++ (entries_numbers ++ (digests_numbers ++ (hashes_numbers h ++ advice_numbers)))))

  whole : (h : Option ByteOffset) → filled (page_form h) (page_numbers h) ≡
      filled nodes_line nodes_numbers ++ (filled roots_line roots_numbers ++ (filled blocks_line blocks_numbers ++ (filled entries_line entries_numbers ++ (filled digests_line digests_numbers ++ (hashes_text h ++ filled advice_line advice_numbers)))))
  unfolding bytes
  whole h =
      lines nodes_line _ nodes_numbers _ refl
      ∙ ap (λ x. filled nodes_line nodes_numbers ++ x)
      (lines roots_line _ roots_numbers _ refl
      ∙ ap (λ x. filled roots_line roots_numbers ++ x)
      (lines blocks_line _ blocks_numbers _ refl
      ∙ ap (λ x. filled blocks_line blocks_numbers ++ x)
      (lines entries_line _ entries_numbers _ refl
      ∙ ap (λ x. filled entries_line entries_numbers ++ x)
      (lines digests_line _ digests_numbers _ refl
      ∙ ap (λ x. filled digests_line digests_numbers ++ x)
      (lines (hashes_form h) advice_line (hashes_numbers h) advice_numbers (as_many h) ∙ ap (λ x. x ++ filled advice_line advice_numbers) (sixth h))))))

  pub page_whole : (h : Option ByteOffset) → l.node_hash_offset ≡ h → filled (page_form h) (page_numbers h) ≡ page_text l end
  unfolding page_text
  page_whole h e = rw e (whole h)

  pub page_short : length (page_text l end) ≤ 512
  page_short =
      let h = l.node_hash_offset in
      rw (sym (page_whole h refl)) (omega (arith, filled_short (page_form h) (page_numbers h) 0, form_short h))

pub refusal_short : (n p : ℕ) → length (refusal_text n p) ≤ 512
unfolding refusal_text bytes
refusal_short n p = omega (arith, filled_short refusal_line (n ∷ p ∷ []) 0)
