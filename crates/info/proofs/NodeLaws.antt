-- The laws of the vocabulary of nodes.
--     each_tag, by_tag                  the cases of a tag, and of one that reads
--     kind_is_tag, numbers_single, ..   the kind of what a tag and a payload read as is the tag, and its numbers are those of the payload
--     decoded_kind                      so the kind of what a word decodes to is the word's tag
--     decoded_external, decoded_class   and so are the questions that the kind answers
--     class_there                       a class can be had back from its place in the order
--     entry_rebuilt, kind_made          an entry can be had back from its kind and numbers, and a kind from what it makes
-- Assumes nothing.
use mathlib.Core.Path.{◌≡◌, refl, sym, ap, ◌∙◌}
use mathlib.Core.List.{List, [], ◌∷◌}
use Prim.Native.Nat.{ℕ, zero, suc, ◌/◌, ◌%◌, ◌^◌, ◌<◌, ◌≤◌}
use native.Mathlib.Omega.{arith}
use borrow.Author.Tests.{ltb-false, lt-ltb, le-ltb}
use lib.Dec.{ltb, eqb}
use lib.ListN.{get_or}
use Rattle.wire.specs.Table.{accepted, pick}
use Rattle.wire.proofs.Tables.{accepted_none}
use Rattle.info.specs.Node.{kind_of, numbers_of, is_external, class_of, entry_with}
use Rattle.info.specs.Entry.{tag_of, payload_of, entry_from, entry_of, bad_tag, decode_rules, decode_outcome}
use Rattle.info.specs.Shown.{shown_class}
use Rattle.info.proofs.Answers.{class_back}
use Rattle.info.specs.declared.MastNodeEntry.{MastNodeEntry}
use Rattle.info.specs.declared.MastNodeEntry.TheVariants.{Join, Split, Loop, Block, Call, SysCall, Dyn, Dyncall, External}

-- ---- by the tag

pub each_tag : (P : ℕ → Type 0) → P 0 → P 1 → P 2 → P 3 → P 4 → P 5 → P 6 → P 7 → P 8 → ((t : ℕ) → P (suc (suc (suc (suc (suc (suc (suc (suc (suc t)))))))))) → (t : ℕ) → P t
each_tag P a b c d e f g h i more zero = a
each_tag P a b c d e f g h i more (suc zero) = b
each_tag P a b c d e f g h i more (suc (suc zero)) = c
each_tag P a b c d e f g h i more (suc (suc (suc zero))) = d
each_tag P a b c d e f g h i more (suc (suc (suc (suc zero)))) = e
each_tag P a b c d e f g h i more (suc (suc (suc (suc (suc zero))))) = f
each_tag P a b c d e f g h i more (suc (suc (suc (suc (suc (suc zero)))))) = g
each_tag P a b c d e f g h i more (suc (suc (suc (suc (suc (suc (suc zero))))))) = h
each_tag P a b c d e f g h i more (suc (suc (suc (suc (suc (suc (suc (suc zero)))))))) = i
each_tag P a b c d e f g h i more (suc (suc (suc (suc (suc (suc (suc (suc (suc t))))))))) = more t

pub by_tag : (P : ℕ → Type 0) → P 0 → P 1 → P 2 → P 3 → P 4 → P 5 → P 6 → P 7 → P 8 → (t : ℕ) → t ≤ 8 → P t
by_tag P a b c d e f g h i t l =
    each_tag (λ t. t ≤ 8 → P t) (λ l. a) (λ l. b) (λ l. c) (λ l. d) (λ l. e) (λ l. f) (λ l. g) (λ l. h) (λ l. i) (λ t l. absurd (omega arith)) t l

pub kind_made : (k a b : ℕ) → k ≤ 8 → kind_of (entry_with k a b) ≡ k
kind_made k a b h = by_tag (λ t. kind_of (entry_with t a b) ≡ t) refl refl refl refl refl refl refl refl refl k h

pub entry_rebuilt : (e : MastNodeEntry) → entry_with (kind_of e) (get_or (numbers_of e) 0 0) (get_or (numbers_of e) 1 0) ≡ e
entry_rebuilt (Join left right) = refl
entry_rebuilt (Split then else) = refl
entry_rebuilt (Loop body) = refl
entry_rebuilt (Block offset) = refl
entry_rebuilt (Call callee) = refl
entry_rebuilt (SysCall callee) = refl
entry_rebuilt Dyn = refl
entry_rebuilt Dyncall = refl
entry_rebuilt External = refl

-- ---- what a tag and a payload read as

-- two ids, one number, or none
abbrev numbers_for : ℕ → ℕ → List ℕ
numbers_for t p = pick (ltb t 2) (p / 2 ^ 30 ∷ p % 2 ^ 30 ∷ []) (pick (ltb t 6) (p ∷ []) [])

module _ (t p : ℕ) where
  pub kind_is_tag : t ≤ 8 → kind_of (entry_from t p) ≡ t
  kind_is_tag h = kind_made t _ _ h

  numbers_read : t ≤ 8 → numbers_of (entry_from t p) ≡ numbers_for t p
  numbers_read h = by_tag (λ t. numbers_of (entry_from t p) ≡ numbers_for t p) refl refl refl refl refl refl refl refl refl t h

  pub numbers_single : 2 ≤ t → t < 6 → numbers_of (entry_from t p) ≡ p ∷ []
  numbers_single l m = let h : t ≤ 8 = omega arith in numbers_read h ∙ rw (le-ltb t 2 l, lt-ltb t 6 m)

  pub numbers_none : 6 ≤ t → t ≤ 8 → numbers_of (entry_from t p) ≡ []
  numbers_none l h = let two : 2 ≤ t = omega arith in numbers_read h ∙ rw (le-ltb t 2 two, le-ltb t 6 l)

-- ---- what a word decodes to

module _ (at w : ℕ) (e : MastNodeEntry) (said : decode_outcome at w ≡ accepted e) where
  pub decoded_kind : kind_of e ≡ tag_of w
  unfolding decode_outcome decode_rules entry_of bad_tag
  decoded_kind =
      let k = accepted_none (decode_rules at w) (entry_of w) e said in
      ap kind_of (sym k.1) ∙ kind_is_tag (tag_of w) (payload_of w) (ltb-false 8 (tag_of w) k.0.0)

  pub decoded_external : is_external e ≡ eqb (tag_of w) 8
  decoded_external = rw decoded_kind

  pub decoded_class : class_of e ≡ pick (eqb (tag_of w) 8) 0 (pick (eqb (tag_of w) 3) 1 2)
  decoded_class = rw decoded_kind

-- a class is had back from its place in the order
pub class_there : (e : MastNodeEntry) → shown_class (class_back (class_of e)) ≡ class_of e
class_there (Join left right) = refl
class_there (Split then else) = refl
class_there (Loop body) = refl
class_there (Block offset) = refl
class_there (Call callee) = refl
class_there (SysCall callee) = refl
class_there Dyn = refl
class_there Dyncall = refl
class_there External = refl
