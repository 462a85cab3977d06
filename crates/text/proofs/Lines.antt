-- Lines with holes one after the other are one text with all their holes; no text is much longer than its form; and a text without a hole stays
-- as it is.
-- Assumes nothing.
use mathlib.Core.Path.{◌≡◌, refl, sym, ap, ◌∙◌}
use mathlib.Core.Bool.{Bool, true, false}
use mathlib.Core.List.{List, [], ◌∷◌, ◌++◌, append_assoc}
use Prim.Native.Nat.{ℕ, ◌+◌, ◌*◌, ◌≤◌, ◌<◌}
use native.Mathlib.Nat.{add-zero}
use native.Mathlib.Omega.{arith}
use borrow.Author.Tests.{eqb-false}
use lib.Dec.{eqb}
use lib.ListN.{length, get_or, length-append, get_or-append}
use lib.Seq.{get_or-append-add}
use Rattle.wire.specs.Table.{pick}
use Rattle.text.specs.Text.{hole, piece, holes_past, filled_from, filled}
use Rattle.text.proofs.Decimals.{decimal_short}
use Rattle.text.proofs.Texts.{piece_plain}

-- how many holes a text has
abbrev pub holes : List ℕ → ℕ
holes [] = 0
holes (b ∷ text) = pick (eqb b hole) 1 0 + holes text

-- of a byte, hole or not: the number after it, and that its number is among the first ones
module _ (b k rest : ℕ) (ns ms : List ℕ) where
  next_number : (m : Bool) → eqb b hole ≡ m → k + (pick (eqb b hole) 1 0 + rest) ≡ holes_past b k + rest
  unfolding holes_past
  next_number true e = rw e (omega arith)
  next_number false e = rw e (omega arith)

  same_piece : (m : Bool) → eqb b hole ≡ m → k + (pick (eqb b hole) 1 0 + rest) ≤ length ns → piece b (get_or (ns ++ ms) k 0) ≡ piece b (get_or ns k 0)
  unfolding piece
  same_piece true e h = let g : k + (1 + rest) ≤ length ns = rw e at h in let i : k < length ns = omega arith in rw (get_or-append ns ms 0 k i)
  same_piece false e h = rw e

-- a text and another after it: the numbers of the first come first
first_of : (s t ns ms : List ℕ) (k : ℕ) → k + holes s ≤ length ns → filled_from k (s ++ t) (ns ++ ms) ≡ filled_from k s ns ++ filled_from (k + holes s) t (ns ++ ms)
unfolding filled_from
first_of [] t ns ms k h = rw add-zero
first_of (b ∷ s) t ns ms k h =
    let e = next_number b k (holes s) ns ms (eqb b hole) refl in
    let p = same_piece b k (holes s) ns ms (eqb b hole) refl h in
    let i = first_of s t ns ms (holes_past b k) (rw e at h) in
    rw (e, p, i) (sym (append_assoc (piece b (get_or ns k 0)) (filled_from (holes_past b k) s ns) (filled_from (holes_past b k + holes s) t (ns ++ ms))))

-- and those of the second follow
later : (b n k : ℕ) → holes_past b (n + k) ≡ n + holes_past b k
unfolding holes_past
later b n k = by_byte (eqb b hole)
  where
    by_byte : (m : Bool) → pick m (n + k + 1) (n + k) ≡ n + pick m (k + 1) k
    by_byte true = omega arith
    by_byte false = refl

second_of : (t ns ms : List ℕ) (k : ℕ) → filled_from (length ns + k) t (ns ++ ms) ≡ filled_from k t ms
unfolding filled_from
second_of [] ns ms k = refl
second_of (b ∷ t) ns ms k = rw (get_or-append-add ns ms k 0, later b (length ns) k, second_of t ns ms (holes_past b k))

pub lines : (s t ns ms : List ℕ) → holes s ≡ length ns → filled (s ++ t) (ns ++ ms) ≡ filled s ns ++ filled t ms
lines s t ns ms h =
    let e : 0 + holes s ≡ length ns + 0 = omega arith in
    let f : 0 + holes s ≤ length ns = omega arith in
    first_of s t ns ms 0 f ∙ ap (λ x. filled_from 0 s ns ++ x) (rw e (second_of t ns ms 0))

-- ---- no text is much longer than its form

short_piece : (b n : ℕ) (m : Bool) → eqb b hole ≡ m → length (piece b n) ≤ 20 * pick (eqb b hole) 1 0 + 1
unfolding piece
short_piece b n true e = rw e (omega (arith, decimal_short n))
short_piece b n false e = rw e (omega arith)

pub filled_short : (text numbers : List ℕ) (k : ℕ) → length (filled_from k text numbers) ≤ 20 * holes text + length text
unfolding filled_from
filled_short [] numbers k = omega arith
filled_short (b ∷ text) numbers k =
    omega
    (arith, length-append (piece b (get_or numbers k 0)) (filled_from (holes_past b k) text numbers), short_piece b (get_or numbers k 0) (eqb b hole) refl, filled_short text numbers (holes_past b k))

-- ---- a text without a hole stays as it is

plain_byte : (b n rest : ℕ) (m : Bool) → eqb b hole ≡ m → pick m 1 0 + rest ≡ 0 → (piece b n ≡ b ∷ []) × (rest ≡ 0)
plain_byte b n rest true e h = absurd (omega arith)
plain_byte b n rest false e h = (piece_plain b n (eqb-false b hole e), omega arith)

pub plain : (text numbers : List ℕ) (k : ℕ) → holes text ≡ 0 → filled_from k text numbers ≡ text
unfolding filled_from
plain [] numbers k h = refl
plain (b ∷ text) numbers k h =
    let p = plain_byte b (get_or numbers k 0) (holes text) (eqb b hole) refl h in
    rw (p.0, plain text numbers (holes_past b k) p.1)
