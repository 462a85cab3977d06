-- The laws of texts: stores in a row, the step of a text with holes, and what a write into a buffer leaves.
-- Assumes nothing.
use mathlib.Core.Path.{◌≡◌, refl, sym, ap, ◌∙◌}
use mathlib.Core.Bool.{Bool, true, false}
use mathlib.Core.List.{List, [], ◌∷◌, ◌++◌}
use Prim.Native.Nat.{ℕ, suc, ◌+◌, ◌-◌, ◌/◌, ◌%◌, ◌≤◌, ◌<◌}
use native.Mathlib.Omega.{arith}
use native.Mathlib.Nat.{add-zero, zero-add, add_comm}
use native.Mathlib.Numerals.{add-one}
use borrow.Author.Tests.{lt-ltb, le-ltb, eq-eqb, ne_eqb}
use lib.Dec.{eqb}
use lib.ListN.{length, get_or, set, drop, length-append, drop_of_length-le}
use Rattle.std.proofs.lemmas.Grind.{get_or_after_one}
use lib.Seq.{sets, sets-eq, set_comm, drop-cons}
use Rattle.wire.specs.Table.{Outcome, refused, accepted, first_met, pick}
use Rattle.wire.specs.Refusals.{ROOM, OVERFLOW}
use Rattle.text.specs.Text.{digit, decimal_in, decimal, hole, piece, holes_past, filled_from, filled, text_outcome, with_text, longest, filled_outcome, with_filled}
use Rattle.text.proofs.Decimals.{fitting, last_digit}

-- ---- stores

pub sets_append : (l : List ℕ) (i : ℕ) (xs ys : List ℕ) → sets l i (xs ++ ys) ≡ sets (sets l i xs) (i + length xs) ys
sets_append l i [] ys = rw add-zero
sets_append l i (x ∷ xs) ys =
    let e : i + suc (length xs) ≡ suc i + length xs = omega arith in
    rw e (sets_append (set l i x) (suc i) xs ys)

-- the last one may be stored first
pub sets_last : (l : List ℕ) (i : ℕ) (xs : List ℕ) (y : ℕ) → sets l i (xs ++ (y ∷ [])) ≡ sets (set l (i + length xs) y) i xs
sets_last l i [] y = rw add-zero
sets_last l i (x ∷ xs) y =
    let e : i + suc (length xs) ≡ suc i + length xs = omega arith in
    let n : i ≡ suc i + length xs → ⊥ = λ q. omega arith in
    rw e (sets_last (set l i x) (suc i) xs y ∙ ap (λ s. sets s (suc i) xs) (set_comm l i (suc i + length xs) x y n))

-- of the digits of n from `at` on, those of rest are still to be stored, up to p
pub record Left (out all : List ℕ) (at p rest n : ℕ) : Type 0 where
  pub fits : length (decimal_in (p - at) rest) ≡ p - at
  pub same : sets out at (decimal_in (p - at) rest) ≡ sets all at (decimal n)

pub all_left : (out : List ℕ) (at p n : ℕ) → p ≡ at + length (decimal n) → Left out out at p n n
all_left out at p n h =
    let e : p - at ≡ length (decimal n) = omega arith in
    record { fits = rw e (ap length (fitting n)); same = rw (e, fitting n) }

-- the last one is stored
pub one_less : (out all : List ℕ) (at p rest n : ℕ) → at < p → Left out all at p rest n → Left (set out (p - 1) (digit (rest % 10))) all at (p - 1) (rest / 10) n
one_less out all at p rest n h l =
    let k = p - 1 - at in
    let e : p - at ≡ suc k = omega arith in
    let q : at + k ≡ p - 1 = omega arith in
    let d = last_digit k rest (rw e at l.fits) in
    let s = rw (d.1, q) at (sets_last out at (decimal_in k (rest / 10)) (digit (rest % 10))) in
    record { fits = d.1; same = sym s ∙ ap (sets out at) (sym d.0) ∙ (rw e at l.same) }

pub none_left : (out all : List ℕ) (at p rest n : ℕ) → p ≤ at → Left out all at p rest n → out ≡ sets all at (decimal n)
unfolding decimal_in
none_left out all at p rest n h l =
    let e : p - at ≡ 0 = omega arith in
    rw e at l.same

-- ---- a text with holes

pub piece_plain : (b n : ℕ) → (b ≡ hole → ⊥) → piece b n ≡ b ∷ []
unfolding piece
piece_plain b n h = rw (ne_eqb b hole h)

-- the numbers that are past do not matter
past_first : (text ns : List ℕ) (k : ℕ) → filled_from (k + 1) text ns ≡ filled_from k text (drop 1 ns)
unfolding filled_from holes_past
past_first [] ns k = refl
past_first (b ∷ text) ns k = by_byte (eqb b hole) (past_first text ns (k + 1)) (past_first text ns k)
  where
    by_byte : (m : Bool) → filled_from (k + 1 + 1) text ns ≡ filled_from (k + 1) text (drop 1 ns) → filled_from (k + 1) text ns ≡ filled_from k text (drop 1 ns) →
        piece b (get_or ns (k + 1) 0) ++ filled_from (pick m (k + 1 + 1) (k + 1)) text ns ≡ piece b (get_or (drop 1 ns) k 0) ++ filled_from (pick m (k + 1) k) text (drop 1 ns)
    by_byte true i j = rw (i, get_or_after_one ns k 0, add_comm 1 k)
    by_byte false i j = rw (j, get_or_after_one ns k 0, add_comm 1 k)

module _ (text ns : List ℕ) (i : ℕ) where
  -- a text from a hole on: the first number, and the rest with the others; and from any other byte on
  pub from_hole : i < length text → get_or text i 0 ≡ hole → filled (drop i text) ns ≡ decimal (get_or ns 0 0) ++ filled (drop (i + 1) text) (drop 1 ns)
  unfolding filled_from holes_past piece
  from_hole h e = rw (drop-cons text i 0 h, add-one i, eq-eqb (get_or text i 0) hole e, past_first (drop (suc i) text) ns 0)

  pub from_plain : i < length text → (get_or text i 0 ≡ hole → ⊥) → filled (drop i text) ns ≡ get_or text i 0 ∷ filled (drop (i + 1) text) ns
  unfolding filled_from holes_past piece
  from_plain h e = rw (drop-cons text i 0 h, add-one i, ne_eqb (get_or text i 0) hole e)

  pub from_end : length text ≤ i → filled (drop i text) ns ≡ []
  unfolding filled_from
  from_end h = rw (drop_of_length-le text h)

  -- how long these are
  pub long_hole : i < length text → get_or text i 0 ≡ hole → length (filled (drop i text) ns) ≡ length (decimal (get_or ns 0 0)) + length (filled (drop (i + 1) text) (drop 1 ns))
  long_hole h e = rw (from_hole h e) (length-append (decimal (get_or ns 0 0)) (filled (drop (i + 1) text) (drop 1 ns)))

  pub long_plain : i < length text → (get_or text i 0 ≡ hole → ⊥) → length (filled (drop i text) ns) ≡ 1 + length (filled (drop (i + 1) text) ns)
  long_plain h e = rw (from_plain h e) (omega arith)

  pub long_end : length text ≤ i → length (filled (drop i text) ns) ≡ 0
  long_end h = rw (from_end h)

-- to store the rest after a byte of the text gives what the store from that byte on gives
module _ (text ns out : List ℕ) (i at : ℕ) (inside : i < length text) where
  pub stored_hole : get_or text i 0 ≡ hole →
      sets (sets out at (decimal (get_or ns 0 0))) (at + length (decimal (get_or ns 0 0))) (filled (drop (i + 1) text) (drop 1 ns)) ≡ sets out at (filled (drop i text) ns)
  stored_hole e = rw (from_hole text ns i inside e) (sym (sets_append out at (decimal (get_or ns 0 0)) (filled (drop (i + 1) text) (drop 1 ns))))

  pub stored_plain : (get_or text i 0 ≡ hole → ⊥) → sets (set out at (get_or text i 0)) (at + 1) (filled (drop (i + 1) text) ns) ≡ sets out at (filled (drop i text) ns)
  stored_plain e = rw (from_plain text ns i inside e, add-one at)

-- ---- a text with holes is written into a buffer: what is answered, and what is left there

module _ (out text numbers : List ℕ) where
  pub too_long : longest < length text → filled_outcome out text numbers ≡ refused OVERFLOW (length text)
  unfolding filled_outcome first_met
  too_long h = rw (lt-ltb longest (length text) h)

  pub too_long_left : longest < length text → with_filled out text numbers ≡ out
  unfolding with_filled
  too_long_left h = rw (lt-ltb longest (length text) h)

  pub not_too_long : length text ≤ longest → (filled_outcome out text numbers ≡ text_outcome out (filled text numbers)) × (with_filled out text numbers ≡ with_text out (filled text numbers))
  unfolding filled_outcome with_filled text_outcome first_met
  not_too_long h = (rw (le-ltb longest (length text) h), rw (le-ltb longest (length text) h))

  pub no_room : length text ≤ longest → length out < length (filled text numbers) → filled_outcome out text numbers ≡ refused ROOM (length (filled text numbers))
  unfolding text_outcome first_met
  no_room h g = rw ((not_too_long h).0, lt-ltb (length out) (length (filled text numbers)) g)

  pub no_room_left : length text ≤ longest → length out < length (filled text numbers) → with_filled out text numbers ≡ out
  unfolding with_text
  no_room_left h g = rw ((not_too_long h).1, lt-ltb (length out) (length (filled text numbers)) g)

  pub has_room : length text ≤ longest → length (filled text numbers) ≤ length out → filled_outcome out text numbers ≡ accepted (length (filled text numbers))
  unfolding text_outcome first_met
  has_room h g = rw ((not_too_long h).0, le-ltb (length out) (length (filled text numbers)) g)

  pub has_room_left : length text ≤ longest → length (filled text numbers) ≤ length out → with_filled out text numbers ≡ sets out 0 (filled text numbers)
  unfolding with_text
  has_room_left h g = rw ((not_too_long h).1, le-ltb (length out) (length (filled text numbers)) g) (sym (rw zero-add at (sets-eq (filled text numbers) out 0 (omega arith))))

  -- of a text that is meant: what was answered and left, as of that text
  pub meant : (said : List ℕ) (o : Outcome ℕ) (after : List ℕ) → length text ≤ longest → filled text numbers ≡ said →
      (o ≡ filled_outcome out text numbers) × (after ≡ with_filled out text numbers) → (o ≡ text_outcome out said) × (after ≡ with_text out said)
  meant said o after h e p =
      let k = not_too_long h in
      (p.0 ∙ k.0 ∙ ap (text_outcome out) e, p.1 ∙ k.1 ∙ ap (with_text out) e)

pub ruleset writes = (too_long, too_long_left, no_room, no_room_left, has_room, has_room_left)
