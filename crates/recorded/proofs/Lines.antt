-- The laws of lines: the first one is what is cut off, a case that agrees, and what is left of a tally after each line.
-- Assumes nothing.
use Rattle.std.proofs.Common.{◌≡◌, ℕ, ◌+◌, ◌<◌, ◌≤◌, Bool, true, false, eqb, List, [], ◌∷◌, length, take, drop, sym, refl, ap, ◌∙◌, arith, eq-eqb, ne_eqb}
use Rattle.text.specs.Marks.{before, past}
use Rattle.recorded.specs.Text.{numbers_in, on_first, lines_in}
use Rattle.recorded.specs.Calls.{call_row}
use Rattle.recorded.specs.Agreed.{same_numbers, first_group, lent_group, recorded_group, agrees, is_file, agreed_in}

-- ---- the first line

line_step : (b : ℕ) (l : List ℕ) (t : Bool) → eqb b 10 ≡ t → on_first b (lines_in l) ≡ (b ∷ before 10 l) ∷ lines_in (past 10 l) →
    lines_in (b ∷ l) ≡ before 10 (b ∷ l) ∷ lines_in (past 10 (b ∷ l))
unfolding lines_in before past
line_step b l true e h = rw e
line_step b l false e h = rw e h

first_line : (b : ℕ) (l : List ℕ) → lines_in (b ∷ l) ≡ before 10 (b ∷ l) ∷ lines_in (past 10 (b ∷ l))
unfolding lines_in before past
first_line b [] = line_step b [] (eqb b 10) refl refl
first_line b (c ∷ l) = line_step b (c ∷ l) (eqb b 10) refl (ap (on_first b) (first_line c l))

pub lines_cut : (l line after : List ℕ) → 0 < length l → line ≡ before 10 l → after ≡ past 10 l → lines_in l ≡ line ∷ lines_in after
lines_cut [] line after p f q = absurd (omega arith)
lines_cut (b ∷ l) line after p f q = first_line b l ∙ rw (f, q)

-- ---- a case

same_refl : (l : List ℕ) → same_numbers l l ≡ true
unfolding same_numbers
same_refl [] = refl
same_refl (x ∷ l) = rw (eq-eqb x x refl) (same_refl l)

-- the groups of a line, of which the first has the call and what it is given
pub case_agrees : (s line all lent row given : List ℕ) (call : ℕ) → all ≡ first_group line → lent ≡ lent_group line → row ≡ recorded_group line → all ≡ call ∷ given →
    row ≡ call_row call s given lent → agrees s line ≡ true
unfolding agrees
case_agrees s line all lent row given call f l r e said =
    let g : first_group line ≡ call ∷ given = sym f ∙ e in
    rw (g, sym l, sym r, said) (same_refl (call_row call s given lent))

-- ---- a file

pub file_line : (line rest : List ℕ) → line ≡ 61 ∷ rest → (is_file line ≡ true) × (rest ≡ drop 1 line)
unfolding is_file
file_line line rest e = (rw e, rw e)

pub case_line : (line : List ℕ) → ((rest : List ℕ) → line ≡ 61 ∷ rest → ⊥) → is_file line ≡ false
unfolding is_file
case_line [] h = refl
case_line (b ∷ line) h = ne_eqb b 61 (λ e. h line (rw e))

-- ---- the tally

-- so many agreed of the lines before the rest, and those of the rest are counted over the file as it is
pub record Tallied (text file rest : List ℕ) (n agreed : ℕ) : Type 0 where
  pub room : n ≤ length file
  pub left : agreed + agreed_in (take n file) (lines_in rest) ≤ agreed_in [] (lines_in text)

module _ (text file rest line after : List ℕ) (n agreed : ℕ) (h : Tallied text file rest n agreed) (some : 0 < length rest) (first : line ≡ before 10 rest) (later : after ≡ past 10 rest) where
  lines : lines_in rest ≡ line ∷ lines_in after
  lines = lines_cut rest line after some first later

  -- after a file
  pub file_tallied : is_file line ≡ true → (file' : List ℕ) (n' : ℕ) → n' ≤ length file' → take n' file' ≡ numbers_in (drop 1 line) → Tallied text file' after n' agreed
  unfolding agreed_in
  file_tallied e file' n' r f = record { room = r; left = rw f (rw (lines, e) at h.left) }

  -- after a case that agrees
  pub case_tallied : is_file line ≡ false → agrees (take n file) line ≡ true → Tallied text file after n (agreed + 1)
  unfolding agreed_in
  case_tallied e a = let l = rw (lines, e, a) at h.left in record { room = h.room; left = omega arith }
