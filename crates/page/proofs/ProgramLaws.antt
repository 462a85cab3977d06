-- The laws of the small program: words in a list of bytes, the complaints' lines, and what is said.
-- Assumes nothing.
use mathlib.Core.Path.{◌≡◌, refl, ap, ◌∙◌}
use mathlib.Core.Bool.{Bool, true, false}
use mathlib.Core.List.{List, [], ◌∷◌}
use Prim.Native.Nat.{ℕ, zero, suc, ◌+◌, ◌≤◌}
use native.Mathlib.Omega.{arith}
use borrow.Author.Tests.{le-ltb}
use lib.Dec.{eqb}
use lib.ListN.{length, get_or, drop, length-append}
use Rattle.std.proofs.Common.{cond, count_by, Option, Some, None, option_map, unwrap_or, slice_get, Bor, sym, Result, Ok, Err, ◌⊎◌, inl, inr, is_err}
use Rattle.std.specs.List.{slice_split, onto_first}
use Rattle.std.proofs.lemmas.Option.{unwrap_or-slice_get}
use Rattle.std.proofs.lemmas.List.Recursion.{is_count_by}
use Rattle.wire.specs.Table.{Outcome, pick, first_met}
use Rattle.layout.specs.declared.facts.FormatFacts.{FormatFacts}
use Rattle.text.specs.Text.{bytes, filled, longest, text_outcome, with_text}
use Rattle.text.specs.Marks.{before, past}
use Rattle.text.specs.Shown.{text_len}
use Rattle.text.proofs.Lines.{holes, plain}
use Rattle.page.specs.Program.{word_at, word_count, command_check, command_wrong, complaint_text, Stream, Saying, output, error, saying_of, places, program_says, said_on, said, text_first}
use Rattle.page.specs.declared.program.Said.{Said}
use Rattle.page.specs.declared.program.Said.TheVariants.{Output, Error}
use Rattle.page.specs.declared.words.WrongWords.{WrongWords}
use Rattle.page.specs.declared.words.WrongWords.TheVariants.{Count, Magic, Version, Hashless, Reserved, Maximum}
use Rattle.page.proofs.AnswerLaws.{answer_short}

-- ---- words

pub word_count_is : (s : List ℕ) → word_count s ≡ count_by (λ b. eqb b 0) s
unfolding word_count
word_count_is s = is_count_by word_count (λ b. eqb b 0) refl (λ b s. by_byte s (eqb b 0)) s
  where
    by_byte : (s : List ℕ) (m : Bool) → pick m (1 + word_count s) (word_count s) ≡ cond m (1 + word_count s) (word_count s)
    by_byte s true = refl
    by_byte s false = refl

no_words : (k : ℕ) → word_at k [] ≡ []
unfolding word_at before past
no_words zero = refl
no_words (suc k) = no_words k

-- cut at zeros, a list is what is before the first zero, and the same of what is past it, or nothing where there is no zero
abbrev Cut : List ℕ → Type 0
Cut s = (slice_split (λ b. eqb b 0) s ≡ before 0 s ∷ slice_split (λ b. eqb b 0) (past 0 s)) ⊎ ((slice_split (λ b. eqb b 0) s ≡ before 0 s ∷ []) × (past 0 s ≡ []))

cut : (s : List ℕ) → Cut s
unfolding before past
cut [] = inr (refl, refl)
cut (b ∷ s) = by_byte (eqb b 0) (cut s)
  where
    by_byte : (m : Bool) → Cut s → (cond m ([] ∷ slice_split (λ b. eqb b 0) s) (onto_first b (slice_split (λ b. eqb b 0) s)) ≡ pick m [] (b ∷ before 0 s) ∷ slice_split (λ b. eqb b 0) (pick m s (past 0 s)))
        ⊎ ((cond m ([] ∷ slice_split (λ b. eqb b 0) s) (onto_first b (slice_split (λ b. eqb b 0) s)) ≡ pick m [] (b ∷ before 0 s) ∷ []) × (pick m s (past 0 s) ≡ []))
    by_byte true h = inl refl
    by_byte false (inl h) = inl (rw h)
    by_byte false (inr h) = inr (rw h.0, h.1)

pub word_at_is : (k : ℕ) (s : List ℕ) → word_at k s ≡ get_or (slice_split (λ b. eqb b 0) s) k []
unfolding word_at
word_at_is zero s = first (cut s)
  where
    first : Cut s → before 0 s ≡ get_or (slice_split (λ b. eqb b 0) s) 0 []
    first (inl h) = rw h
    first (inr h) = rw h.0
word_at_is (suc k) s = later (cut s) (word_at_is k (past 0 s))
  where
    later : Cut s → word_at k (past 0 s) ≡ get_or (slice_split (λ b. eqb b 0) (past 0 s)) k [] → word_at k (past 0 s) ≡ get_or (slice_split (λ b. eqb b 0) s) (suc k) []
    later (inl h) i = rw (h, i)
    later (inr h) i = rw (h.0, h.1) (no_words k)

-- the piece at a place, or none
pub piece_said : (k : ℕ) (s : List ℕ) (r : Option (Bor (List ℕ))) (none : Bor (List ℕ)) → none.now ≡ [] → option_map (λ x. x.now) r ≡ slice_get (slice_split (λ b. eqb b 0) s) k →
    (unwrap_or r none).now ≡ word_at k s
piece_said k s r none e found =
    rw (word_at_is k s, sym (unwrap_or-slice_get (slice_split (λ b. eqb b 0) s) k []), sym found) (by_piece r)
  where
    by_piece : (r : Option (Bor (List ℕ))) → (unwrap_or r none).now ≡ unwrap_or (option_map (λ x. x.now) r) []
    by_piece (Some x) = refl
    by_piece None = e

-- ---- the complaints

-- none has a hole, or is long
complaint_plain : (wrong : WrongWords) → (holes (complaint_text wrong) ≡ 0) × (length (complaint_text wrong) ≤ 512)
unfolding complaint_text bytes
complaint_plain Count = (refl, omega arith)
complaint_plain Magic = (refl, omega arith)
complaint_plain Version = (refl, omega arith)
complaint_plain Hashless = (refl, omega arith)
complaint_plain Reserved = (refl, omega arith)
complaint_plain Maximum = (refl, omega arith)

pub complaint_fits : (wrong : WrongWords) → length (complaint_text wrong) ≤ longest
complaint_fits wrong = omega (arith, complaint_plain wrong)

pub complaint_as : (wrong : WrongWords) (numbers : List ℕ) → filled (complaint_text wrong) numbers ≡ complaint_text wrong
complaint_as wrong numbers = plain (complaint_text wrong) numbers 0 (complaint_plain wrong).0

-- ---- what is said

-- where the words are wrong, the input does not matter
pub wrong_unread : (words s t : List ℕ) → command_wrong words ≡ true → program_says words s ≡ program_says words t
unfolding program_says command_wrong
wrong_unread words s t h = by_check (command_check words) h
  where
    by_check : (c : Result FormatFacts WrongWords) → is_err c ≡ true → saying_of c s ≡ saying_of c t
    by_check (Ok facts) e = cc
    by_check (Err wrong) e = refl

-- no text has more than 512 bytes

saying_short : (c : Result FormatFacts WrongWords) (input : List ℕ) → length (saying_of c input).text ≤ 512
saying_short (Ok facts) input = answer_short facts places input
saying_short (Err wrong) input = (complaint_plain wrong).1

abbrev pub said_len : Said → ℕ
said_len (Output n) = n
said_len (Error n) = n

on_either : (s : Stream) (n : ℕ) → said_len (said_on s n) ≡ n
on_either output n = refl
on_either error n = refl

-- what is said lies in the buffer
pub said_inside : (words input out after : List ℕ) (r : Said) → r ≡ said (program_says words input) → after ≡ text_first (program_says words input).text out → said_len r ≤ length after
said_inside words input out after r e p =
    let x = program_says words input in
    rw (e, on_either x.stream (length x.text), p, length-append x.text (drop (length x.text) out)) (omega arith)

-- a text that fits is written whole
module _ (out text : List ℕ) (n : ℕ) (o : Outcome ℕ) (fits : length text ≤ length out) where
  pub written_whole : n ≡ text_len o → o ≡ text_outcome out text → n ≡ length text
  unfolding text_outcome first_met
  written_whole e p = e ∙ ap text_len p ∙ rw (le-ltb (length out) (length text) fits)

  pub text_first_lem : with_text out text ≡ text_first text out
  unfolding with_text
  text_first_lem = rw (le-ltb (length out) (length text) fits)

-- so what is said of the checked words is their saying, and stands in the buffer
module _ (words input out : List ℕ) (n : ℕ) (o : Outcome ℕ) (c : Result FormatFacts WrongWords) (room : length out ≡ 512) (counted : n ≡ text_len o) (checked : c ≡ command_check words) where
  pub spoken : o ≡ text_outcome out (saying_of c input).text →
      (said_on (saying_of c input).stream n ≡ said (program_says words input)) × (with_text out (saying_of c input).text ≡ text_first (program_says words input).text out)
  unfolding program_says
  spoken p =
      let x = saying_of c input in
      let fits : length x.text ≤ length out = omega (arith, saying_short c input) in
      let e : x ≡ saying_of (command_check words) input = rw checked in
      (rw (written_whole out x.text n o fits counted p) (ap said e), text_first_lem out x.text n o fits ∙ ap (λ (y : Saying). text_first y.text out) e)
