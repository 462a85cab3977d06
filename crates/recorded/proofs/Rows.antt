-- What a call says is the row that is recorded of it.
-- Assumes nothing.
use Rattle.std.proofs.Common.{◌≡◌, ℕ, List, [], ◌∷◌, ◌++◌, ◌∙◌}
use Rattle.std.specs.List.{AllZip}
use Rattle.std.proofs.lemmas.List.Elements.{same_from_all_zip}
use Rattle.wire.specs.Table.{Outcome}
use Rattle.vekalumist.specs.Answers.{number_in, answered, placed}
use Rattle.writer.specs.Shown.{lent}
use Rattle.recorded.specs.Calls.{told, check_told}

-- lent memory in its width, where that is of numbers
pub in_width : (l wide : List ℕ) → AllZip (λ x n. n ≡ x) l wide → wide ≡ l
in_width l wide h = same_from_all_zip (λ x n. n ≡ x) l wide h (λ x n r. r)

-- what is told of an answer
abbrev Told : ℕ → ℕ → List ℕ → List ℕ → List ℕ → Type 0
Told returned place answer lent row = (wide : List ℕ) × AllZip (λ x n. n ≡ x) lent wide × (row ≡ returned ∷ place ∷ (answer ++ wide))

-- the number, the answer and the place that a call gives of an outcome, and the lent memory, held against a row
pub row_told : {A : Type 0} (numbers : A → List ℕ) (before : A) (o : Outcome A) {o' : Outcome A} {returned place : ℕ} {answer : A} {lent after row : List ℕ} → o' ≡ o →
    returned ≡ number_in o' → answer ≡ answered before o' → place ≡ placed 900 o' → lent ≡ after → Told returned place (numbers answer) lent row →
    row ≡ told numbers before o after
unfolding told
row_told numbers before o same number answer place lent (wide, width, held) = held ∙ rw (in_width _ wide width, number, answer, place, lent, same)

-- of a check
pub check_told_lem : (o : Outcome (Unit {0})) {o' : Outcome (Unit {0})} {returned place : ℕ} (lent : List ℕ) {row : List ℕ} → o' ≡ o → returned ≡ number_in o' → place ≡ placed 900 o' →
    Told returned place [] lent row → row ≡ check_told o lent
unfolding check_told
check_told_lem o lent same number place (wide, width, held) = held ∙ rw (in_width _ wide width, number, place, same)
