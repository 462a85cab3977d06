-- The public functions of view. Each asks nothing of its caller, and its promise allows one result. None is lent memory that it may write to. Of the
-- four functions that take or make a view the same is said over their own clauses, in every model and whatever is at exit (`AnswersIn`).
-- Assumes nothing.
use mathlib.Core.Path.{◌≡◌, sym, ◌∙◌}
use seplogic.Ra.Ura.{Ura}
use base.Logic.{SProp, ent, emp, sep, id⊢}
use prog.Memory.{Memory}
use prog.Routine.{Routine}
use types.Logic.{Logic}
use contract.Lifetimes.{Lfts}
use contract.Monad.{Fun, fact, fact_mono}
use denote.Triple.Clauses.{Ended, Clauses, AtExit}
use denote.Triple.Entry.{Args, Res}
use denote.Triple.Walked.{needs}
use Rattle.view.specs.contracts.ForestView.new as v_new
use Rattle.view.specs.contracts.ForestView.root as v_root
use Rattle.view.specs.contracts.ForestView.entry as v_entry
use Rattle.view.specs.contracts.ForestView.digest as v_digest
use Rattle.view.proofs.root_in.Reads as root_in
use Rattle.view.proofs.entry_in.Reads as entry_in
use Rattle.view.proofs.digest_in.Reads as digest_in
use Rattle.promises.proofs.Terms.{Answers, answers, one_shown, one_by}

-- nothing is asked, and what the clauses say of r beside what they say of r' gives that r and r' are equal
pub record AnswersIn (T : Ended) (clauses : (M : Type 1) (𝓤 : Ura M) → (𝓛 : Logic 𝓤) → (Memory → SProp 𝓤) → (Routine → Fun 𝓤) → Clauses 𝓤 T) : Type 2 where
  pub asks : (M : Type 1) (𝓤 : Ura M) (𝓛 : Logic 𝓤) (mem : Memory → SProp 𝓤) (run : Routine → Fun 𝓤) (κs : Lfts T.signature.lifetimes) (a : Args T.signature κs)
      (g : (clauses M 𝓤 𝓛 mem run κs a).ghost) → ent 𝓤 (emp 𝓤) ((clauses M 𝓤 𝓛 mem run κs a).requires g)
  pub one : (M : Type 1) (𝓤 : Ura M) (𝓛 : Logic 𝓤) (mem : Memory → SProp 𝓤) (run : Routine → Fun 𝓤) (κs : Lfts T.signature.lifetimes) (a : Args T.signature κs)
      (g : (clauses M 𝓤 𝓛 mem run κs a).ghost) (r r' : Res T.signature κs) (e e' : AtExit T κs)
      → ent 𝓤 (sep 𝓤 ((clauses M 𝓤 𝓛 mem run κs a).ensures g r e) ((clauses M 𝓤 𝓛 mem run κs a).ensures g r' e')) (fact 𝓤 (r ≡ r'))

module _ {M : Type 1} (𝓤 : Ura M) where
  -- what two facts beside each other give
  both : (φ ψ χ : Type 0) → (φ → ψ → χ) → ent 𝓤 (sep 𝓤 (fact 𝓤 φ) (fact 𝓤 ψ)) (fact 𝓤 χ)
  both φ ψ χ h = needs 𝓤 ψ (fact 𝓤 φ) (λ y. fact_mono 𝓤 φ χ (λ x. h x y))

pub record View : Type 2 where
  pub new_answers : AnswersIn v_new.ended (λ M 𝓤. v_new.clauses {M = M} {𝓤 = 𝓤})
  pub root_answers : AnswersIn v_root.ended (λ M 𝓤. v_root.clauses {M = M} {𝓤 = 𝓤})
  pub entry_answers : AnswersIn v_entry.ended (λ M 𝓤. v_entry.clauses {M = M} {𝓤 = 𝓤})
  pub digest_answers : AnswersIn v_digest.ended (λ M 𝓤. v_digest.clauses {M = M} {𝓤 = 𝓤})
  pub root_in_answers : Answers root_in.Pre root_in.Post
  pub entry_in_answers : Answers entry_in.Pre entry_in.Post
  pub digest_in_answers : Answers digest_in.Pre digest_in.Post

pub view : View
view =
    record {
      new_answers =
          record {
            asks = λ M 𝓤 𝓛 mem run κs a g. id⊢ 𝓤 (emp 𝓤);
            one = λ M 𝓤 𝓛 mem run κs a g r r' e e'. both 𝓤 _ _ _ (λ p p' j. record { bytes = (p.0 ∙ sym p'.0) j; layout = (p.1 ∙ sym p'.1) j });
          };
      root_answers =
          record {
            asks = λ M 𝓤 𝓛 mem run κs a g. id⊢ 𝓤 (emp 𝓤);
            one = λ M 𝓤 𝓛 mem run κs a g r r' e e'. both 𝓤 _ _ _ (one_by _ r r');
          };
      entry_answers =
          record {
            asks = λ M 𝓤 𝓛 mem run κs a g. id⊢ 𝓤 (emp 𝓤);
            one = λ M 𝓤 𝓛 mem run κs a g r r' e e'. both 𝓤 _ _ _ (one_by _ r r');
          };
      digest_answers =
          record {
            asks = λ M 𝓤 𝓛 mem run κs a g. id⊢ 𝓤 (emp 𝓤);
            one = λ M 𝓤 𝓛 mem run κs a g r r' e e'. both 𝓤 _ _ _ (one_by _ r r');
          };
      root_in_answers = answers (λ κs a. tt) (one_shown one_by (λ κs a r e p. p));
      entry_in_answers = answers (λ κs a. tt) (one_shown one_by (λ κs a r e p. p));
      digest_in_answers = answers (λ κs a. tt) (one_shown one_by (λ κs a r e p. p));
    }
