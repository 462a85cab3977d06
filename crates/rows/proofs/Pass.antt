-- Laws of the pass over the nodes.
--     step_read, step_refused              what a step makes of what a row says
--     step_next, step_goes_on, step_stop   what a loop over the nodes does
--     pass_each, all_pass                  a pass accepts exactly if it has read and judged every node
--     said_pass                            a pass, by what is said of its values
--     passing_on, passing_stops            a loop over the nodes, from its invariant to what it answers
-- Assumes nothing.
use mathlib.Core.Path.{◌≡◌, refl, sym, ◌∙◌}
use mathlib.Core.Bool.{Bool, true, false}
use Prim.Native.Nat.{ℕ, zero, suc, ◌+◌, ◌-◌, ◌<◌, ◌≤◌}
use native.Mathlib.Nat.{add-zero, add-suc}
use native.Mathlib.Numerals.{add-one}
use native.Mathlib.Omega.{arith}
use Rattle.wire.specs.Table.{Outcome, refused, accepted, pick, ◌>>=◌}
use Rattle.wire.proofs.Stages.{both_taken}
use Rattle.info.specs.Node.{is_external}
use Rattle.info.specs.declared.MastNodeEntry.{MastNodeEntry}
use Rattle.rows.specs.Rows.{node_step, node_pass, external_one}

one_or_none : (b : Bool) → pick b 1 0 ≤ 1
one_or_none true = omega arith
one_or_none false = omega arith

pub external_le : (e : MastNodeEntry) → external_one e ≤ 1
external_le e = one_or_none (is_external e)

module _ {A : Type 0} (read : ℕ → Outcome MastNodeEntry) (judge : ℕ → A → MastNodeEntry → Outcome A) where
  pub step_read : (i : ℕ) (before : A) (e : MastNodeEntry) → read i ≡ accepted e → node_step read judge i before ≡ judge i before e
  unfolding ◌>>=◌
  step_read i before e r = rw r

  pub step_refused : (i : ℕ) (before : A) (n p : ℕ) → read i ≡ refused n p → node_step read judge i before ≡ refused n p
  unfolding ◌>>=◌
  step_refused i before n p r = rw r

module _ {A : Type 0} (read : ℕ → Outcome MastNodeEntry) (judge : ℕ → A → MastNodeEntry → Outcome A) (start : A) where
  abbrev pass : ℕ → Outcome A
  pass n = node_pass read judge start n

  pub pass_none : pass 0 ≡ accepted start
  unfolding node_pass
  pass_none = refl

  -- one node more
  pub step_next : (i : ℕ) (before : A) → pass i ≡ accepted before → pass (i + 1) ≡ node_step read judge i before
  unfolding node_pass ◌>>=◌
  step_next i before q = rw (add-one, q)

  pub step_goes_on : (i : ℕ) (before after : A) → pass i ≡ accepted before → node_step read judge i before ≡ accepted after → pass (i + 1) ≡ accepted after
  step_goes_on i before after q r = step_next i before q ∙ r

  -- the first refusal stays
  stays : (m k n p : ℕ) → pass m ≡ refused n p → pass (m + k) ≡ refused n p
  unfolding node_pass ◌>>=◌
  stays m zero n p q = rw add-zero q
  stays m (suc k) n p q = rw (add-suc, stays m k n p q)

  pub step_stop : (i m n p : ℕ) (before : A) → i < m → pass i ≡ accepted before → node_step read judge i before ≡ refused n p → pass m ≡ refused n p
  step_stop i m n p before h q r =
      let e : (i + 1) + (m - (i + 1)) ≡ m = omega arith in
      rw e at (stays (i + 1) (m - (i + 1)) n p (step_next i before q ∙ r))

  -- node i of a pass that accepts: what was handed to it, its entry, and what it handed on
  pub record Passed (i : ℕ) : Type 0 where
    pub before : A
    pub entry : MastNodeEntry
    pub after : A
    pub so_far : pass i ≡ accepted before
    pub read_as : read i ≡ accepted entry
    pub judged : judge i before entry ≡ accepted after
    pub then : pass (suc i) ≡ accepted after

  last : (n : ℕ) (end : A) → pass (suc n) ≡ accepted end → Passed n
  unfolding node_pass
  last n end q =
      let b = both_taken (pass n) (node_step read judge n) end q in
      let r = both_taken (read n) (judge n b.0) end b.2 in
      record { before = b.0; entry = r.0; after = end; so_far = b.1; read_as = r.1; judged = r.2; then = q }

  pub pass_each : (n : ℕ) (end : A) → pass n ≡ accepted end → (i : ℕ) → i < n → Passed i
  unfolding node_pass
  pass_each zero end q i h = absurd (omega arith)
  pass_each (suc n) end q i h = let b = last n end q in go (n - i) refl b (λ l. pass_each n b.before b.so_far i l)
    where
      go : (k : ℕ) → n - i ≡ k → Passed n → (i < n → Passed i) → Passed i
      go zero e b earlier = let same : n ≡ i = omega arith in rw same at b
      go (suc k) e b earlier = earlier (omega arith)

-- a pass accepts where every node is read and judged well, each after what the one before handed on
pub all_pass : {A : Type 0} (read : ℕ → Outcome MastNodeEntry) (judge : ℕ → A → MastNodeEntry → Outcome A) (state : ℕ → A) (n : ℕ)
    → ((i : ℕ) → i < n → (e : MastNodeEntry) × ((read i ≡ accepted e) × (judge i (state i) e ≡ accepted (state (suc i)))))
    → node_pass read judge (state 0) n ≡ accepted (state n)
unfolding node_pass ◌>>=◌
all_pass read judge state zero each = refl
all_pass read judge state (suc n) each =
    let here = each n (omega arith) in
    rw (all_pass read judge state n (λ i h. each i (omega arith)), here.1.0, here.1.1) refl

-- an accepted value, by what it says
abbrev pub said : {A B : Type 0} → (A → B) → Outcome A → Outcome B
said says (refused n p) = refused n p
said says (accepted v) = accepted (says v)

-- a pass whose judge says, of what it hands on, what another judge does
pub said_pass : {A B : Type 0} (says : A → B) (read : ℕ → Outcome MastNodeEntry) (judge : ℕ → A → MastNodeEntry → Outcome A) (judge' : ℕ → B → MastNodeEntry → Outcome B)
    → ((i : ℕ) (before : A) (e : MastNodeEntry) → said says (judge i before e) ≡ judge' i (says before) e)
    → (start : A) (n : ℕ) → said says (node_pass read judge start n) ≡ node_pass read judge' (says start) n
unfolding node_pass ◌>>=◌
said_pass says read judge judge' same start zero = refl
said_pass says read judge judge' same start (suc n) = rw (← said_pass says read judge judge' same start n) (step (node_pass read judge start n))
  where
    turn : (o : Outcome MastNodeEntry) (before : _) → said says (o >>= judge n before) ≡ (o >>= judge' n (says before))
    turn (refused k p) before = refl
    turn (accepted e) before = same n before e

    step : (o : Outcome _) → said says (o >>= node_step read judge n) ≡ (said says o >>= node_step read judge' n)
    step (refused k p) = refl
    step (accepted before) = turn (read n) before

-- What a loop over n nodes knows at node i: the nodes before it passed, and handed this on.
abbrev pub Passing : {A : Type 0} → (ℕ → Outcome MastNodeEntry) → (ℕ → A → MastNodeEntry → Outcome A) → A → ℕ → ℕ → A → Type 0
Passing read judge start n i before = (i ≤ n) × (node_pass read judge start i ≡ accepted before)

module _ {A : Type 0} (read : ℕ → Outcome MastNodeEntry) (judge : ℕ → A → MastNodeEntry → Outcome A) (start : A) (n : ℕ) where
  module _ (i : ℕ) (before : A) (so_far : Passing read judge start n i before) where
    -- x is what the turn of node i says
    module _ (h : i < n) (x : Outcome A) (said : x ≡ node_step read judge i before) where
      pub passing_stops : (k p : ℕ) → x ≡ refused k p → refused k p ≡ node_pass read judge start n
      passing_stops k p e = sym (step_stop read judge start i n k p before h so_far.1 (sym said ∙ e))

      pub passing_on : (after : A) → x ≡ accepted after → Passing read judge start n (i + 1) after
      passing_on after e = (omega arith, step_goes_on read judge start i before after so_far.1 (sym said ∙ e))
