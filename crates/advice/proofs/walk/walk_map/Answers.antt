-- `advice::walk::walk_map` meets its contract: what is refused leaves zeros.
-- Assumes nothing.
use mathlib.Core.Path.{sym, ap, ◌∙◌}
use Prim.Native.Nat.{ℕ}
use lib.ListN.{replicate}
use Rattle.advice.proofs.Entries.{table_refused}
use Rattle.advice.proofs.walk.walk_map.Goals as goal

pub returns-then-is_err-clause-keys_after : goal.returns-then-is_err-clause-keys_after
returns-then-is_err-clause-keys_after c =
    let a = c.args in
    let w = c.walk_entries-walked in
    c.fill.ensures.after (λ y e. e) ∙ ap (λ (n : ℕ). replicate n 0) w.auto.keys ∙ table_refused a.s.now a.at.0 a.keys.now w.result (sym c.is_err.ensures.value ∙ c.if-is_err.true) w.ensures.result_value
