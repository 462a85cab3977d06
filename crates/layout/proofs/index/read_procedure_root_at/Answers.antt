-- `layout::index::read_procedure_root_at` meets its contract: four bytes are a number below 2 ^ 32.
-- Assumes nothing.
use mathlib.Core.Path.{sym, ◌∙◌}
use Prim.Native.Nat.{◌+◌}
use native.Mathlib.Omega.{arith}
use Rattle.wire.proofs.Le.{le-slice_below}
use Rattle.wire.proofs.Numbers.{number_whole}
use Rattle.layout.proofs.index.read_procedure_root_at.Goals as goal

pub overflow_cast-result : goal.overflow_cast-result
overflow_cast-result c =
    let s = c.args.s.now in
    let at = c.in-Some.at.0 in
    omega (arith, c.u32_at-id.ensures, number_whole 4 s at (sym c.is_short.ensures ∙ c.if-is_short.false), le-slice_below 4 at (at + 4) s (λ i. (c.type_inv.s i).fits) (omega arith))
