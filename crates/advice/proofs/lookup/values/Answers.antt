-- `advice::lookup::values` meets its contract: the part that the lookup found, or an empty one.
-- Assumes nothing.
use mathlib.Core.Path.{ap, ◌∙◌}
use Prim.Native.Nat.{◌*◌}
use native.Mathlib.Omega.{arith}
use Rattle.advice.specs.Lookup.{values_part}
use Rattle.advice.proofs.Halving.{found_inside, part_at}
use Rattle.advice.proofs.lookup.values.Goals as goal

pub overflow_mul-end : goal.overflow_mul-end
overflow_mul-end c =
    let a = c.args in
    omega (arith, found_inside a.s.now a.keys.now a.n a.key _ _ _ (rw c.in-Some.is at c.in-Ok.ensures))

pub overflow_add-end : goal.overflow_add-end
overflow_add-end c =
    let a = c.args in
    omega (arith, found_inside a.s.now a.keys.now a.n a.key _ _ _ (rw c.in-Some.is at c.in-Ok.ensures))

pub slice_bounds-result-end-2 : goal.slice_bounds-result-end-2
slice_bounds-result-end-2 c =
    let a = c.args in
    found_inside a.s.now a.keys.now a.n a.key _ _ _ (rw c.in-Some.is at c.in-Ok.ensures)

pub returns : goal.returns
returns c =
    let a = c.args in
    let v = c.in-Some.values in
    part_at a.s.now v.at.0 (8 * v.len) ∙ ap (values_part a.s.now) (rw c.in-Some.is at c.in-Ok.ensures)
