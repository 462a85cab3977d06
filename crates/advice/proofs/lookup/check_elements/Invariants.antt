-- `advice::lookup::check_elements` meets its contract: what is said of the values that are left is said of all.
-- Assumes nothing.
use mathlib.Core.Path.{◌≡◌}
use Prim.Native.Nat.{◌+◌, ◌-◌, ◌*◌}
use Rattle.advice.specs.Inner.{elements_outcome}
use Rattle.advice.proofs.lookup.check_elements.Given as goal

abbrev pub invariant-loop-i : goal.invariant-loop-i
invariant-loop-i l = elements_outcome l.s (l.values.at.0 + 8 * l.i) (l.values.len - l.i) ≡ elements_outcome l.s l.values.at.0 l.values.len
