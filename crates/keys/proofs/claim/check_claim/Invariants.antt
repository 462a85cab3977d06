-- The invariant: a is the number before, and what is known up to it. Assumes nothing.
use mathlib.Core.Path.{◌≡◌}
use Prim.Native.Nat.{suc}
use lib.ListN.{get_or}
use Rattle.keys.proofs.Claims.{SoFar}
use Rattle.keys.proofs.claim.check_claim.Given as goal

abbrev pub invariant-loop-b : goal.invariant-loop-b
invariant-loop-b l = (l.a ≡ get_or l.order l.b-index 0) × SoFar l.keys l.order (suc l.b-index) l.best
