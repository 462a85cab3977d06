-- `wire::count::shortest_len` meets its contract: what is left of the search, from len on, is the whole search's result.
-- Assumes nothing.
use mathlib.Core.Path.{◌≡◌, refl, ◌∙◌, sym}
use Prim.Native.Nat.{suc, ◌+◌, ◌-◌, ◌*◌, ◌^◌, ◌≤◌}
use native.Mathlib.Omega.{arith}
use Rattle.wire.proofs.Together.{below_power, above_power}
use Rattle.wire.specs.Counts.{least_from, shortest_len}
use Rattle.wire.proofs.Counts.{least_here, least_next}
use Rattle.wire.proofs.count.shortest_len.Goals as goal

pub loop-len-init : goal.loop-len-init
unfolding shortest_len
loop-len-init c = refl

pub returns-then-v-len-eq0 : goal.returns-then-v-len-eq0
returns-then-v-len-eq0 c =
    let l = c.loop-len in
    let e : 9 - l.len ≡ suc (8 - l.len) = omega arith in
    sym (rw e (least_here (8 - l.len) l.len c.args.v (below_power (7 * l.len) c.args.v c.if-v-len-eq0.true))) ∙ l.invariant

pub loop-len-preserved : goal.loop-len-preserved
loop-len-preserved c =
    let l = c.loop-len in
    let e : 9 - l.len ≡ suc (9 - (l.len + 1)) = omega arith in
    let above : 2 ^ (7 * l.len) ≤ c.args.v = above_power (7 * l.len) c.args.v c.if-v-len-eq0.false in
    sym (least_next (9 - (l.len + 1)) l.len c.args.v above) ∙ rw e at l.invariant

pub returns : goal.returns
unfolding least_from
returns c =
    let e : c.loop-len.len ≡ 9 = omega arith in rw e at c.loop-len.invariant
