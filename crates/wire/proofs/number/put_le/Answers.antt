-- `wire::number::put_le` meets its contract: to store what is left of the bytes, from a place on, gives what the whole store gives.
-- Assumes nothing.
use mathlib.Core.Path.{◌≡◌, refl, ◌∙◌}
use Prim.Native.Nat.{suc, ◌-◌}
use native.Mathlib.Nat.{sub-zero}
use native.Mathlib.Omega.{arith}
use native.Mathlib.Numerals.{add-one}
use lib.ListN.{length}
use Rattle.wire.specs.Le.{le_bytes}
use Rattle.wire.proofs.Le.{length-le_bytes}
use Rattle.wire.proofs.Counts.{sets_whole}
use Rattle.wire.proofs.number.put_le.Goals as goal

pub loop-byte-init : goal.loop-byte-init
loop-byte-init c = rw sub-zero refl

pub loop-byte-preserved : goal.loop-byte-preserved
unfolding le_bytes
loop-byte-preserved c =
    let l = c.loop-byte in
    let e : length c.args.part.now - l.byte-index ≡ suc (length c.args.part.now - suc l.byte-index) = omega arith in
    rw add-one (rw e at l.invariant)

pub returns : goal.returns
unfolding le_bytes
returns c =
    let l = c.loop-byte in
    let a = c.args in
    let none : length a.part.now - l.byte-index ≡ 0 = omega arith in
    rw none at l.invariant ∙ sets_whole a.part.now (le_bytes (length a.part.now) a.x) (length-le_bytes _ _)
