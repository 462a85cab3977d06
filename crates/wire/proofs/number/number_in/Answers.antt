-- `wire::number::number_in` meets its contract: eight bytes or four at once, others from the highest down.
-- Assumes nothing.
use mathlib.Core.Path.{◌≡◌, refl, ap, ◌∙◌}
use mathlib.Core.List.{List}
use Prim.Native.Nat.{ℕ, ◌-◌, ◌^◌, ◌≤◌, ◌<◌}
use lib.ListN.{length}
use lib.Seq.{slice, slice_empty, take-length}
use native.Mathlib.Omega.{arith}
use Rattle.wire.specs.Le.{Bytes, le}
use Rattle.wire.proofs.Le.{le-whole_8, le-whole_4, le-slice_below, le-slice_back}
use Rattle.wire.proofs.number.number_in.Goals as goal

pub returns-in-Ok : goal.returns-in-Ok
returns-in-Ok c = let h = c.in-Ok.ensures.1 in c.from_le_bytes.ensures ∙ le-whole_8 c.in-Ok.bytes (ap (λ (l : List ℕ). length l) h.same ∙ h.long) ∙ ap le h.same

pub returns-in-Ok-try_from : goal.returns-in-Ok-try_from
returns-in-Ok-try_from c = let h = c.in-Ok-try_from.ensures.1 in c.from.ensures ∙ c.from_le_bytes-in-Ok-try_from.ensures ∙ le-whole_4 c.in-Ok-try_from.bytes (ap (λ (l : List ℕ). length l) h.same ∙ h.long) ∙ ap le h.same

pub loop-i-init : goal.loop-i-init
unfolding le
loop-i-init c = rw slice_empty refl

-- what was read of at most seven bytes is small
small : (part : List ℕ) (i number : ℕ) → Bytes part → length part ≤ 8 → 0 < i → number ≡ le (slice i (length part) part) → number < 256 ^ 7
small part i number bytes most some is = rw is (le-slice_below 7 i (length part) part bytes (omega arith))

pub overflow_mul-number : goal.overflow_mul-number
overflow_mul-number c =
    omega (arith, small c.args.part.now c.loop-i.i c.loop-i.number (λ i. (c.type_inv.part i).fits) c.requires c.loop-i-test.true c.loop-i.invariant)

pub overflow_add-number : goal.overflow_add-number
overflow_add-number c =
    omega (
      arith,
      small c.args.part.now c.loop-i.i c.loop-i.number (λ i. (c.type_inv.part i).fits) c.requires c.loop-i-test.true c.loop-i.invariant,
      c.type_inv.part (c.loop-i.i - 1),
      c.from-in-loop-i.ensures,
    )

pub loop-i-preserved : goal.loop-i-preserved
loop-i-preserved c =
    let part = c.args.part.now in
    let front = le-slice_back c.loop-i.i (length part) part c.loop-i-test.true (omega arith) (omega arith) in
    rw (c.from-in-loop-i.ensures, c.loop-i.invariant, front) refl

pub returns : goal.returns
returns c =
    let part = c.args.part.now in
    let e : c.loop-i.i ≡ 0 = omega arith in
    c.loop-i.invariant ∙ ap (λ (i : ℕ). le (slice i (length part) part)) e ∙ ap le (take-length part)
