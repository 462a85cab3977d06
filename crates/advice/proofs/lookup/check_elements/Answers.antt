-- `advice::lookup::check_elements` meets its contract: what is said of the values that are left is said of all.
-- Assumes nothing.
use mathlib.Core.Path.{◌≡◌, sym, ap, ◌∙◌}
use Prim.Native.Nat.{◌+◌, ◌-◌, ◌*◌}
use native.Mathlib.Omega.{arith}
use Rattle.wire.specs.Words.{is_element}
use Rattle.advice.proofs.Halving.{elements_all, elements_stop, elements_next}
use Rattle.advice.proofs.lookup.check_elements.Goals as goal

pub returns-then-not-is_element : goal.returns-then-not-is_element
returns-then-not-is_element c =
    let v = c.args.values in
    elements_stop c.args.s.now (v.at.0 + 8 * c.loop-i.i) (v.len - c.loop-i.i) (omega arith) (sym (c.is_element.ensures ∙ ap is_element c.u64_at.ensures) ∙ c.if-not-is_element.true)
    ∙ c.loop-i.invariant

pub loop-i-preserved : goal.loop-i-preserved
loop-i-preserved c =
    let v = c.args.values in
    let i = c.loop-i.i in
    let n : v.len - (i + 1) ≡ v.len - i - 1 = omega arith in
    let at : v.at.0 + 8 * (i + 1) ≡ v.at.0 + 8 * i + 8 = omega arith in
    rw (n, at)
    (elements_next c.args.s.now (v.at.0 + 8 * i) (v.len - i) (omega arith) (sym (c.is_element.ensures ∙ ap is_element c.u64_at.ensures) ∙ c.if-not-is_element.false)
    ∙ c.loop-i.invariant)

pub returns : goal.returns
returns c =
    let v = c.args.values in
    elements_all c.args.s.now (v.at.0 + 8 * c.loop-i.i) (v.len - c.loop-i.i) (omega arith) ∙ c.loop-i.invariant
