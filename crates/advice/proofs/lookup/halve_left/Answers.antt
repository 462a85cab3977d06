-- `advice::lookup::halve_left` meets its contract: what is said of the range that is left is said of the whole.
-- Assumes nothing.
use mathlib.Core.Path.{◌≡◌, sym, ap, ◌∙◌}
use Prim.Native.Nat.{◌+◌, ◌-◌, ◌/◌}
use native.Mathlib.Omega.{arith}
use Rattle.wire.specs.Words.{word_order}
use Rattle.advice.proofs.Halving.{halved_none, halved_short, halved_same, halved_below, halved_above}
use Rattle.advice.proofs.lookup.halve_left.Goals as goal

pub returns-then-is_short : goal.returns-then-is_short
returns-then-is_short c =
    let a = c.args in
    let l = c.loop-size in
    halved_short a.s.now a.keys.now a.key l.low l.size l.compared (omega arith) (sym c.is_short.ensures ∙ c.if-is_short.true) ∙ l.invariant.same

pub loop-size-preserved-in-Less : goal.loop-size-preserved-in-Less
loop-size-preserved-in-Less c =
    let a = c.args in
    let l = c.loop-size in
    record {
      within = omega arith;
      few = omega arith;
      same = halved_below a.s.now a.keys.now a.key l.low l.size l.compared (omega arith) (sym c.is_short.ensures ∙ c.if-is_short.false)
          (sym (c.word_order.ensures ∙ ap (word_order a.key) c.word_at.ensures) ∙ c.in-Less.is)
          ∙ l.invariant.same;
    }

pub returns-in-Equal : goal.returns-in-Equal
returns-in-Equal c =
    let a = c.args in
    let l = c.loop-size in
    halved_same a.s.now a.keys.now a.key l.low l.size l.compared (omega arith) (sym c.is_short.ensures ∙ c.if-is_short.false)
    (sym (c.word_order.ensures ∙ ap (word_order a.key) c.word_at.ensures) ∙ c.in-Equal.is)
    ∙ l.invariant.same

pub loop-size-preserved : goal.loop-size-preserved
loop-size-preserved c =
    let a = c.args in
    let l = c.loop-size in
    let low : l.low + (l.size / 2 + 1) ≡ l.low + l.size / 2 + 1 = omega arith in
    let size : l.size - (l.size / 2 + 1) ≡ l.size - l.size / 2 - 1 = omega arith in
    record {
      within = omega arith;
      few = omega arith;
      same =
          rw (low, size)
          (halved_above a.s.now a.keys.now a.key l.low l.size l.compared (omega arith) (sym c.is_short.ensures ∙ c.if-is_short.false)
          (sym (c.word_order.ensures ∙ ap (word_order a.key) c.word_at.ensures) ∙ c.in-Greater.is)
          ∙ l.invariant.same);
    }

pub returns : goal.returns
returns c =
    let a = c.args in
    let l = c.loop-size in
    halved_none a.s.now a.keys.now a.key l.low l.size l.compared (omega arith) ∙ l.invariant.same
