-- `wire::word::check_word` meets its contract: all 32 bytes first, then the four elements.
-- Assumes nothing.
use mathlib.Core.Path.{◌≡◌, sym, ◌∙◌}
use mathlib.Core.Bool.{◌&&◌}
use Prim.Native.Nat.{◌+◌, ◌≤◌}
use native.Mathlib.Omega.{arith}
use lib.ListN.{length}
use Rattle.wire.proofs.Numbers.{all_there}
use Rattle.wire.proofs.Words.{four_elements, check_short, check_element, check_whole}
use Rattle.wire.proofs.word.check_word.Goals as goal

pub returns-then-is_short : goal.returns-then-is_short
returns-then-is_short c =
    let a = c.args in
    sym (check_short a.s.now a.at.0 (sym c.is_short.ensures ∙ c.if-is_short.true))

pub overflow_add-from : goal.overflow_add-from
overflow_add-from c =
    let inside : c.args.at.0 + 32 ≤ length c.args.s.now = let a = c.args in
    all_there 32 a.s.now a.at.0 (sym c.is_short.ensures ∙ c.if-is_short.false) in
    omega (arith, inside)

pub overflow_add-from-2 : goal.overflow_add-from-2
overflow_add-from-2 c =
    let inside : c.args.at.0 + 32 ≤ length c.args.s.now = let a = c.args in
    all_there 32 a.s.now a.at.0 (sym c.is_short.ensures ∙ c.if-is_short.false) in
    omega (arith, inside)

pub overflow_add-from-3 : goal.overflow_add-from-3
overflow_add-from-3 c =
    let inside : c.args.at.0 + 32 ≤ length c.args.s.now = let a = c.args in
    all_there 32 a.s.now a.at.0 (sym c.is_short.ensures ∙ c.if-is_short.false) in
    omega (arith, inside)

pub overflow_add-result : goal.overflow_add-result
overflow_add-result c =
    let inside : c.args.at.0 + 32 ≤ length c.args.s.now = let a = c.args in
    all_there 32 a.s.now a.at.0 (sym c.is_short.ensures ∙ c.if-is_short.false) in
    omega (arith, inside)

pub returns-then-a-b : goal.returns-then-a-b
returns-then-a-b c =
    let joined : ((c.is_element-a.result && c.is_element-b.result) && c.is_element-c.result) && c.is_element-d.result
    ≡ four_elements c.args.s.now c.args.at.0 = rw (
      c.is_element-d.ensures,
      c.u64_at-4.ensures,
      c.is_element-c.ensures,
      c.u64_at-3.ensures,
      c.is_element-b.ensures,
      c.u64_at-2.ensures,
      c.is_element-a.ensures,
      c.u64_at.ensures,
    ) in
    let a = c.args in
    sym (check_whole a.s.now a.at.0 (sym c.is_short.ensures ∙ c.if-is_short.false) (sym (joined) ∙ c.if-a-b.true))

pub returns : goal.returns
returns c =
    let joined : ((c.is_element-a.result && c.is_element-b.result) && c.is_element-c.result) && c.is_element-d.result
    ≡ four_elements c.args.s.now c.args.at.0 = rw (
      c.is_element-d.ensures,
      c.u64_at-4.ensures,
      c.is_element-c.ensures,
      c.u64_at-3.ensures,
      c.is_element-b.ensures,
      c.u64_at-2.ensures,
      c.is_element-a.ensures,
      c.u64_at.ensures,
    ) in
    let a = c.args in
    sym (check_element a.s.now a.at.0 (sym c.is_short.ensures ∙ c.if-is_short.false) (sym (joined) ∙ c.if-a-b.false))
