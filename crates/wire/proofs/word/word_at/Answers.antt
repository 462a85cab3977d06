-- `wire::word::word_at` meets its contract: the four numbers, one after the other.
-- Assumes nothing.
use mathlib.Core.Path.{sym, ◌∙◌}
use Prim.Native.Nat.{◌+◌, ◌≤◌}
use native.Mathlib.Omega.{arith}
use borrow.Author.Tests.{le-ltb}
use lib.ListN.{length}
use Rattle.wire.proofs.Numbers.{all_there}
use Rattle.wire.proofs.Words.{four_at_lem, word_none, word_whole}
use Rattle.wire.proofs.word.word_at.Goals as goal

pub returns-then-is_short : goal.returns-then-is_short
returns-then-is_short c =
    let a = c.args in
    sym (word_none a.s.now a.at.0 (sym c.is_short.ensures ∙ c.if-is_short.true))

pub overflow_add-from : goal.overflow_add-from
overflow_add-from c =
    let inside : c.args.at.0 + 32 ≤ length c.args.s.now = let a = c.args in
    all_there 32 a.s.now a.at.0 (sym c.is_short.ensures ∙ c.if-is_short.false) in
    omega (arith, inside)

pub overflow_add-from-2 : goal.overflow_add-from-2
overflow_add-from-2 c =
    let inside : c.args.at.0 + 32 ≤ length c.args.s.now = let a = c.args in
    all_there 32 a.s.now a.at.0 (sym c.is_short.ensures ∙ c.if-is_short.false) in
    omega (arith, inside)

pub overflow_add-from-3 : goal.overflow_add-from-3
overflow_add-from-3 c =
    let inside : c.args.at.0 + 32 ≤ length c.args.s.now = let a = c.args in
    all_there 32 a.s.now a.at.0 (sym c.is_short.ensures ∙ c.if-is_short.false) in
    omega (arith, inside)

pub returns : goal.returns
returns c =
    let inside : c.args.at.0 + 32 ≤ length c.args.s.now = let a = c.args in
    all_there 32 a.s.now a.at.0 (sym c.is_short.ensures ∙ c.if-is_short.false) in
    let a = c.args in
    let s = a.s.now in
    let h = inside in
    rw (c.u64_at-d.ensures, c.u64_at-c.ensures, c.u64_at-b.ensures, c.u64_at-a.ensures)
    (sym (word_whole s a.at.0 (le-ltb _ _ h) ∙ four_at_lem s a.at.0 h))
