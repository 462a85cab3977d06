-- `wire::count::longest_count` meets its contract: the byte 0 tells nine bytes.
-- Assumes nothing.
use mathlib.Core.Path.{◌≡◌, sym, ap, ◌∙◌}
use Prim.Native.Nat.{◌+◌, ◌≤◌}
use native.Mathlib.Omega.{arith}
use lib.ListN.{length, get_or}
use Rattle.wire.specs.Le.{Bytes}
use Rattle.wire.specs.Counts.{count_length}
use Rattle.wire.proofs.Le.{le-part}
use Rattle.wire.proofs.Counts.{length_of_zero, count_short, whole_9}
use Rattle.wire.proofs.Forms.{nine_form}
use Rattle.wire.proofs.count.longest_count.Goals as goal

pub overflow_sub-s : goal.overflow_sub-s
overflow_sub-s c =
    omega (arith, c.requires.0)

pub returns-then-s-from : goal.returns-then-s-from
returns-then-s-from c =
    let a = c.args in
    let len : count_length (get_or a.s.now a.at.0 0) ≡ 9 = ap count_length c.requires.1 ∙ length_of_zero in
    sym (count_short a.s.now a.at.0 (omega (arith, c.requires.0)))

pub overflow_add-from : goal.overflow_add-from
overflow_add-from c =
    let nine : c.args.at.0 + 9 ≤ length c.args.s.now = omega (arith, c.requires.0) in
    omega (arith, nine)

pub is_shortest-requires : goal.is_shortest-requires
is_shortest-requires c =
    let nine : c.args.at.0 + 9 ≤ length c.args.s.now = omega (arith, c.requires.0) in
    let a = c.args in
    let len : count_length (get_or a.s.now a.at.0 0) ≡ 9 = ap count_length c.requires.1 ∙ length_of_zero in
    let bytes : Bytes a.s.now = λ i. (c.type_inv.s i).fits in
    let there = nine in
    rw (c.number_in-value.ensures ∙ le-part c.args.s.now (c.args.at.0 + 1) 8) (rw len at (nine_form a.s.now a.at.0 bytes (omega arith) (omega arith)))

pub returns : goal.returns
returns c =
    let nine : c.args.at.0 + 9 ≤ length c.args.s.now = omega (arith, c.requires.0) in
    let a = c.args in
    let len : count_length (get_or a.s.now a.at.0 0) ≡ 9 = ap count_length c.requires.1 ∙ length_of_zero in
    let there = nine in
    rw (c.is_shortest.ensures, (c.number_in-value.ensures ∙ le-part c.args.s.now (c.args.at.0 + 1) 8)) (rw len at (sym (whole_9 a.s.now a.at.0 (omega arith) (omega arith))))
