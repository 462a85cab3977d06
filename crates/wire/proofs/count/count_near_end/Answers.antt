-- `wire::count::count_near_end` meets its contract: a count that is whole there has at most seven bytes.
-- Assumes nothing.
use mathlib.Core.Path.{sym, ◌∙◌}
use Prim.Native.Nat.{◌+◌, ◌≤◌, ◌<◌}
use native.Mathlib.Omega.{arith}
use borrow.Author.Tests.{ltb-true}
use lib.Count.{count_trailing_zeros, trailing_le}
use lib.ListN.{length, get_or}
use Rattle.wire.specs.Le.{Bytes}
use Rattle.wire.specs.Counts.{count_length}
use Rattle.wire.proofs.Le.{le-part}
use Rattle.wire.proofs.Counts.{length_least, count_short, whole_upto_8}
use Rattle.wire.proofs.Forms.{upto_8_form}
use Rattle.wire.proofs.count.count_near_end.Goals as goal

pub returns-then-s-from : goal.returns-then-s-from
returns-then-s-from c =
    let a = c.args in
    sym (count_short a.s.now a.at.0 (omega (arith, length_least (get_or a.s.now a.at.0 0))))

-- the length is at most 9
pub overflow_cast-len : goal.overflow_cast-len
overflow_cast-len c =
    let a = c.args in omega (arith, trailing_le 8 (get_or a.s.now a.at.0 0))

pub overflow_add-len : goal.overflow_add-len
overflow_add-len c =
    let a = c.args in omega (arith, trailing_le 8 (get_or a.s.now a.at.0 0))

pub returns-then-s-from-2 : goal.returns-then-s-from-2
unfolding count_length
returns-then-s-from-2 c =
    let a = c.args in sym (count_short a.s.now a.at.0 (omega arith))

pub overflow_shr-value : goal.overflow_shr-value
overflow_shr-value c =
    let there : c.args.at.0
    + (count_trailing_zeros 8 (get_or c.args.s.now c.args.at.0 0) + 1)
    ≤ length c.args.s.now = omega arith in
    let few : length c.args.s.now < c.args.at.0 + 8 = ltb-true _ _ c.requires in
    omega (arith, there, few)

pub is_shortest-requires : goal.is_shortest-requires
unfolding count_length
is_shortest-requires c =
    let there : c.args.at.0
    + (count_trailing_zeros 8 (get_or c.args.s.now c.args.at.0 0) + 1)
    ≤ length c.args.s.now = omega arith in
    let few : length c.args.s.now < c.args.at.0 + 8 = ltb-true _ _ c.requires in
    let a = c.args in
    let bytes : Bytes a.s.now = λ i. (c.type_inv.s i).fits in
    let whole_there = there in
    let most : count_trailing_zeros 8 (get_or a.s.now a.at.0 0) + 1 ≤ 8 = omega (arith, few) in
    rw (c.number_in.ensures ∙ le-part c.args.s.now c.args.at.0 _) (upto_8_form a.s.now a.at.0 bytes whole_there most)

pub returns : goal.returns
unfolding count_length
returns c =
    let there : c.args.at.0
    + (count_trailing_zeros 8 (get_or c.args.s.now c.args.at.0 0) + 1)
    ≤ length c.args.s.now = omega arith in
    let few : length c.args.s.now < c.args.at.0 + 8 = ltb-true _ _ c.requires in
    let a = c.args in
    let whole_there = there in
    let most : count_trailing_zeros 8 (get_or a.s.now a.at.0 0) + 1 ≤ 8 = omega (arith, few) in
    rw (c.is_shortest.ensures, (c.number_in.ensures ∙ le-part c.args.s.now c.args.at.0 _)) (sym (whole_upto_8 a.s.now a.at.0 whole_there most))
