-- `wire::count::find_count` meets its contract: of eight bytes read together two shifts give the value, by one law for every length; elsewhere the
-- answer is `longest_count`'s or `count_near_end`'s.
-- Assumes nothing.
use mathlib.Core.Path.{sym, ap, ◌∙◌}
use mathlib.Core.Bool.{Bool}
use Prim.Native.Nat.{ℕ, ◌+◌, ◌≤◌, ◌<◌}
use native.Mathlib.Omega.{arith}
use lib.Count.{count_trailing_zeros}
use lib.ListN.{length, get_or}
use Rattle.wire.specs.Table.{Outcome, At, accepted}
use Rattle.wire.specs.Le.{Bytes}
use Rattle.wire.specs.Counts.{count_of, count_length, Form}
use Rattle.wire.specs.declared.count.Count.{Count}
use Rattle.wire.proofs.Le.{le-part}
use Rattle.wire.proofs.Numbers.{all_there}
use Rattle.wire.proofs.Counts.{whole_upto_8}
use Rattle.wire.proofs.Forms.{upto_8_form, shortest_zeros}
use Rattle.wire.proofs.Together.{shifted, byte_zeros, top_seven, value_together}
use Rattle.wire.proofs.count.find_count.Goals as goal

pub count_near_end-requires : goal.count_near_end-requires
count_near_end-requires c =
    sym c.is_short.ensures ∙ c.if-is_short.true

pub returns-then-is_short : goal.returns-then-is_short
returns-then-is_short c =
    c.count_near_end.ensures

pub bounds-s-from : goal.bounds-s-from
bounds-s-from c =
    let eight : c.args.at.0 + 8 ≤ length c.args.s.now = let a = c.args in all_there 8 a.s.now a.at.0 (sym c.is_short.ensures ∙ c.if-is_short.false) in
    omega (arith, eight)

pub longest_count-requires : goal.longest_count-requires
longest_count-requires c =
    let eight : c.args.at.0 + 8 ≤ length c.args.s.now = let a = c.args in all_there 8 a.s.now a.at.0 (sym c.is_short.ensures ∙ c.if-is_short.false) in
    (eight, c.if-first-eq0.true)

pub returns-then-first-eq0 : goal.returns-then-first-eq0
returns-then-first-eq0 c =
    c.longest_count.ensures

pub overflow_cast-zeros : goal.overflow_cast-zeros
overflow_cast-zeros c =
    let fewer : count_trailing_zeros 8 (get_or c.args.s.now c.args.at.0 0) < 8 = let a = c.args in
    byte_zeros (get_or a.s.now a.at.0 0) (c.type_inv.s a.at.0).fits (omega arith) in
    omega (arith, fewer)

pub overflow_mul-up : goal.overflow_mul-up
overflow_mul-up c =
    let fewer : count_trailing_zeros 8 (get_or c.args.s.now c.args.at.0 0) < 8 = let a = c.args in
    byte_zeros (get_or a.s.now a.at.0 0) (c.type_inv.s a.at.0).fits (omega arith) in
    omega (arith, fewer)

pub overflow_sub-up : goal.overflow_sub-up
overflow_sub-up c =
    let fewer : count_trailing_zeros 8 (get_or c.args.s.now c.args.at.0 0) < 8 = let a = c.args in
    byte_zeros (get_or a.s.now a.at.0 0) (c.type_inv.s a.at.0).fits (omega arith) in
    omega (arith, fewer)

pub overflow_mul-result : goal.overflow_mul-result
overflow_mul-result c =
    let fewer : count_trailing_zeros 8 (get_or c.args.s.now c.args.at.0 0) < 8 = let a = c.args in
    byte_zeros (get_or a.s.now a.at.0 0) (c.type_inv.s a.at.0).fits (omega arith) in
    omega (arith, fewer)

pub overflow_sub-result : goal.overflow_sub-result
overflow_sub-result c =
    let fewer : count_trailing_zeros 8 (get_or c.args.s.now c.args.at.0 0) < 8 = let a = c.args in
    byte_zeros (get_or a.s.now a.at.0 0) (c.type_inv.s a.at.0).fits (omega arith) in
    omega (arith, fewer)

pub overflow_shr-result : goal.overflow_shr-result
overflow_shr-result c =
    let fewer : count_trailing_zeros 8 (get_or c.args.s.now c.args.at.0 0) < 8 = let a = c.args in
    byte_zeros (get_or a.s.now a.at.0 0) (c.type_inv.s a.at.0).fits (omega arith) in
    omega (arith, fewer)

pub overflow_add-result : goal.overflow_add-result
overflow_add-result c =
    let fewer : count_trailing_zeros 8 (get_or c.args.s.now c.args.at.0 0) < 8 = let a = c.args in
    byte_zeros (get_or a.s.now a.at.0 0) (c.type_inv.s a.at.0).fits (omega arith) in
    omega (arith, fewer)

pub returns : goal.returns
unfolding count_length
returns c =
    let eight : c.args.at.0 + 8 ≤ length c.args.s.now = let a = c.args in all_there 8 a.s.now a.at.0 (sym c.is_short.ensures ∙ c.if-is_short.false) in
    let fewer : count_trailing_zeros 8 (get_or c.args.s.now c.args.at.0 0) < 8 = let a = c.args in
    byte_zeros (get_or a.s.now a.at.0 0) (c.type_inv.s a.at.0).fits (omega arith) in
    let a = c.args in
    let zeros = count_trailing_zeros 8 (get_or a.s.now a.at.0 0) in
    let bytes : Bytes a.s.now = λ i. (c.type_inv.s i).fits in
    let there = eight in
    let few = fewer in
    let word = c.number_in.result in
    let value = ap (λ (w : ℕ). shifted w zeros) (c.number_in.ensures ∙ le-part c.args.s.now c.args.at.0 8) ∙ value_together a.s.now a.at.0 zeros bytes there few in
    let form : Form (zeros + 1) (shifted word zeros) = rw value (upto_8_form a.s.now a.at.0 bytes (omega arith) (omega arith)) in
    let flag = rw (← top_seven word zeros few) at (shortest_zeros zeros (shifted word zeros) form) in
    let says : Bool → Outcome (At Count) = λ b. accepted (record { value = record { value = shifted word zeros; len = zeros + 1; shortest = b }; next = a.at.0 + (zeros + 1) }) in
    let reads : ℕ → Outcome (At Count) = λ v. accepted (record { value = count_of (zeros + 1) v; next = a.at.0 + (zeros + 1) }) in
    ap says flag ∙ ap reads value ∙ sym (whole_upto_8 a.s.now a.at.0 (omega arith) (omega arith))
