-- `wire::count::write_form` meets its contract: each arm stores the form of its case.
-- Assumes nothing.
use mathlib.Core.Path.{◌≡◌, ap, ◌∙◌}
use Prim.Native.Nat.{ℕ, ◌+◌, ◌-◌, ◌*◌, ◌^◌, ◌%◌}
use native.Mathlib.Omega.{arith}
use borrow.Author.Rules.{rules}
use lib.ListN.{length, set, length-set}
use lib.Seq.{sets, length-sets}
use borrow.Rule.Slice.PartMut.{put_mid}
use Rattle.wire.specs.Le.{le_bytes}
use Rattle.wire.proofs.Le.{length-le_bytes}
use Rattle.wire.proofs.Counts.{form_small, part_stored, store_upto_8, store_9}
use Rattle.wire.proofs.count.write_form.Goals as goal

pub overflow_mul-v : goal.overflow_mul-v
overflow_mul-v c =
    omega (arith, form_small c.args.len c.args.v c.requires.0 (omega arith))

pub overflow_add-v : goal.overflow_add-v
overflow_add-v c =
    omega (arith, form_small c.args.len c.args.v c.requires.0 (omega arith))

pub slice_bounds-put_le-end-else-len-le8 : goal.slice_bounds-put_le-end-else-len-le8
slice_bounds-put_le-end-else-len-le8 c =
    simp length-set (omega arith)

pub returns-then-len-le8 : goal.returns-then-len-le8
returns-then-len-le8 c =
    let a = c.args in
    let x = (2 * a.v + 1) * 2 ^ (a.len - 1) % 2 ^ 64 in
    part_stored a.out.now a.at a.len (c.put_le.ensures ∙ ap (λ (n : ℕ). le_bytes n x) (search rules)) (length-le_bytes a.len x) (search rules)
    ∙ store_upto_8 a.out.now a.at a.len a.v c.requires.0 (omega arith)

pub shape_of-out-else-len-le8 : goal.shape_of-out-else-len-le8
shape_of-out-else-len-le8 c =
    let stored : let a = c.args in
    put_mid (a.at + 1) (a.at + 1 + 8 - (a.at + 1)) (set a.out.now a.at 0) c.put_le-else-len-le8.new.part ≡ sets (set a.out.now a.at 0) (a.at + 1) (le_bytes 8 a.v) = let a = c.args in
    part_stored (set a.out.now a.at 0) (a.at + 1) 8 (c.put_le-else-len-le8.ensures ∙ ap (λ (n : ℕ). le_bytes n a.v) (search rules)) (length-le_bytes 8 a.v) (simp length-set (omega arith)) in
    let a = c.args in
    ap length (stored) ∙ length-sets (set a.out.now a.at 0) (a.at + 1) (le_bytes 8 a.v) ∙ length-set a.out.now a.at 0

pub returns-else-len-le8 : goal.returns-else-len-le8
returns-else-len-le8 c =
    let stored : let a = c.args in
    put_mid (a.at + 1) (a.at + 1 + 8 - (a.at + 1)) (set a.out.now a.at 0) c.put_le-else-len-le8.new.part ≡ sets (set a.out.now a.at 0) (a.at + 1) (le_bytes 8 a.v) = let a = c.args in
    part_stored (set a.out.now a.at 0) (a.at + 1) 8 (c.put_le-else-len-le8.ensures ∙ ap (λ (n : ℕ). le_bytes n a.v) (search rules)) (length-le_bytes 8 a.v) (simp length-set (omega arith)) in
    stored ∙ store_9 c.args.out.now c.args.at c.args.len c.args.v c.requires.0 (omega arith)
