use Rattle.std.proofs.Common.{arith}
use Rattle.std.proofs.lemmas.Grind.{common_steps}
use Rattle.text.proofs.Texts.{long_hole, long_plain, from_end, stored_hole, stored_plain}
use Rattle.text.proofs.fill.fill_in.Goals as goal
use Rattle.text.proofs.fill.fill_in.Goals.{then-b-eq-HOLE, else-b-eq-HOLE}

pub put_decimal-at-requires : goal.put_decimal-at-requires
put_decimal-at-requires c = grind (arith, common_steps, long_hole)

pub bounds-out-at : goal.bounds-out-at
bounds-out-at c = grind (arith, common_steps, long_plain)

pub loop-b-preserved : goal.loop-b-preserved
loop-b-preserved c =
    elim c.if-b-eq-HOLE.branch [
      | then-b-eq-HOLE w ↦ grind (arith, common_steps, long_hole, stored_hole)
      | else-b-eq-HOLE w ↦ grind (arith, common_steps, long_plain, stored_plain)
    ]

pub returns : goal.returns
returns c = grind (arith, common_steps, from_end)
