use Rattle.std.proofs.Common.{arith}
use Rattle.std.proofs.lemmas.Grind.{common_steps}
use Rattle.text.proofs.Texts.{long_hole, long_plain, long_end}
use Rattle.text.proofs.fill.filled_len.Goals as goal
use Rattle.text.proofs.fill.filled_len.Goals.{then-b-eq-HOLE, else-b-eq-HOLE}

pub loop-b-preserved : goal.loop-b-preserved
loop-b-preserved c =
    elim c.if-b-eq-HOLE.branch [
      | then-b-eq-HOLE w ↦ grind (arith, common_steps, long_hole)
      | else-b-eq-HOLE w ↦ grind (arith, common_steps, long_plain)
    ]

pub returns : goal.returns
returns c = grind (arith, long_end)
