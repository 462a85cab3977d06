-- No digit at all, or a number, before the space.
use Rattle.std.proofs.Common.{sym, ◌∙◌, arith}
use Rattle.std.proofs.lemmas.Grind.{common_steps}
use Rattle.recorded.proofs.Texts.{begins_0, begins_number}
use Rattle.recorded.proofs.reading.first_number.Goals as goal
use Rattle.recorded.proofs.reading.first_number.Goals.{then-is_empty, else-is_empty+in_ok-value}

pub returns : goal.returns
returns c =
    let l = c.args.l.now in
    let cut = c.in_ok-digits.ensures.some in
    elim c.if-is_empty.branch [
      | then-is_empty w ↦ rw w.value-is (begins_0 l _ _ cut (grind (arith, common_steps)))
      | else-is_empty+in_ok-value w ↦ rw w.value-is (begins_number l _ _ cut _ (sym w.number_of.ensures ∙ w.in_ok-value.was))
    ]
