-- What is past a mark is shorter.
use Rattle.std.proofs.Common.{◌<◌, length, arith}
use Rattle.std.proofs.lemmas.Bool.Decides.{nat_tests}
use Rattle.recorded.proofs.Texts.{past_shorter}
use Rattle.recorded.proofs.print_all.Goals as goal

pub loop-rest-smaller : goal.loop-rest-smaller
loop-rest-smaller g c =
    let some : 0 < length c.loop-rest.rest.now = grind (arith, nat_tests) in
    rw c.cut-in-loop-rest.ensures.back (past_shorter 64 c.loop-rest.rest.now some)
