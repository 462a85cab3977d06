-- The first numbers are stored, and those of the rest are left.
use Rattle.std.proofs.Common.{length, Ok}
use Rattle.recorded.proofs.Texts.{Stored}
use Rattle.recorded.proofs.reading.numbers_of.Given as goal

abbrev pub invariant-loop-rest : goal.invariant-loop-rest
invariant-loop-rest g l = Stored (λ n x. g.T.TryFrom.try_from_gives n (Ok x)) l.l l.out l.count l.rest

abbrev pub decreases-loop-rest : goal.decreases-loop-rest
decreases-loop-rest g l = length l.rest
