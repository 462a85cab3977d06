-- `wire::word::is_element` meets its contract.
-- Assumes nothing.
use mathlib.Core.Path.{refl}
use Rattle.wire.specs.Words.{is_element}
use Rattle.wire.proofs.word.is_element.Goals as goal

pub returns : goal.returns
unfolding is_element
returns c =
    refl
