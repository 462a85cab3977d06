-- `keys::claim::key_at` meets its contract. Assumes nothing.
use mathlib.Core.Path.{sym}
use native.Mathlib.Omega.{arith}
use Rattle.keys.proofs.Lent.{key_none, key_numbers}
use Rattle.keys.proofs.claim.key_at.Goals as goal

pub returns-then-keys-i : goal.returns-then-keys-i
returns-then-keys-i c =
    sym (key_none _ _ (omega arith))

pub returns : goal.returns
returns c =
    sym (key_numbers _ _ (omega arith))
