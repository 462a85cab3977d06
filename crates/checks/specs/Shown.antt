-- What each answer says, by number and values.
use Rattle.std.specs.Prelude.{ℕ, Result}
use Rattle.wire.specs.Table.{Outcome}
use Rattle.wire.specs.Shown.{shown_by}
use Rattle.wire.specs.declared.refusal.Refused.{Refused}

abbrev pub shown_check : Result (Unit {0}) (Refused ℕ) → Outcome (Unit {0})
shown_check = shown_by (λ u. u)
