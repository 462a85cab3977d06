-- What each answer says, by number and values.
use Rattle.std.specs.Prelude.{ℕ, List, Option, Result}
use Rattle.wire.specs.Table.{Outcome}
use Rattle.wire.specs.Shown.{shown_by}
use Rattle.wire.specs.declared.refusal.Refused.{Refused}

-- what is left of the bound
abbrev pub shown_slots : Result (Option ℕ) (Refused ℕ) → Outcome (Option ℕ)
shown_slots = shown_by (λ left. left)

-- the digest
abbrev pub shown_digest : Result (List ℕ) (Refused ℕ) → Outcome (List ℕ)
shown_digest = shown_by (λ word. word)
