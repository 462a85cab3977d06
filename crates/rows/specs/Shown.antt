-- What each answer says, by number and values.
use Rattle.std.specs.Prelude.{ℕ, Result}
use Rattle.wire.specs.Table.{Outcome}
use Rattle.wire.specs.Shown.{shown_by}
use Rattle.wire.specs.declared.refusal.Refused.{Refused}
use Rattle.info.specs.declared.MastNodeEntry.{MastNodeEntry}

abbrev pub shown_row : Result MastNodeEntry (Refused ℕ) → Outcome MastNodeEntry
shown_row = shown_by (λ e. e)

abbrev pub shown_pass : Result ℕ (Refused ℕ) → Outcome ℕ
shown_pass = shown_by (λ externals. externals)
