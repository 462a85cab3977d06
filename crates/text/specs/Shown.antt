-- What each answer says, by number and values.
use Rattle.std.specs.Prelude.{ℕ, Result}
use Rattle.wire.specs.Table.{Outcome, refused, accepted}
use Rattle.wire.specs.Shown.{shown_by}
use Rattle.wire.specs.declared.refusal.Refused.{Refused}

-- how many bytes were written; or how many are needed, or are too many
abbrev pub shown_text : Result ℕ (Refused ℕ) → Outcome ℕ
shown_text = shown_by (λ n. n)

-- the number that it holds: of a text that was written, or had no room, how many bytes it has
abbrev pub text_len : Outcome ℕ → ℕ
text_len (accepted n) = n
text_len (refused why n) = n
