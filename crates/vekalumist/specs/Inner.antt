-- Private contracts only.
use Rattle.std.specs.Prelude.{ℕ, [], ◌∷◌}
use Rattle.wire.specs.Table.{rule, Outcome, accepted, first_met, checked, ◌>>=◌}
use Rattle.wire.specs.Refusals.{PAYLOAD}
use Rattle.info.specs.Node.{numbers_of, make_outcome}
use Rattle.info.specs.declared.MastNodeEntry.{MastNodeEntry}
use Rattle.vekalumist.specs.Calls.{wide, wide_any}

-- a number of an entry: PAYLOAD [0] where it is too wide
abbrev pub number_of_entry : ℕ → Outcome ℕ
number_of_entry n = first_met (rule PAYLOAD 0 (wide n) ∷ []) n

-- the entry of a kind and two numbers, of which those are judged that the kind has
unfoldable pub entry_of_kind : ℕ → ℕ → ℕ → Outcome MastNodeEntry
entry_of_kind kind a b =
    make_outcome kind a b
    >>= (λ e. checked (rule PAYLOAD 0 (wide_any (numbers_of e)) ∷ [])
    >>= (λ _. accepted e))
