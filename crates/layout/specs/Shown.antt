-- What each answer says, by number and values.
use Rattle.std.specs.Prelude.{ℕ, Result}
use Rattle.wire.specs.Table.{Outcome}
use Rattle.wire.specs.Shown.{shown_in, shown_by}
use Rattle.wire.specs.declared.refusal.Refused.{Refused}
use Rattle.wire.specs.declared.units.ByteOffset.{ByteOffset}
use Rattle.layout.specs.Scan.{Scanned}
use Rattle.layout.specs.Steps.{Nodes, nodes_of}
use Rattle.layout.specs.declared.head.Head.{Head}
use Rattle.layout.specs.declared.scan.Scanned.{Scanned as Answer}

abbrev pub shown_root : Result ℕ (Refused ℕ) → Outcome ℕ
shown_root = shown_by (λ id. id)

-- the layout itself, and the number of long counts
abbrev pub shown_scan : Result Answer (Refused ByteOffset) → Outcome Scanned
shown_scan = shown_in (λ r. record { layout = r.layout; long = r.long_counts })

-- of a stage: it passes with what it read, or refuses
abbrev pub shown_stage : {A : Type 0} → Result A (Refused ByteOffset) → Outcome A
shown_stage = shown_in (λ v. v)

abbrev pub shown_head : Result Head (Refused ByteOffset) → Outcome Nodes
shown_head = shown_in nodes_of
