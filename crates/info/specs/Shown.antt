-- What each answer says, by number and values.
use Rattle.std.specs.Prelude.{ℕ, List, [], ◌∷◌, Result}
use Rattle.wire.specs.Table.{Outcome}
use Rattle.wire.specs.Shown.{shown_in, shown_by}
use Rattle.wire.specs.declared.refusal.Refused.{Refused}
use Rattle.wire.specs.declared.units.ByteOffset.{ByteOffset}
use Rattle.info.specs.declared.MastNodeEntry.{MastNodeEntry}
use Rattle.info.specs.declared.node.Children.{Children}
use Rattle.info.specs.declared.node.Children.TheVariants as children
use Rattle.info.specs.declared.node.Class.{Class}
use Rattle.info.specs.declared.node.Class.TheVariants as class

abbrev pub shown_decoded : Result MastNodeEntry (Refused ByteOffset) → Outcome MastNodeEntry
shown_decoded = shown_in (λ e. e)

abbrev pub shown_encoded : Result ℕ (Refused ByteOffset) → Outcome ℕ
shown_encoded = shown_in (λ w. w)

abbrev pub shown_children : Children → List ℕ
shown_children children.None = []
shown_children (children.One a) = a ∷ []
shown_children (children.Two a b) = a ∷ b ∷ []

-- the classes by their place in the order
abbrev pub shown_class : Class → ℕ
shown_class class.External = 0
shown_class class.Block = 1
shown_class class.Other = 2

abbrev pub shown_made : Result MastNodeEntry (Refused ℕ) → Outcome MastNodeEntry
shown_made = shown_by (λ e. e)
