-- What the writer's answer says, by number and values; and the parts as they are lent.
use Rattle.std.specs.Prelude.{ℕ, List, Result}
use Rattle.wire.specs.Table.{Outcome}
use Rattle.wire.specs.Shown.{shown_by}
use Rattle.wire.specs.declared.refusal.Refused.{Refused}
use Rattle.writer.specs.Parts.{Parts}
use Rattle.writer.specs.declared.parts.Parts.{Parts as LentParts}

-- the file's length
abbrev pub shown_write : Result ℕ (Refused ℕ) → Outcome ℕ
shown_write = shown_by (λ n. n)

abbrev pub lent : ℕ → List ℕ → List ℕ → List ℕ → List ℕ → List ℕ → List ℕ → List ℕ → List ℕ → Parts
lent flags roots blocks words external hashes keys lengths values =
    record {
      flags = flags;
      roots = roots;
      blocks = blocks;
      words = words;
      external = external;
      hashes = hashes;
      keys = keys;
      lengths = lengths;
      values = values;
    }

-- what a call lends
abbrev pub lent_parts : LentParts → Parts
lent_parts p =
    lent p.flags p.roots.now p.blocks.now p.words.now p.external.now p.hashes.now p.keys.now p.lengths.now p.values.now
