-- What the types of the scan's arguments say of them. It is promised, so that theorems about calls need not assume it.
use Rattle.std.specs.Prelude.{◌≡◌, List, ℕ, ◌^◌, ◌<◌, length}
use Rattle.wire.specs.Le.{Bytes}
use Rattle.layout.specs.declared.facts.FormatFacts.{FormatFacts}

-- the magic has four bytes, the version three
pub record Proper (f : FormatFacts) : Type 0 where
  pub four : length f.magic ≡ 4
  pub three : length f.version ≡ 3

-- and the file is of bytes, fewer than 2 ^ 64
pub record Given (f : FormatFacts) (s : List ℕ) : Type 0 where
  pub proper : Proper f
  pub bytes : Bytes s
  pub below : length s < 2 ^ 64
