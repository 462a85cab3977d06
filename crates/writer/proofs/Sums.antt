-- A sum, one number after the other. Assumes nothing.
use mathlib.Core.Path.{◌≡◌}
use Prim.Native.Nat.{ℕ, ◌+◌, ◌≤◌, ◌<◌}
use native.Mathlib.Numerals.{add-one}
use mathlib.Core.List.{List}
use lib.ListN.{length, drop, get_or, drop_of_length-le}
use lib.Seq.{drop-cons}
use Rattle.writer.specs.Writer.{sum}

-- what is left of a list, from number i on
module _ (ns : List ℕ) (i : ℕ) where
  pub sum_next : i < length ns → sum (drop i ns) ≡ get_or ns i 0 + sum (drop (i + 1) ns)
  sum_next h = rw (add-one, drop-cons ns i 0 h)

  pub sum_none : length ns ≤ i → sum (drop i ns) ≡ 0
  sum_none e = rw (drop_of_length-le ns e)
