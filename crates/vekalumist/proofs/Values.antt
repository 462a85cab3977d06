-- What the numbers of an answer mean: the part that `veka_raw_values` answers is the values' part of the file, and after an accepted walk nothing
-- follows the map exactly if `trailing` is 0.
-- Assumes nothing.
use mathlib.Core.Path.{◌≡◌, refl}
use mathlib.Core.List.{List}
use mathlib.Core.Logic.{◌↔◌}
use Prim.Native.Nat.{ℕ, ◌+◌, ◌-◌, ◌≤◌}
use native.Mathlib.Omega.{arith}
use lib.ListN.{length, get_or}
use lib.Seq.{slice}
use Rattle.wire.specs.Table.{accepted}
use Rattle.advice.specs.Lookup.{Looked, found, absent, values_part}
use Rattle.vekalumist.specs.Answers.{part_row}

pub part_of_the_file : (s : List ℕ) (l : Looked) → slice (get_or (part_row l) 1 0) (get_or (part_row l) 1 0 + get_or (part_row l) 2 0) s ≡ values_part s (accepted l)
part_of_the_file s (found at len compared) = refl
part_of_the_file s (absent compared) = refl

pub nothing_follows : (s : List ℕ) (end : ℕ) → end ≤ length s → (length s - end ≡ 0) ↔ (end ≡ length s)
nothing_follows s end h = ((λ e. omega arith), (λ e. omega arith))
