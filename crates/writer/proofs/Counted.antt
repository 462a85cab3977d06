-- A count that is written into a part of its own length. Assumes nothing.
use mathlib.Core.Path.{◌≡◌, ◌∙◌}
use mathlib.Core.List.{List, [], ◌∷◌, map}
use Prim.Native.Nat.{ℕ, suc, ◌*◌, ◌^◌, ◌≤◌, ◌<◌}
use native.Mathlib.Omega.{arith}
use lib.ListN.{length, get_or}
use Rattle.wire.specs.Rows.{Below}
use Rattle.writer.specs.Writer.{sum}
use Rattle.wire.specs.Counts.{shortest_len, count_bytes, with_count}
use Rattle.wire.proofs.Counts.{search_least, shortest_form, sets_whole, write_yes}
use Rattle.wire.proofs.Forms.{length_form}

pub length-count : (v : ℕ) → v < 2 ^ 64 → length (count_bytes v) ≡ shortest_len v
length-count v h = length_form (shortest_len v) v (shortest_form v h)

pub count_alone : (out : List ℕ) (v : ℕ) → v < 2 ^ 64 → length out ≡ shortest_len v → with_count out 0 v ≡ count_bytes v
count_alone out v h e = let n = length-count v h in (write_yes out 0 v (omega arith)).1 ∙ sets_whole out (count_bytes v) (omega arith)

-- no form has more than 9 bytes
pub short_most : (v : ℕ) → shortest_len v ≤ 9
unfolding shortest_len
short_most v = (search_least 8 1 v).upto

pub short_all : (vs : List ℕ) → sum (map shortest_len vs) ≤ 9 * length vs
short_all [] = omega arith
short_all (v ∷ vs) = omega (arith, short_most v, short_all vs)

-- each number of a list that a slice of u64 shows
pub all_below : (m : ℕ) (l : List ℕ) → ((i : ℕ) → get_or l i 0 < m) → Below m l
all_below m [] h = tt
all_below m (x ∷ l) h = (h 0, all_below m l (λ i. h (suc i)))
