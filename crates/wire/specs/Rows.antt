-- Rows of numbers of k bytes each, lowest byte first: written, and read; and given bytes at a place.
use Rattle.std.specs.Prelude.{ℕ, zero, suc, ◌+◌, ◌<◌, List, [], ◌∷◌, ◌++◌, Bool, false, not, ◌||◌, eqb, get_or, take, drop}
use Rattle.wire.specs.Le.{le, le_bytes}

-- each number of xs as k bytes, one after the other
unfoldable pub rows : ℕ → List ℕ → List ℕ
rows k [] = []
rows k (x ∷ xs) = le_bytes k x ++ rows k xs

-- n numbers of k bytes, read from a list of bytes
unfoldable pub numbers_of : ℕ → ℕ → List ℕ → List ℕ
numbers_of k zero bs = []
numbers_of k (suc n) bs = le (take k bs) ∷ numbers_of k n (drop k bs)

-- every number of a list is below m
abbrev pub Below : ℕ → List ℕ → Type 0
Below m [] = Unit {0}
Below m (x ∷ xs) = (x < m) × Below m xs

-- one of the n bytes from a place on is not the wanted one
abbrev pub differs : List ℕ → ℕ → List ℕ → ℕ → Bool
differs s at want zero = false
differs s at want (suc n) = differs s at want n || not (eqb (get_or s (at + n) 0) (get_or want n 0))
