-- The laws of little-endian numbers, each stated once, over the width: 4 and 8 bytes are instances.
-- Assumes nothing.
use mathlib.Core.Path.{◌≡◌, refl, ap, sym, ◌∙◌}
use mathlib.Core.List.{List, [], ◌∷◌, ◌++◌, append-nil}
use Prim.Native.Nat.{ℕ, zero, suc, ◌+◌, ◌-◌, ◌*◌, ◌/◌, ◌%◌, ◌^◌, ◌≤◌, ◌<◌}
use native.Mathlib.Nat.{mod-lt, mod-one, mod-eq_of_lt, one-le-pow, pow-suc, add_assoc, add-sub_cancel_left}
use native.Mathlib.Omega.{arith}
use lib.Arith.{mod-mul}
use lib.Dec.{lit<}
use lib.ListN.{length, get_or, take, drop, length-take, length-drop}
use lib.Seq.{slice, slice-cons, length-slice, get_or-drop, take-add, drop_at, drop-append-le, length-take-le}
use Rattle.std.proofs.lemmas.List.{drop-take}
use Rattle.std.specs.Int.{w32, w64, from_le_bytes}
use Rattle.wire.specs.Le.{Bytes, le, le_at, le_bytes}

-- ---- lists of bytes: the tail, one after the other, a part

pub bytes_tail : (b : ℕ) (bs : List ℕ) → Bytes (b ∷ bs) → Bytes bs
bytes_tail b bs h i = h (suc i)

pub bytes_append : (a b : List ℕ) → Bytes a → Bytes b → Bytes (a ++ b)
bytes_append [] b h g i = g i
bytes_append (x ∷ a) b h g zero = h 0
bytes_append (x ∷ a) b h g (suc i) = bytes_append a b (bytes_tail x a h) g i

pub bytes_front : (a b : List ℕ) → Bytes (a ++ b) → Bytes a
bytes_front [] b h i = lit< tt
bytes_front (x ∷ a) b h zero = h 0
bytes_front (x ∷ a) b h (suc i) = bytes_front a b (bytes_tail x (a ++ b) h) i

pub bytes_drop : (n : ℕ) (bs : List ℕ) → Bytes bs → Bytes (drop n bs)
bytes_drop n bs h i = rw get_or-drop (h (n + i))

pub bytes_take : (n : ℕ) (bs : List ℕ) → Bytes bs → Bytes (take n bs)
bytes_take zero bs h i = lit< tt
bytes_take (suc n) [] h i = lit< tt
bytes_take (suc n) (b ∷ bs) h zero = h zero
bytes_take (suc n) (b ∷ bs) h (suc i) = bytes_take n bs (bytes_tail b bs h) i

pub bytes_slice : (f t : ℕ) (bs : List ℕ) → Bytes bs → Bytes (slice f t bs)
bytes_slice f t bs h = bytes_drop f (take t bs) (bytes_take t bs h)

-- ---- the value of at most k bytes is below 256 ^ k

pub le_below : (k : ℕ) (bs : List ℕ) → Bytes bs → length bs ≤ k → le bs < 256 ^ k
unfolding le
le_below zero [] h l = lit< tt
le_below zero (b ∷ bs) h l = absurd (omega arith)
le_below (suc k) [] h l = omega (arith, le_below k [] h (omega arith))
le_below (suc k) (b ∷ bs) h l = omega (arith, h 0, le_below k bs (bytes_tail b bs h) (omega arith))

pub le-slice_below : (k f t : ℕ) (bs : List ℕ) → Bytes bs → t ≤ f + k → le (slice f t bs) < 256 ^ k
le-slice_below k f t bs h l = le_below k (slice f t bs) (bytes_slice f t bs h) (simp (length-drop, length-take) (omega arith))

-- the widths in use are instances: to antt 256 ^ 4 and 2 ^ 32 are one number
pub le_4 : (bs : List ℕ) → Bytes bs → length bs ≤ 4 → le bs < 2 ^ 32
le_4 = le_below 4

pub le_8 : (bs : List ℕ) → Bytes bs → length bs ≤ 8 → le bs < 2 ^ 64
le_8 = le_below 8

-- ---- a number and what stands after its first bytes

-- one byte, and the rest; at a distance from `at`, so that it chains
pub le_next : (s : List ℕ) (at k n : ℕ) → at + k + suc n ≤ length s → le_at s (at + k) (suc n) ≡ get_or s (at + k) 0 + 256 * le_at s (at + suc k) n
unfolding le
le_next s at k n h =
    let e : at + k + suc n ≡ at + suc k + n = omega arith in
    let f : suc (at + k) ≡ at + suc k = omega arith in
    rw (slice-cons (at + k) (at + k + suc n) s 0 (omega arith) h, e, ← f)

le_append : (a b : List ℕ) → le (a ++ b) ≡ le a + 256 ^ length a * le b
unfolding le
le_append [] b = omega arith
le_append (x ∷ a) b = rw (le_append a b, pow-suc) (omega arith)

pub slice-parts : (s : List ℕ) (at m n : ℕ) → at + m ≤ length s → slice at (at + (m + n)) s ≡ slice at (at + m) s ++ slice (at + m) (at + m + n) s
slice-parts s at m n h =
    let l : length (take (at + m) s) ≡ at + m = length-take-le (at + m) s h in
    let e : take (at + (m + n)) s ≡ take (at + m) s ++ take n (drop (at + m) s) = rw (← add_assoc at m n) (take-add (at + m) n s) in
    let f : take (at + m + n) s ≡ take (at + m) s ++ take n (drop (at + m) s) = take-add (at + m) n s in
    rw (e, f, drop_at (take (at + m) s) (take n (drop (at + m) s)) (at + m) l) (drop-append-le at (take (at + m) s) (take n (drop (at + m) s)) (omega arith))

-- the first m bytes, and the n after them
pub le_parts : (s : List ℕ) (at m n : ℕ) → at + m ≤ length s → le_at s at (m + n) ≡ le_at s at m + 256 ^ m * le_at s (at + m) n
le_parts s at m n h =
    let l : length (slice at (at + m) s) ≡ m = length-slice at (at + m) s h ∙ omega arith in
    rw (slice-parts s at m n h, le_append, l)

-- one byte more in front: what a loop from the highest byte down does
pub le-slice_back : (p t : ℕ) (s : List ℕ) → 0 < p → p ≤ t → t ≤ length s → le (slice (p - 1) t s) ≡ le (slice p t s) * 256 + get_or s (p - 1) 0
unfolding le
le-slice_back p t s h k l =
    let e : suc (p - 1) ≡ p = omega arith in
    let front : slice (p - 1) t s ≡ get_or s (p - 1) 0 ∷ slice p t s =
    slice-cons (p - 1) t s 0 (omega arith) l ∙ ap (λ (x : ℕ). get_or s (p - 1) 0 ∷ slice x t s) e in
    rw front (omega arith)

-- ---- the bytes of a number

pub length-le_bytes : (n x : ℕ) → length (le_bytes n x) ≡ n
unfolding le_bytes
length-le_bytes zero x = refl
length-le_bytes (suc n) x = ap suc (length-le_bytes n (x / 256))

pub bytes_le_bytes : (n x : ℕ) → Bytes (le_bytes n x)
unfolding le_bytes
bytes_le_bytes zero x i = lit< tt
bytes_le_bytes (suc n) x zero = mod-lt x (lit< tt)
bytes_le_bytes (suc n) x (suc i) = bytes_le_bytes n (x / 256) i

-- there and back, over the width
pub le-le_bytes : (n x : ℕ) → le (le_bytes n x) ≡ x % 256 ^ n
unfolding le le_bytes
le-le_bytes zero x = sym (mod-one x)
le-le_bytes (suc n) x = rw (le-le_bytes n (x / 256), pow-suc, mod-mul x (one-le-pow n 256 (lit< tt)) (lit< tt)) (omega arith)

pub le-le_bytes_fits : (n x : ℕ) → x < 256 ^ n → le (le_bytes n x) ≡ x
le-le_bytes_fits n x h = le-le_bytes n x ∙ mod-eq_of_lt h

pub le_bytes-le : (bs : List ℕ) → Bytes bs → le_bytes (length bs) (le bs) ≡ bs
unfolding le le_bytes
le_bytes-le [] h = refl
le_bytes-le (b ∷ bs) h =
    let low : (b + 256 * le bs) % 256 ≡ b = omega (arith, h 0) in
    let high : (b + 256 * le bs) / 256 ≡ le bs = omega (arith, h 0) in
    rw (low, high, le_bytes-le bs (bytes_tail b bs h))

-- lists of bytes of one length are told apart by their values
pub le_injective : (bs cs : List ℕ) → Bytes bs → Bytes cs → length bs ≡ length cs → le bs ≡ le cs → bs ≡ cs
le_injective bs cs hb hc l e = cc (le_bytes-le bs hb, le_bytes-le cs hc)

-- ---- eight bytes as std reads them: those of a part, and zeros after it

pub le-eight : (part : List ℕ) → length part ≤ 8 → from_le_bytes w64 (part ++ drop (length part) (0 ∷ 0 ∷ 0 ∷ 0 ∷ 0 ∷ 0 ∷ 0 ∷ 0 ∷ [])) ≡ le part
unfolding le
le-eight [] h = refl
le-eight (a ∷ []) h = omega arith
le-eight (a ∷ b ∷ []) h = omega arith
le-eight (a ∷ b ∷ c ∷ []) h = omega arith
le-eight (a ∷ b ∷ c ∷ d ∷ []) h = omega arith
le-eight (a ∷ b ∷ c ∷ d ∷ e ∷ []) h = omega arith
le-eight (a ∷ b ∷ c ∷ d ∷ e ∷ f ∷ []) h = omega arith
le-eight (a ∷ b ∷ c ∷ d ∷ e ∷ f ∷ g ∷ []) h = omega arith
le-eight (a ∷ b ∷ c ∷ d ∷ e ∷ f ∷ g ∷ i ∷ []) h = omega arith
le-eight (a ∷ b ∷ c ∷ d ∷ e ∷ f ∷ g ∷ i ∷ j ∷ l) h = absurd (omega arith)

-- a part that is cut out of the bytes, as the number of its bytes
pub le-part : (s : List ℕ) (at n : ℕ) → le (take (at + n - at) (drop at s)) ≡ le_at s at n
le-part s at n = rw (add-sub_cancel_left, drop-take) refl

-- the numbers that std makes of all eight or four bytes
pub le-whole_8 : (bs : List ℕ) → length bs ≡ 8 → from_le_bytes w64 bs ≡ le bs
le-whole_8 bs h = let e : bs ++ drop (length bs) (0 ∷ 0 ∷ 0 ∷ 0 ∷ 0 ∷ 0 ∷ 0 ∷ 0 ∷ []) ≡ bs = rw h (append-nil bs) in rw e at (le-eight bs (omega arith))

pub le-whole_4 : (bs : List ℕ) → length bs ≡ 4 → from_le_bytes w32 bs ≡ le bs
unfolding le
le-whole_4 [] h = absurd (omega arith)
le-whole_4 (a ∷ []) h = absurd (omega arith)
le-whole_4 (a ∷ b ∷ []) h = absurd (omega arith)
le-whole_4 (a ∷ b ∷ c ∷ []) h = absurd (omega arith)
le-whole_4 (a ∷ b ∷ c ∷ d ∷ []) h = omega arith
le-whole_4 (a ∷ b ∷ c ∷ d ∷ e ∷ l) h = absurd (omega arith)
