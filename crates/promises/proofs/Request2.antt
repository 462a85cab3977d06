-- Request 2 of document 02: a count that was written long is told. The count reader says in how many bytes a count stands and whether no fewer would
-- do; the scan says how many of its four counts are long, the walk how many of the map's count and its lengths, and both in a row the sum. Only an
-- acceptance says it: a refusal has its number and place. Which files are accepted does not change: the tables of scan and walk are what they were.
-- Assumes nothing.
use mathlib.Core.Path.{◌≡◌, refl, sym, ap, subst, ◌∙◌}
use mathlib.Core.Bool.{Bool, true, false}
use mathlib.Core.List.{List, [], ◌∷◌}
use mathlib.Core.Logic.{◌↔◌, ⊎_elim}
use Prim.Native.Nat.{ℕ, ◌+◌, ◌-◌, ◌*◌, ◌^◌, ◌≤◌, ◌<◌}
use native.Mathlib.Omega.{arith}
use borrow.Author.Tests.{eqb-true, eqb-false, eq-eqb, ne_eqb, ltb-false}
use lib.Dec.{eqb}
use lib.ListN.{length, get_or}
use Rattle.std.specs.Prelude.{Option, Ok}
use Rattle.wire.specs.Table.{accepted, At}
use Rattle.wire.specs.Le.{Bytes}
use Rattle.wire.specs.Counts.{shortest_len, long_ones, count_length, counted, count_rule, count_outcome, Form}
use Rattle.wire.specs.declared.count.Count.{Count}
use Rattle.wire.specs.declared.units.ByteOffset.{ByteOffset}
use Rattle.wire.specs.declared.units.Cursor.{Cursor}
use Rattle.wire.proofs.Tables.{accepted_none}
use Rattle.wire.proofs.Counts.{lt_or_ge, shortest_form}
use Rattle.wire.proofs.Forms.{form_of_read, shortest_least, long_exactly}
use Rattle.layout.specs.Scan.{Scanned, head_counts, map_at}
use Rattle.layout.specs.declared.facts.FormatFacts.{FormatFacts}
use Rattle.layout.specs.declared.forest.ForestLayout.{ForestLayout}
use Rattle.advice.specs.Walk.{Walked, walked, map_counts}
use Rattle.advice.proofs.Accepts.{walk_accepts}
use Rattle.writer.specs.Parts.{file_counts, EachShortest}
use Rattle.whole.specs.Whole.{Sheet, whole_outcome}
use Rattle.whole.proofs.WholeLaws.{whole_accepts}
use Rattle.whole.proofs.Accepted.{scanned_unmet}
use Rattle.renderings.proofs.Long as laws
use Rattle.promises.proofs.Calls.{ReadsCount, Scans, Walks, ReadsWhole}
use Rattle.promises.proofs.Demand3.{Accepts, Shortest, shortest_told}
use Rattle.promises.proofs.Scan as of_scan
use Rattle.promises.proofs.Advice as of_map

-- what the reader says of a count
pub record CountTold (c : Count) : Type 0 where
  -- its value has a form in so many bytes
  pub form : Form c.len c.value
  -- the flag is up exactly if it has none in fewer
  pub shortest : (c.shortest ≡ true) ↔ ((m : ℕ) → Form m c.value → c.len ≤ m)
  -- and down exactly if the bytes are more than one, and one fewer, of seven bits each, would hold the value
  pub long : (c.shortest ≡ false) ↔ ((1 < c.len) × (c.value < 2 ^ (7 * (c.len - 1))))

-- scan and walk accept a file: of its counts in the file's order (`file_counts`) so many are long, together, and none exactly if each has its shortest
-- form
pub record FileTold (f : FormatFacts) (s : List ℕ) (scan walk : ℕ) : Type 0 where
  pub sum : scan + walk ≡ long_ones (file_counts f s)
  pub none : ((scan ≡ 0) × (walk ≡ 0)) ↔ EachShortest (file_counts f s)

pub record Request2 : Type 0 where
  pub count : (s : List ℕ) (at : ℕ) (c : Count) (next : Cursor) → Bytes s → ReadsCount s at (Ok (c, next)) → CountTold c × (next.at.0 ≡ at + c.len)
  -- of the four counts before the map (`head_counts`), and of the map's (`map_counts`)
  pub scan : (s : List ℕ) (f : FormatFacts) (allow : Bool) (bound : Option ℕ) (l : ForestLayout) (n : ℕ) → Scans s f allow bound (Ok (record { layout = l; long_counts = n })) → n ≡ long_ones (head_counts f s)
  pub walk : (s : List ℕ) (at : ℕ) (t₀ t : List ℕ) (entries : ℕ) (c : Cursor) (n : ℕ) → Walks s at t₀ t (Ok (record { entries = entries; end = c; long_counts = n })) → n ≡ long_ones (map_counts s at)
  pub file : (s : List ℕ) (f : FormatFacts) (allow : Bool) (bound : Option ℕ) (l : ForestLayout) (n : ℕ) → Scans s f allow bound (Ok (record { layout = l; long_counts = n }))
      → (t₀ t : List ℕ) (entries : ℕ) (c : Cursor) (k : ℕ) → Walks s l.advice_map_offset.0 t₀ t (Ok (record { entries = entries; end = c; long_counts = k })) → FileTold f s n k
  -- both in a row give the sum
  pub whole : (s : List ℕ) (f : FormatFacts) (allow : Bool) (bound : Option ℕ) (places : ℕ) (l : ForestLayout) (entries : ℕ) (end : ByteOffset) (n : ℕ)
      → ReadsWhole s f allow bound places (Ok (record { layout = l; entries = entries; end = end; long_counts = n })) → n ≡ long_ones (file_counts f s)
  -- for packers: a file that both accept, hashless allowed and no bound, is the shortest of its parts exactly if both say that no count is long
  pub shortest : (f : FormatFacts) (places : ℕ) (s : List ℕ) (entries e : ℕ) (a : Accepts f places s entries e) → Shortest f s e ↔ ((a.scan_long ≡ 0) × (a.walk_long ≡ 0))

-- ---- a count

flag_told : (c : Count) → Form c.len c.value → c.shortest ≡ eqb c.len (shortest_len c.value) → CountTold c
flag_told c f e =
    let short = shortest_len c.value in
    let least = shortest_least c.len c.value f in
    record {
      form = f;
      shortest = (
        λ up m g. omega (arith, eqb-true c.len short (sym e ∙ up), shortest_least m c.value g),
        λ none. e ∙ eq-eqb c.len short (omega (arith, none short (shortest_form c.value f.word))),
      );
      long = (
        λ down. (long_exactly c.len c.value f).0 (less c.len short least (eqb-false c.len short (sym e ∙ down))),
        λ h. e ∙ ne_eqb c.len short (λ q. omega (arith, (long_exactly c.len c.value f).1 h)),
      );
    }
  where
    less : (a b : ℕ) → b ≤ a → (a ≡ b → ⊥) → b < a
    less a b h d = ⊎_elim (λ (g : b < a). g) (λ (g : a ≤ b). absurd (d (omega arith))) (lt_or_ge b a)

module _ (s : List ℕ) (at : ℕ) (bytes : Bytes s) where
  told_at : at + (counted s at).len ≤ length s → CountTold (counted s at)
  unfolding counted
  told_at h = flag_told (counted s at) (form_of_read s at (count_length (get_or s at 0)) bytes refl h).form refl

  count_told : (c : Count) (next : Cursor) → ReadsCount s at (Ok (c, next)) → CountTold c × (next.at.0 ≡ at + c.len)
  unfolding count_outcome
  count_told c next said =
      let k = accepted_none (count_rule s at ∷ []) (record { value = counted s at; next = at + (counted s at).len }) (record { value = c; next = next.at.0 }) (sym said) in
      let same : counted s at ≡ c = ap (λ (x : At Count). x.value) k.1 in
      let place : at + (counted s at).len ≡ next.at.0 = ap (λ (x : At Count). x.next) k.1 in
      (subst CountTold same (told_at (ltb-false (length s) (at + (counted s at).len) k.0.0)), sym place ∙ ap (λ (x : Count). at + x.len) same)

-- ---- scan and walk

file_told : (s : List ℕ) (f : FormatFacts) (scan walk : ℕ) → scan ≡ long_ones (head_counts f s) → walk ≡ long_ones (map_counts s (map_at f s)) → FileTold f s scan walk
file_told s f scan walk scanned walked = record { sum = laws.long_sum f s scan walk scanned walked; none = laws.none_of_both f s scan walk scanned walked }

whole_told : (f : FormatFacts) (allow : Bool) (bound : Option ℕ) (places : ℕ) (s : List ℕ) (a : Sheet) → whole_outcome f allow bound places s ≡ accepted a → a.long ≡ long_ones (file_counts f s)
whole_told f allow bound places s a e =
    let both = (whole_accepts f allow bound places s a).0 e in
    let shown = (scanned_unmet f s allow bound both.scan both.scanned).1 in
    let at = both.scan.layout.advice_map_offset.0 in
    let placed : map_at f s ≡ at = ap (λ (x : Scanned). x.layout.advice_map_offset.0) shown in
    let walks : walked s at ≡ both.walk = ((walk_accepts places s at both.walk).0 both.walked).1 in
    let scanned : both.scan.long ≡ long_ones (head_counts f s) = sym (ap (λ (x : Scanned). x.long) shown) in
    let mapped : both.walk.long ≡ long_ones (map_counts s (map_at f s)) = rw placed (sym (ap (λ (x : Walked). x.long) walks)) in
    sym (ap (λ (x : Sheet). x.long) both.together) ∙ laws.long_sum f s both.scan.long both.walk.long scanned mapped

pub long_counts : Request2
long_counts =
    record {
      count = λ s at c next bytes said. count_told s at bytes c next said;
      scan = λ s f allow bound l n scans. of_scan.long_counted s f allow bound (Ok (record { layout = l; long_counts = n })) scans l n refl;
      walk = λ s at t₀ t entries c n walks. of_map.long_counted s at t₀ t (Ok (record { entries = entries; end = c; long_counts = n })) walks entries c n refl;
      file = λ s f allow bound l n scans t₀ t entries c k walks.
          file_told s f n k (of_scan.long_counted s f allow bound (Ok (record { layout = l; long_counts = n })) scans l n refl)
          (rw (of_scan.map_placed s f allow bound (Ok (record { layout = l; long_counts = n })) scans l n refl)
          (of_map.long_counted s l.advice_map_offset.0 t₀ t (Ok (record { entries = entries; end = c; long_counts = k })) walks entries c k refl));
      whole = λ s f allow bound places l entries end n reads. whole_told f allow bound places s (record { layout = l; entries = entries; end = end.0; long = n }) (sym reads);
      shortest = shortest_told;
    }
