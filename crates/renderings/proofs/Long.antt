-- Long counts of a file.
--     long_sum                    the scan's number and the walk's together are that of all the file's counts
--     none_of_both, none_long     both are 0 exactly if each count has its shortest form
-- Assumes nothing.
use mathlib.Core.Path.{◌≡◌, refl, sym, ap, ◌∙◌}
use mathlib.Core.Bool.{Bool, true, false}
use mathlib.Core.List.{List, [], ◌∷◌, ◌++◌}
use mathlib.Core.Logic.{◌↔◌}
use Prim.Native.Nat.{ℕ, zero, suc, ◌+◌}
use native.Mathlib.Omega.{arith}
use borrow.Author.Tests.{eqb-true, eq-eqb}
use lib.Dec.{eqb}
use Rattle.wire.specs.Table.{pick}
use Rattle.wire.specs.Counts.{shortest_len, long_ones, counted}
use Rattle.wire.specs.declared.count.Count.{Count}
use Rattle.layout.specs.Scan.{Scanned, head_counts, map_at}
use Rattle.layout.specs.declared.facts.FormatFacts.{FormatFacts}
use Rattle.advice.specs.Walk.{next_entry, walk_shown, shown_sizes, Walked, map_counts}
use Rattle.writer.specs.Parts.{file_counts, EachShortest}
use Rattle.renderings.specs.Rendering.{Ends, Taken}
use Rattle.renderings.proofs.Answers.{taken_shown}

-- counts whose flag is right
abbrev Flagged : List Count → Type 0
Flagged [] = Unit {0}
Flagged (c ∷ cs) = (c.shortest ≡ eqb c.len (shortest_len c.value)) × Flagged cs

-- of one count and some others none is long exactly if it is not, and none of them
none_first : (b : Bool) (n : ℕ) → (pick b 0 1 + n ≡ 0) ↔ ((b ≡ true) × (n ≡ 0))
none_first true n = (λ e. (refl, omega arith), λ h. omega (arith, h.1))
none_first false n = (λ e. absurd (omega arith), λ h. let z : ◌≡◌ {A = ℕ} 0 1 = cc h.0 in absurd (omega arith))

none_of : (cs : List Count) → Flagged cs → (long_ones cs ≡ 0) ↔ EachShortest cs
unfolding long_ones
none_of [] flagged = (λ e. tt, λ h. refl)
none_of (c ∷ cs) flagged =
    let rest = none_of cs flagged.1 in
    let first = none_first c.shortest (long_ones cs) in (
      λ e. (eqb-true c.len (shortest_len c.value) (sym flagged.0 ∙ (first.0 e).0), rest.0 (first.0 e).1),
      λ h. first.1 (flagged.0 ∙ eq-eqb c.len (shortest_len c.value) h.0, rest.1 h.1),
    )

module _ (s : List ℕ) where
  -- what stands at a place has its flag right
  counted_flag : (at : ℕ) → (counted s at).shortest ≡ eqb (counted s at).len (shortest_len (counted s at).value)
  unfolding counted
  counted_flag at = refl

  sizes_flagged : (at n : ℕ) → Flagged (shown_sizes s at n)
  unfolding walk_shown
  sizes_flagged at zero = tt
  sizes_flagged at (suc n) = (counted_flag (at + 32), sizes_flagged (next_entry s at) n)

both_long : (cs ds : List Count) → long_ones (cs ++ ds) ≡ long_ones cs + long_ones ds
unfolding long_ones
both_long [] ds = omega arith
both_long (c ∷ cs) ds = omega (arith, both_long cs ds)

module _ (f : FormatFacts) (s : List ℕ) where
  -- of all counts of any bytes
  pub counts_long : (long_ones (file_counts f s) ≡ 0) ↔ EachShortest (file_counts f s)
  unfolding file_counts
  counts_long =
      let at = counted_flag s in
      none_of (file_counts f s) (at _, (at _, (at _, (at _, (at _, sizes_flagged s _ _)))))

  -- of what scan and walk say
  module _ (scan walk : ℕ) (scanned : scan ≡ long_ones (head_counts f s)) (walked : walk ≡ long_ones (map_counts s (map_at f s))) where
    pub long_sum : scan + walk ≡ long_ones (file_counts f s)
    unfolding file_counts
    long_sum = omega (arith, scanned, walked, both_long (head_counts f s) (map_counts s (map_at f s)))

    pub none_of_both : ((scan ≡ 0) × (walk ≡ 0)) ↔ EachShortest (file_counts f s)
    none_of_both = (
      λ n. counts_long.0 (omega (arith, long_sum, n.0, n.1)),
      λ e. let z : long_ones (file_counts f s) ≡ 0 = counts_long.1 e in (omega (arith, long_sum), omega (arith, long_sum)),
    )

  pub none_long : (places : ℕ) (w : Ends) (taken : Taken f places s w) → ((taken.scan_long ≡ 0) × (taken.walk_long ≡ 0)) ↔ EachShortest (file_counts f s)
  none_long places w taken =
      let said = taken_shown f places s w taken in
      none_of_both taken.scan_long taken.walk_long (sym (ap (λ (x : Scanned). x.long) said.0.1)) (sym (ap (λ (x : Walked). x.long) said.1.1))
