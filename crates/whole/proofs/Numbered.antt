-- Every refusal of scan and walk has a number from 1 to 23.
-- Assumes nothing.
use mathlib.Core.Path.{◌≡◌}
use mathlib.Core.Bool.{Bool, true, false}
use mathlib.Core.List.{List, [], ◌∷◌, ◌++◌}
use mathlib.Core.Logic.{⊎_elim}
use Prim.Native.Nat.{ℕ, zero, suc, ◌+◌, ◌≤◌}
use native.Mathlib.Omega.{arith}
use Rattle.std.specs.Prelude.{Option}
use Rattle.wire.specs.Table.{Rule, refused, accepted, pick, first_met}
use Rattle.wire.specs.Words.{four_at}
use Rattle.wire.proofs.Stages.{first_or_later}
use Rattle.info.specs.Entry.{decode_rules}
use Rattle.layout.specs.Scan.{words_rules, words, entries_at, scan_rules, scan_shown, scan_outcome}
use Rattle.layout.specs.declared.facts.FormatFacts.{FormatFacts}
use Rattle.advice.specs.Walk.{advice_rules, walk_rules, next_entry, first_entry, entry_count, map_rules, walked, walk_outcome}
use Rattle.whole.specs.Whole.{sheet_of, map_outcome, whole_outcome}

-- a number of document 01's table
abbrev pub Numbered : ℕ → Type 0
Numbered n = (1 ≤ n) × (n ≤ 23)

abbrev Listed : List Rule → Type 0
Listed [] = Unit {0}
Listed (r ∷ rs) = Numbered r.number × Listed rs

both_listed : (a b : List Rule) → Listed a → Listed b → Listed (a ++ b)
both_listed [] b h k = k
both_listed (r ∷ a) b h k = (h.0, both_listed a b h.1 k)

module _ {A : Type 0} where
  first_listed : (rs : List Rule) (u : A) (n p : ℕ) → Listed rs → first_met rs u ≡ refused n p → Numbered n
  unfolding first_met
  first_listed [] u n p h e = let z : ◌≡◌ {A = ℕ} 0 1 = cc in absurd (omega arith)
  first_listed (r ∷ rs) u n p h e = by_test (λ k. first_listed rs u n p h.1 k) r.met e
    where
      by_test : (first_met rs u ≡ refused n p → Numbered n) → (m : Bool) → pick m (refused r.number r.place) (first_met rs u) ≡ refused n p → Numbered n
      by_test later true k = let same : r.number ≡ n = cc in (omega (arith, h.0.0), omega (arith, h.0.1))
      by_test later false k = later k

words_listed : (step at : ℕ) (ws : List ℕ) → Listed (words_rules step at ws)
unfolding words_rules decode_rules
words_listed step at [] = tt
words_listed step at (w ∷ ws) = ((omega arith, omega arith), ((omega arith, omega arith), words_listed step (at + step) ws))

scan_listed : (f : FormatFacts) (s : List ℕ) (allow : Bool) (bound : Option ℕ) → Listed (scan_rules f s allow bound)
unfolding scan_rules
scan_listed f s allow bound =
    let one : Numbered 1 = (omega arith, omega arith) in
    let six : Numbered 6 = (omega arith, omega arith) in
    let eight : Numbered 8 = (omega arith, omega arith) in
    ((omega arith, omega arith), (one, ((omega arith, omega arith), (one, (one, ((omega arith, omega arith), ((omega arith, omega arith), ((omega arith, omega arith), (one, (one, (six, ((omega arith, omega arith), (eight, (eight, (eight, (one, (eight, (six, (one, (one, (six, (eight, (one, both_listed (words_rules 8 (entries_at f s) (words f s)) _ (words_listed 8 (entries_at f s) (words f s)) ((omega arith, omega arith), tt))))))))))))))))))))))))

walk_listed : (places : ℕ) (s : List ℕ) (at n : ℕ) (seen : List (List ℕ)) → Listed (walk_rules places s at n seen)
unfolding walk_rules
walk_listed places s at zero seen = tt
walk_listed places s at (suc n) seen =
    both_listed (advice_rules s at places seen) (walk_rules places s (next_entry s at) n (four_at s at ∷ seen))
    ((omega arith, omega arith), ((omega arith, omega arith), ((omega arith, omega arith), ((omega arith, omega arith), ((omega arith, omega arith), ((omega arith, omega arith), ((omega arith, omega arith), tt)))))))
    (walk_listed places s (next_entry s at) n (four_at s at ∷ seen))

pub whole_numbered : (f : FormatFacts) (allow : Bool) (bound : Option ℕ) (places : ℕ) (s : List ℕ) (n p : ℕ) → whole_outcome f allow bound places s ≡ refused n p → Numbered n
unfolding whole_outcome map_outcome scan_outcome walk_outcome map_rules
whole_numbered f allow bound places s n p e =
    ⊎_elim
    (λ c. first_listed (scan_rules f s allow bound) (scan_shown f s allow bound) n p (scan_listed f s allow bound) c)
    (λ t.
    let at = t.0.layout.advice_map_offset.0 in
    ⊎_elim
    (λ c. first_listed (map_rules s at places) (walked s at) n p ((omega arith, omega arith), walk_listed places s (first_entry s at) (entry_count s at).value []) c)
    (λ w. let z : ◌≡◌ {A = ℕ} 0 1 = cc w.1.1 in absurd (omega arith))
    (first_or_later (walk_outcome places s at) (λ w. accepted (sheet_of t.0 w)) n p t.1.1))
    (first_or_later (scan_outcome f s allow bound) (map_outcome places s) n p e)
