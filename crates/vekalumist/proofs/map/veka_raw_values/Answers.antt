-- `vekalumist::map::veka_raw_values` meets its contract: values that are found lie inside the file, so their bytes are a number. Assumes nothing.
use Rattle.std.proofs.Common.{◌≡◌, ◌*◌, ◌^◌, ◌<◌, ℕ, List, length, sym, ap, ◌∙◌, arith}
use Rattle.std.specs.Prelude.{Option, Some, None, IfSome}
use Rattle.wire.specs.Table.{accepted}
use Rattle.advice.proofs.Halving.{found_inside}
use Rattle.advice.specs.Lookup.{lookup_outcome}
use Rattle.advice.specs.Shown.{looked, shown_lookup}
use Rattle.advice.specs.declared.walk.Values.{Values}
use Rattle.vekalumist.proofs.map.veka_raw_values.Goals as goal

fit : (s t : List ℕ) (n : ℕ) (key : List ℕ) (v : Option Values) (compared : ℕ) → length s < 2 ^ 64 → accepted (looked v compared) ≡ lookup_outcome s t n key
    → IfSome v (λ v. 8 * v.len < 2 ^ 64)
fit s t n key None compared h e = tt
fit s t n key (Some v) compared h e = omega (arith, found_inside s t n key v.at.0 v.len compared e)

pub map-requires : goal.map-requires
map-requires c = λ x e.
    let a = c.args in
    fit a.s.now a.keys.now a.n a.key.now x.values x.compared (omega arith) (sym (ap shown_lookup e) ∙ c.lookup.ensures)
