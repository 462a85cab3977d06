-- `writer::key::check_keys` meets its contract. Assumes nothing.
use Rattle.std.proofs.Common.{◌∙◌, arith}
use Rattle.writer.proofs.Keys.{repeated, new_key, top_moves, not_first, top_stays}
use Rattle.writer.proofs.key.check_keys.Goals.{in-Highest, in-Between}
use Rattle.writer.proofs.key.check_keys.Goals as goal

pub returns-in-Repeated : goal.returns-in-Repeated
returns-in-Repeated c =
    repeated _ _ _ c.requires c.loop-i-test.true c.key_at-key.ensures c.if-not_elements.ensures c.in-Repeated.ensures ∙ c.loop-i.invariant.2

pub loop-i-preserved : goal.loop-i-preserved
loop-i-preserved c =
    let keys = c.args.keys.now in
    let i = c.loop-i.i in
    let top = c.loop-i.top in
    elim c.match-key_standing.branch [
      | in-Highest w ↦
          let told = rw w.in-Highest.is at c.key_standing.ensures in (
            omega (arith, w.top-is),
            rw w.top-is (top_moves keys i top c.loop-i.invariant.1 (rw c.key_at-key.ensures at told.1)),
            new_key _ _ _ c.requires c.loop-i-test.true c.key_at-key.ensures c.if-not_elements.ensures told.0 ∙ c.loop-i.invariant.2,
          )
      | in-Between w ↦
          let told = rw w.in-Between.is at c.key_standing.ensures in
          let below = rw c.key_at-key.ensures at told.1 in (
            omega (arith, w.top-is, c.loop-i.invariant.0),
            rw w.top-is (top_stays keys i top c.loop-i.invariant.1 below (not_first keys i top c.loop-i.invariant.0 below)),
            new_key _ _ _ c.requires c.loop-i-test.true c.key_at-key.ensures c.if-not_elements.ensures told.0 ∙ c.loop-i.invariant.2,
          )
    ]
