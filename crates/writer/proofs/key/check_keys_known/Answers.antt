-- `writer::key::check_keys_known` meets its contract. Assumes nothing.
use Rattle.std.proofs.Common.{◌<◌, length, ◌∙◌, arith}
use Rattle.writer.proofs.Keys.{repeated, new_key}
use Rattle.writer.proofs.key.check_keys_known.Goals as goal

pub returns-then-i-twice : goal.returns-then-i-twice
returns-then-i-twice c =
    let e = c.if-i-twice.true in
    let there : c.args.twice < length c.args.lengths.now = omega (arith, c.loop-i-test.true) in
    repeated _ _ _ c.requires.0 c.loop-i-test.true c.key_at.ensures c.if-not_elements.ensures (rw (c.key_at.ensures, e) (c.requires.1.1 there))
    ∙ c.loop-i.invariant.1

pub loop-i-preserved : goal.loop-i-preserved
loop-i-preserved c =
    let other = c.if-i-twice.false in
    let under : c.loop-i.i < c.args.twice = omega (arith, c.loop-i.invariant.0) in (
      omega arith,
      new_key _ _ _ c.requires.0 c.loop-i-test.true c.key_at.ensures c.if-not_elements.ensures (rw c.key_at.ensures (c.requires.1.0 _ c.loop-i-test.true under))
          ∙ c.loop-i.invariant.1,
    )
