use Rattle.std.proofs.Common.{◌+◌, ap}
use Rattle.text.proofs.Texts.{all_left, one_less, none_left}
use Rattle.text.proofs.fill.put_decimal.Goals as goal

pub loop-p-init : goal.loop-p-init
loop-p-init c =
    all_left _ _ _ _ (ap (λ k. c.args.at + k) c.digit_count.ensures.0)

pub loop-p-preserved : goal.loop-p-preserved
loop-p-preserved c =
    one_less _ _ _ _ _ _ c.loop-p-test.true c.loop-p.invariant

pub returns-clause-out_after : goal.returns-clause-out_after
returns-clause-out_after c =
    none_left _ _ _ _ _ _ c.loop-p-test.false c.loop-p.invariant
