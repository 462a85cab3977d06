-- `rows::survey_words` meets its contract. The invariant: if nothing is marked so far, the pass goes on over i words from word `from` on, and
-- over i words from word `from + n` on, each with as many externals more as were counted in its half.
-- Assumes nothing.
use mathlib.Core.Path.{refl}
use Prim.Native.Nat.{◌+◌}
use native.Mathlib.Nat.{add_assoc}
use native.Mathlib.Numerals.{add-one}
use Rattle.rows.specs.Rows.{word_read}
use Rattle.rows.proofs.Quick.{onward_next}
use Rattle.rows.proofs.Pairs.{or_clear, pair_parts, pair_counted}
use Rattle.rows.proofs.survey_words.Goals as goal

pub loop-i-preserved : goal.loop-i-preserved
loop-i-preserved c =
    let l = c.loop-i in
    let a = c.args in
    let read = word_read a.words.now in
    let p = pair_parts _ _ _ (c.type_inv.words (a.from + l.i)).fits (c.type_inv.words (a.from + a.n + l.i)).fits c.side_by_side-pair.ensures in
    let k = pair_counted l.externals l.i _ _ _ _ _ (c.type_inv.words (a.from + l.i)).fits (c.type_inv.words (a.from + a.n + l.i)).fits c.side_by_side-pair.ensures
    l.invariant.1.0 l.invariant.1.1.0 c.loop-i-test.true c.requires.0 c.top_bits-externals.ensures in (
      rw add-one c.loop-i-test.true,
      (
        k.lower_few,
        (
          k.higher_few,
          λ wides highs.
              let w = or_clear l.wides c.wide_marks-wides.result 29 wides in
              let h = or_clear l.highs c.high_marks-highs.result 31 highs in
              let narrow = c.wide_marks-wides.ensures w.1 in
              let low = c.high_marks-highs.ensures h.1 in
              let so_far = l.invariant.1.1.1 w.0 h.0 in (
                rw (k.lower, ← add_assoc a.from l.i 1) (onward_next read a.from (a.from + l.i) _ _ _ refl p.1.0 low.0 narrow.0 so_far.0),
                rw (k.higher, ← add_assoc (a.from + a.n) l.i 1)
                    (onward_next read (a.from + a.n) (a.from + a.n + l.i) _ _ _ refl p.1.1 low.1 narrow.1 so_far.1),
              ),
        ),
      ),
    )
