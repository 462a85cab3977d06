-- `advice::walk::fill` meets its contract. The invariant: i entries are whole, their offsets are filled in, and their long lengths are counted.
-- Assumes nothing.
use mathlib.Core.Path.{◌≡◌, refl, sym, ◌∙◌}
use native.Mathlib.Numerals.{add-one}
use native.Mathlib.Omega.{arith}
use lib.ListN.{length}
use Rattle.wire.specs.Counts.{long_ones}
use Rattle.advice.specs.Walk.{walk_end, key_offsets, walk_shown}
use Rattle.advice.specs.Inner.{long_after}
use Rattle.advice.proofs.Entries.{end_next, long_next, long_few, fill_next, entry_taken, whole_next, stopped_room, stopped_entry, stopped_end}
use Rattle.std.proofs.Common.{rules}
use Rattle.advice.proofs.walk.fill.Goals as goal

pub loop-i-init : goal.loop-i-init
unfolding key_offsets walk_end walk_shown long_ones
loop-i-init c =
    record { within = omega arith; table = refl; next = refl; whole = λ j h. absurd (omega arith); counted = omega arith }

pub returns-then-keys-i : goal.returns-then-keys-i
returns-then-keys-i c =
    let a = c.args in
    let l = c.loop-i in
    let v = l.invariant in
    record {
      within = v.within;
      table = v.table;
      all = search rules;
      said = rw v.next (stopped_room (length a.keys.now) a.s.now a.at.0 a.count l.i v.within v.whole (omega arith) (omega arith));
    }

pub returns-in-Err : goal.returns-in-Err
returns-in-Err c =
    let a = c.args in
    let l = c.loop-i in
    let v = l.invariant in
    record {
      within = v.within;
      table = v.table;
      all = search rules;
      said = stopped_entry (length a.keys.now) a.s.now a.at.0 a.count l.i v.within v.whole (omega arith) (omega arith) _ _ (rw v.next at c.in-Err.ensures);
    }

pub overflow_add-long_counts : goal.overflow_add-long_counts
overflow_add-long_counts c =
    let v = c.loop-i.invariant in
    omega (arith, c.long_one-long_counts.ensures.1, c.long_one-long_counts-in-Ok.ensures.1, v.counted, long_few c.args.s.now c.args.at.0 c.loop-i.i)

pub loop-i-preserved : goal.loop-i-preserved
loop-i-preserved c =
    let a = c.args in
    let s = a.s.now in
    let l = c.loop-i in
    let v = l.invariant in
    let t = entry_taken s (walk_end s a.at.0 l.i) _ (rw v.next at c.in-Ok.ensures) in
    record {
      within = omega arith;
      table = rw (add-one, v.next) (fill_next s a.at.0 l.i a.keys.now l.keys (omega arith) v.table);
      next = rw add-one (sym t.1.0 ∙ sym (end_next s a.at.0 l.i));
      whole = rw add-one (whole_next s a.at.0 l.i v.whole t.0);
      counted = rw (add-one, long_next s a.at.0 l.i, t.1.1) (omega (arith, c.long_one-long_counts-in-Ok.ensures.0, v.counted));
    }

pub returns : goal.returns
unfolding long_ones
returns c =
    let a = c.args in
    let l = c.loop-i in
    let e : l.i ≡ a.count.value = omega arith in
    let v = rw e at l.invariant in
    let all : l.long_counts ≡ long_after a.s.now a.at.0 a.count a.count.value = omega (arith, v.counted, c.long_one-long_counts.ensures.0) in
    record {
      within = v.within;
      table = v.table;
      all = search rules;
      said = rw (v.next, all) (stopped_end (length a.keys.now) a.s.now a.at.0 a.count a.count.value v.within v.whole refl);
    }
