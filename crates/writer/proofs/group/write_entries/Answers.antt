-- `writer::group::write_entries` meets its contract. The invariant: the entries of the first i lengths are written. Assumes nothing.
use Rattle.std.proofs.Common.{rules, arith, refl, ◌^◌}
use Rattle.writer.proofs.Counted.{all_below}
use Rattle.writer.proofs.Entries.{entries_begin, entries_next, entries_ended, entry_room}
use Rattle.writer.proofs.group.write_entries.Goals as goal

pub loop-i-init : goal.loop-i-init
loop-i-init c =
    entries_begin _ _ _ _ (all_below (2 ^ 64) c.args.lengths.now (λ i. (c.type_inv.lengths i).fits)) c.requires.keys_len.0 c.requires.keys_len.1 c.requires.part_len

pub overflow_add-end-in-loop-i-2 : goal.overflow_add-end-in-loop-i-2
overflow_add-end-in-loop-i-2 c =
    let room = entry_room c.loop-i.invariant c.loop-i.auto.part (search rules) (search rules) (search rules) in
    omega (arith, c.shortest_len.ensures, c.split_at.ensures.front_len)

pub loop-i-preserved : goal.loop-i-preserved
loop-i-preserved c =
    entries_next c.loop-i.invariant c.loop-i.auto.part (search rules) (search rules) (search rules)
    (omega (arith, c.shortest_len.ensures, c.split_at.ensures.front_len)) refl c.split_at.ensures.front c.split_at.ensures.back c.write_entry.ensures

pub returns : goal.returns
returns c = entries_ended c.loop-i.invariant c.loop-i.auto.part c.loop-i-test.false
