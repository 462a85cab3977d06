-- `info::decode_entry` meets its contract: the arm knows that the tag is its number, at which the definition computes.
-- Assumes nothing.
use Rattle.std.proofs.Common.{arith}
use Rattle.std.proofs.lemmas.Grind.{common_steps}
use Rattle.wire.specs.Table.{first_met}
use Rattle.info.specs.Entry.{entry_of, bad_tag, bad_payload, decode_rules, decode_outcome}
use Rattle.info.proofs.decode_entry.Goals as goal

pub returns-in_ok-single-in-2 : goal.returns-in_ok-single-in-2
unfolding first_met decode_outcome decode_rules entry_of bad_tag bad_payload
returns-in_ok-single-in-2 c = rw (c.in-2.is) (grind (arith, common_steps))
