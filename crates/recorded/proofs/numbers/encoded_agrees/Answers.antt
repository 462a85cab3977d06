use Rattle.std.proofs.Common.{refl}
use Rattle.vekalumist.specs.Calls.{encode_call}
use Rattle.recorded.specs.Calls.{call_row, alone, entry_given}
use Rattle.recorded.proofs.Rows.{row_told}
use Rattle.recorded.proofs.numbers.encoded_agrees.Goals as goal

pub returns : goal.returns
unfolding call_row entry_given
returns c e =
    let k = c.args.case.now in
    let r = c.veka_encode_entry-r.ensures in
    row_told alone 901 (encode_call (entry_given k.given.now)) (rw c.numbers.ensures) r.value r.word_after r.place_after refl (c.is_told.ensures e)
