-- `vekalumist::entries::veka_decode_entry` meets its contract: the entry was stored where it was read. Assumes nothing.
use Rattle.std.proofs.Common.{◌∙◌}
use Rattle.vekalumist.proofs.Told.{stored}
use Rattle.vekalumist.proofs.entries.veka_decode_entry.Goals as goal

pub returns : goal.returns
returns c =
    let both = stored _ _ _ _ _ c.args.place.now c.store_word.ensures.stored c.store_word.ensures.refused in
    record { value = c.tell.ensures.value ∙ both.0; after = both.1.0; place_after = c.tell.ensures.place_after ∙ both.1.1 }
