-- The answer's text and key table, by what the scan and the walk said.
-- Assumes nothing.
use mathlib.Core.Path.{◌≡◌, sym}
use mathlib.Core.Bool.{true}
use mathlib.Core.List.{List}
use Prim.Native.Nat.{ℕ, ◌≤◌, ◌<◌}
use borrow.Author.Tests.{lt-ltb, le-ltb}
use lib.ListN.{length}
use Rattle.wire.specs.Table.{Outcome, refused, accepted}
use Rattle.wire.specs.Refusals.{ROOM}
use Rattle.layout.specs.declared.facts.FormatFacts.{FormatFacts}
use Rattle.std.specs.Prelude.{None}
use Rattle.whole.specs.Whole.{Sheet, whole_outcome, whole_keys}
use Rattle.page.specs.Page.{page_text, refusal_text}
use Rattle.page.proofs.Pages.{page_short, refusal_short}
use Rattle.page.specs.Answer.{most, answer_outcome, text_of, answer_text, keys_after}

module _ (f : FormatFacts) (s : List ℕ) where
  module _ (h : most < length s) where
    pub too_long : (places : ℕ) → refusal_text ROOM most ≡ answer_text f places s
    unfolding answer_text answer_outcome
    too_long places = rw (lt-ltb most (length s) h)

    pub too_long_keys : (keys : List ℕ) → keys ≡ keys_after f s keys
    unfolding keys_after
    too_long_keys keys = rw (lt-ltb most (length s) h)

  module _ (h : length s ≤ most) where
    pub whole_refused : (n p places : ℕ) → refused n p ≡ whole_outcome f true None places s → refusal_text n p ≡ answer_text f places s
    unfolding answer_text answer_outcome
    whole_refused n p places e = rw (le-ltb most (length s) h, sym e)

    pub whole_accepted : (a : Sheet) (places : ℕ) → accepted a ≡ whole_outcome f true None places s → page_text a.layout a.end ≡ answer_text f places s
    unfolding answer_text answer_outcome
    whole_accepted a places e = rw (le-ltb most (length s) h, sym e)

    pub whole_keys_lem : (keys : List ℕ) → whole_keys f true None s keys ≡ keys_after f s keys
    unfolding keys_after
    whole_keys_lem keys = rw (le-ltb most (length s) h)

-- no answer has more than 512 bytes, so a buffer of 512 always has room

text_short : (o : Outcome Sheet) → length (text_of o) ≤ 512
text_short (refused n p) = refusal_short n p
text_short (accepted a) = page_short a.layout a.end

pub answer_short : (f : FormatFacts) (places : ℕ) (s : List ℕ) → length (answer_text f places s) ≤ 512
unfolding answer_text
answer_short f places s = text_short (answer_outcome f places s)
