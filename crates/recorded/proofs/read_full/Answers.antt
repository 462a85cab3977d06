-- A read goes on where the one before ended, and the input has lost the bytes of both.
use Rattle.std.proofs.Common.{◌≡◌, ℕ, ◌+◌, ◌≤◌, List, ◌++◌, length, take, sym, ap, ◌∙◌, subst, rules, drop, drop_at, length-take-le}
use Rattle.std.specs.Io.KnownBytes.{Consumes}
use Rattle.std.proofs.KnownBytes.{Consumes-trans}
use borrow.Rule.Slice.PartMut.{put_mid, post_of, take_put}
use lib.Seq.{take-add, take-append-le}
use Rattle.recorded.proofs.read_full.Goals as goal

-- what was read before, and n bytes of what a read of the rest put there
joined : (a k n : ℕ) (xs ys : List ℕ) → a ≤ length xs → n ≤ length ys → take a xs ++ take n ys ≡ take (a + n) (put_mid a k xs ys)
joined a k n xs ys within fits =
    let after = post_of a k xs in
    let back = drop_at (take a xs) (ys ++ after) a (length-take-le a xs within) in
    sym (take-add a n (put_mid a k xs ys) ∙ ap (λ l. l ++ take n (drop a (put_mid a k xs ys))) (take_put a k xs ys within) ∙ ap (λ l. take a xs ++ take n l) back ∙ ap (λ l. take a xs ++ l) (take-append-le n ys after fits))

pub loop-done-preserved : goal.loop-done-preserved
loop-done-preserved g c =
    let l = c.loop-done in
    let fits = c.in_ok-n.ensures.bound.0 in
    record {
      inside = search rules;
      bytes = subst (Consumes _ _) (joined l.done _ _ l.buf _ l.invariant.inside fits) (Consumes-trans _ _ _ _ _ l.invariant.bytes c.in_ok-n.ensures.bytes.0);
    }
