-- The invariant: a is the number before, and what is known up to it. Assumes nothing.
use mathlib.Core.Path.{◌≡◌, refl, sym, ◌∙◌}
use Prim.Native.Nat.{suc}
use native.Mathlib.Omega.{arith}
use native.Mathlib.Numerals.{add-one}
use borrow.Author.Rules.{rules}
use borrow.Author.Tests.{le-ltb}
use lib.ListN.{length, get_or}
use Rattle.std.specs.declared.cmp.Ordering.TheVariants.{Equal, Greater}
use Rattle.keys.specs.declared.claim.Claim.TheVariants.{Wrong, Apart, Repeat}
use Rattle.keys.proofs.Duplicates.{least_of}
use Rattle.keys.proofs.Claims.{known_first, known_above, known_same, known_high, known_below, known_ends, known_none, claim_long, first_high}
use Rattle.keys.proofs.claim.check_claim.Goals.{in-Less, in-Equal}
use Rattle.keys.proofs.claim.check_claim.Goals as goal

pub returns-then-keys-n : goal.returns-then-keys-n
returns-then-keys-n c = claim_long _ _ c.if-keys-n.true

pub returns-in_default : goal.returns-in_default
returns-in_default c =
    let a = c.args in
    known_ends a.keys.now a.order.now c.if-keys-n.false Apart (known_none a.keys.now a.order.now c.in_default.ensures.cases)

pub returns-then-n-a : goal.returns-then-n-a
returns-then-n-a c =
    let a = c.args in
    let whole = c.in-Some.ensures.cases.0 in
    known_ends a.keys.now a.order.now c.if-keys-n.false Wrong (first_high a.keys.now a.order.now (rw whole (rw whole at c.if-n-a.true)) (rw whole (omega arith)))

pub loop-b-init : goal.loop-b-init
loop-b-init c =
    let a = c.args in
    let whole = c.in-Some.ensures.cases.0 in
    (rw whole refl, known_first a.keys.now a.order.now (rw whole (rw whole at c.if-n-a.false)))

pub returns-then-n-b : goal.returns-then-n-b
returns-then-n-b c =
    let a = c.args in
    let l = c.loop-b in
    known_ends a.keys.now a.order.now c.if-keys-n.false Wrong
    (known_high a.keys.now a.order.now _ _ c.in-Some.ensures.cases.0 l.b-index c.loop-b-test.true l.a l.invariant.0 c.if-n-b.true)

pub returns-in_default-word_order : goal.returns-in_default-word_order
returns-in_default-word_order c =
    let a = c.args in
    let l = c.loop-b in
    let compared = sym (rw (c.key_at.ensures, c.key_at-in-loop-b.ensures) at c.word_order.ensures) in
    known_ends a.keys.now a.order.now c.if-keys-n.false Wrong
    (known_below a.keys.now a.order.now _ _ c.in-Some.ensures.cases.0 l.b-index c.loop-b-test.true l.a l.invariant.0 Equal
    (compared ∙ c.in-Equal.is) (le-ltb _ _ c.if-a-b.false))

pub returns-in_default-word_order-2 : goal.returns-in_default-word_order-2
returns-in_default-word_order-2 c =
    let a = c.args in
    let l = c.loop-b in
    let compared = sym (rw (c.key_at.ensures, c.key_at-in-loop-b.ensures) at c.word_order.ensures) in
    known_ends a.keys.now a.order.now c.if-keys-n.false Wrong
    (known_below a.keys.now a.order.now _ _ c.in-Some.ensures.cases.0 l.b-index c.loop-b-test.true l.a l.invariant.0 Greater
    (compared ∙ c.in_default-word_order.is) refl)

pub loop-b-preserved : goal.loop-b-preserved
loop-b-preserved c =
    let a = c.args in
    let l = c.loop-b in
    let whole = c.in-Some.ensures.cases.0 in
    let compared = sym (rw (c.key_at.ensures, c.key_at-in-loop-b.ensures) at c.word_order.ensures) in
    rw (add-one, whole)
    (rw (← whole)
    (elim c.match-word_order.branch [
      | in-Less w ↦ (
        w.a-is,
        rw w.best-is (known_above a.keys.now a.order.now _ _ whole l.b-index c.loop-b-test.true l.a l.invariant.0 l.best c.if-n-b.false (compared ∙ w.in-Less.is) l.invariant.1),
      )
      | in-Equal w ↦ (
        w.a-is,
        rw (w.best-is ∙ least_of l.best (get_or c.in-Some.rest.now l.b-index 0) w.map_or.result (search rules))
            (known_same a.keys.now a.order.now _ _ whole l.b-index c.loop-b-test.true l.a l.invariant.0 l.best c.if-n-b.false (compared ∙ w.in-Equal.is) w.if-a-b.true l.invariant.1),
      )
    ]))

pub returns-in-None : goal.returns-in-None
returns-in-None c =
    let a = c.args in
    let l = c.loop-b in
    let all : suc l.b-index ≡ length a.order.now = omega (arith, c.in-Some.ensures.cases.1) in
    known_ends a.keys.now a.order.now c.if-keys-n.false Apart (rw (c.in-None.is, all) at l.invariant.1)

pub returns-in-Some-best : goal.returns-in-Some-best
returns-in-Some-best c =
    let a = c.args in
    let l = c.loop-b in
    let all : suc l.b-index ≡ length a.order.now = omega (arith, c.in-Some.ensures.cases.1) in
    known_ends a.keys.now a.order.now c.if-keys-n.false (Repeat c.in-Some-best.b) (rw (c.in-Some-best.is, all) at l.invariant.1)
