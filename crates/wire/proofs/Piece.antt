-- Pieces of a file format, and how they are put together.
--
-- A piece says how it is read (the rules that must not be met, the value, the place after it), how a value is written (its form), and which
-- values it has. It holds the two laws that tie these: `sound`, what is accepted is the form of a good value; `complete`, the form of a good
-- value is accepted, and read as that value. A value holds the length of each count, so it has one form. `trim` makes each count shortest:
-- no value's form is shorter than that of its trimmed value, and it is as short exactly if each count is shortest (`Tight`).
-- `then`, `both`, `checked`, `tested`, `guarded`, `within`, `as_plain`, `tidied`, and `many` of Leaves, make pieces of pieces, with their laws.
-- Assumes nothing.
use mathlib.Core.Path.{◌≡◌, refl, sym, ap, ◌∙◌}
use mathlib.Core.List.{List, [], ◌∷◌, ◌++◌}
use mathlib.Core.Bool.{Bool, false}
use mathlib.Core.Logic.{◌↔◌}
use Prim.Native.Nat.{ℕ, ◌+◌, ◌≤◌, zero-le}
use native.Mathlib.Nat.{zero-add, add-zero}
use native.Mathlib.Omega.{arith}
use lib.Dec.{ltb}
use lib.ListN.{length, take, drop, length-append}
use lib.Seq.{slice, slice_empty, length-slice, take_at, drop_at}
use borrow.Author.Tests.{ltb-false, le-ltb}
use Rattle.wire.specs.Table.{Rule, rule, NoneMet}
use Rattle.wire.specs.Le.{Bytes}
use Rattle.wire.proofs.Tables.{none_append, none_parts}
use Rattle.wire.proofs.Le.{slice-parts}

-- ---- tests at one place

infixr 10 ◌▸◌
-- one rule is not met, and then the others
abbrev pub ◌▸◌ : {A B : Type 0} → A → B → A × B
a ▸ b = (a, b)

-- tests, each with its refusal's number, as rules at one place
abbrev pub Tests : Type 0
Tests = List (ℕ × Bool)

abbrev pub placed : ℕ → Tests → List Rule
placed p [] = []
placed p (t ∷ ts) = rule t.0 p t.1 ∷ placed p ts

abbrev pub Unmet : Tests → Type 0
Unmet [] = Unit {0}
Unmet (t ∷ ts) = (t.1 ≡ false) × Unmet ts

pub placed_mean : (p : ℕ) (ts : Tests) → NoneMet (placed p ts) ↔ Unmet ts
placed_mean p [] = (λ n. n, λ n. n)
placed_mean p (t ∷ ts) = let m = placed_mean p ts in (λ n. (n.0, m.0 n.1), λ n. (n.0, m.1 n.1))

-- ---- bytes at a place

-- bs stands in s at `at`
pub record Stands (s : List ℕ) (at : ℕ) (bs : List ℕ) : Type 0 where
  pub whole : at + length bs ≤ length s
  pub bytes : slice at (at + length bs) s ≡ bs

module _ (s : List ℕ) (at : ℕ) (a b : List ℕ) where
  pub stands_append : Stands s at a → Stands s (at + length a) b → Stands s at (a ++ b)
  stands_append x y =
      record {
        whole = rw length-append (omega (arith, y.whole));
        bytes = rw (length-append, slice-parts s at (length a) (length b) x.whole, x.bytes, y.bytes);
      }

  pub stands_parts : Stands s at (a ++ b) → Stands s at a × Stands s (at + length a) b
  stands_parts x =
      let l = length-append a b in
      let ha : at + length a ≤ length s = omega (arith, x.whole) in
      let e : slice at (at + length a) s ++ slice (at + length a) (at + length a + length b) s ≡ a ++ b =
      sym (slice-parts s at (length a) (length b) ha) ∙ rw l at x.bytes in
      let n : length (slice at (at + length a) s) ≡ length a = rw length-slice (omega arith) in
      let ea : slice at (at + length a) s ≡ a =
      sym (take_at (slice at (at + length a) s) (slice (at + length a) (at + length a + length b) s) (length a) n)
      ∙ ap (take (length a)) e
      ∙ take_at a b (length a) refl in
      let eb : slice (at + length a) (at + length a + length b) s ≡ b =
      sym (drop_at (slice at (at + length a) s) (slice (at + length a) (at + length a + length b) s) (length a) n)
      ∙ ap (drop (length a)) e
      ∙ drop_at a b (length a) refl in
      (record { whole = ha; bytes = ea }, record { whole = omega (arith, x.whole); bytes = eb })

pub stands_next : (s : List ℕ) (at m : ℕ) (a b : List ℕ) → m ≡ at + length a → Stands s at a → Stands s m b → Stands s at (a ++ b)
stands_next s at m a b e x y = stands_append s at a b x (rw e at y)

pub stands_none : (s : List ℕ) (at : ℕ) → at ≤ length s → Stands s at []
stands_none s at h = record { whole = rw add-zero h; bytes = rw add-zero (slice_empty at s) }

-- ---- how long two forms are

-- x is at most as long as y, and as long exactly if Tight
pub record Shorter (x y : List ℕ) (Tight : Type 0) : Type 0 where
  pub least : length x ≤ length y
  pub equal : length x ≡ length y → Tight
  pub tight : Tight → length x ≡ length y

pub shorter_same : (x : List ℕ) → Shorter x x (Unit {0})
shorter_same x = record { least = omega arith; equal = λ e. tt; tight = λ t. refl }

pub shorter_append : (a b x y : List ℕ) (S T : Type 0) → Shorter a x S → Shorter b y T → Shorter (a ++ b) (x ++ y) (S × T)
shorter_append a b x y S T f g =
    record {
      least = simp length-append (omega (arith, f.least, g.least));
      equal = λ e. let h : length a + length b ≡ length x + length y = simp length-append at e in
          (f.equal (omega (arith, f.least, g.least)), g.equal (omega (arith, f.least, g.least)));
      tight = λ t. simp length-append (omega (arith, f.tight t.0, g.tight t.1));
    }

-- ---- pieces

pub record Piece (A : Type 0) : Type 1 where
  -- how it is read at a place
  pub rules : List ℕ → ℕ → List Rule
  pub value : List ℕ → ℕ → A
  pub next : List ℕ → ℕ → ℕ
  -- how it is written
  pub form : A → List ℕ
  pub Good : A → Type 0
  pub trim : A → A
  pub Tight : A → Type 0
  -- the laws
  pub sound : (s : List ℕ) (at : ℕ) → Bytes s → at ≤ length s → NoneMet (rules s at)
      → Good (value s at) × Stands s at (form (value s at)) × (next s at ≡ at + length (form (value s at)))
  pub complete : (s : List ℕ) (at : ℕ) (v : A) → Good v → Stands s at (form v)
      → NoneMet (rules s at) × (value s at ≡ v) × (next s at ≡ at + length (form v))
  pub trimmed : (v : A) → Good v → Good (trim v) × Shorter (form (trim v)) (form v) (Tight v)

-- A file that a piece makes up from its start on: to accept it is to find a good value's form there.
module _ {A : Type 0} (P : Piece A) where
  pub found : (s : List ℕ) → Bytes s → NoneMet (P.rules s 0)
      → P.Good (P.value s 0) × (P.next s 0 ≡ length (P.form (P.value s 0))) × (take (P.next s 0) s ≡ P.form (P.value s 0))
  found s bs none =
      let r = P.sound s 0 bs zero-le none in
      let e = r.2 ∙ zero-add _ in
      (r.0, e, rw r.2 r.1.bytes)

  pub made : (v : A) (rest : List ℕ) → P.Good v
      → NoneMet (P.rules (P.form v ++ rest) 0) × (P.value (P.form v ++ rest) 0 ≡ v) × (P.next (P.form v ++ rest) 0 ≡ length (P.form v))
  made v rest good =
      let w = P.form v in
      let st : Stands (w ++ rest) 0 w = record { whole = rw (length-append, zero-add) (omega arith); bytes = rw zero-add (take_at w rest (length w) refl) } in
      let r = P.complete (w ++ rest) 0 v good st in
      (r.0, r.1, r.2 ∙ zero-add _)

  -- accepted exactly if it begins with a form
  pub exact : (s : List ℕ) → Bytes s → NoneMet (P.rules s 0) ↔ ((v : A) × P.Good v × Stands s 0 (P.form v))
  exact s bs = (
    λ none. let r = P.sound s 0 bs zero-le none in (P.value s 0, r.0, r.1),
    λ x. (P.complete s 0 x.0 x.1 x.2).0,
  )

  -- what a value is trimmed to, and a name for its form
  pub trims : (v w : A) (bs : List ℕ) → P.trim v ≡ w → P.form w ≡ bs → P.Good v → P.Good w × Shorter bs (P.form v) (P.Tight v)
  trims v w bs e b good = let r = P.trimmed v good in rw (← b) (rw e at r)

-- The second of two pieces does not depend on the lengths of the first one's counts.
abbrev pub Steady : {A B : Type 0} → Piece A → (A → Piece B) → Type 1
Steady {A} P Q = (a : A) → Q (P.trim a) ≡ Q a

-- One piece after another, which may depend on the first one's value.
module _ {A B : Type 0} (P : Piece A) (Q : A → Piece B) (steady : Steady P Q) where
  abbrev pub then : Piece (A × B)
  then =
      record {
        rules = λ s at. P.rules s at ++ (Q (P.value s at)).rules s (P.next s at);
        value = λ s at. (P.value s at, (Q (P.value s at)).value s (P.next s at));
        next = λ s at. (Q (P.value s at)).next s (P.next s at);
        form = λ v. P.form v.0 ++ (Q v.0).form v.1;
        Good = λ v. P.Good v.0 × (Q v.0).Good v.1;
        trim = λ v. (P.trim v.0, (Q v.0).trim v.1);
        Tight = λ v. P.Tight v.0 × (Q v.0).Tight v.1;
        sound = λ s at bs h none.
            let a = P.value s at in
            let n = none_parts (P.rules s at) ((Q a).rules s (P.next s at)) none in
            let p = P.sound s at bs h n.0 in
            let inside : P.next s at ≤ length s = rw p.2 p.1.whole in
            let q = (Q a).sound s (P.next s at) bs inside n.1 in
            let b = (Q a).value s (P.next s at) in
            ((p.0, q.0), stands_next s at (P.next s at) (P.form a) ((Q a).form b) p.2 p.1 q.1, omega (arith, p.2, q.2, length-append (P.form a) ((Q a).form b)));
        complete = λ s at v good st.
            let x = stands_parts s at (P.form v.0) ((Q v.0).form v.1) st in
            let p = P.complete s at v.0 good.0 x.0 in
            let q = (Q v.0).complete s (at + length (P.form v.0)) v.1 good.1 x.1 in
            rw (p.1, p.2) (
              none_append (P.rules s at) ((Q v.0).rules s (at + length (P.form v.0))) p.0 q.0,
              rw q.1,
              omega (arith, q.2, length-append (P.form v.0) ((Q v.0).form v.1)),
            );
        trimmed = λ v good.
            let p = P.trimmed v.0 good.0 in
            let q = (Q v.0).trimmed v.1 good.1 in
            rw (steady v.0) ((p.0, q.0), shorter_append _ _ _ _ _ _ p.1 q.1);
      }

-- One piece after another that does not depend on it.
abbrev pub both : {A B : Type 0} → Piece A → Piece B → Piece (A × B)
both P Q = then P (λ _. Q) (λ a. refl)

-- A piece with rules on its value after it. (`at` and s give their places only.)
module _ {A : Type 0} (P : Piece A) (R : List ℕ → ℕ → A → List Rule) (G : A → Type 0)
    (means : (s : List ℕ) (at : ℕ) (v : A) → NoneMet (R s at v) ↔ G v) (steady : (v : A) → G v → G (P.trim v)) where
  abbrev pub checked : Piece A
  checked =
      record {
        rules = λ s at. P.rules s at ++ R s at (P.value s at);
        value = P.value;
        next = P.next;
        form = P.form;
        Good = λ v. P.Good v × G v;
        trim = P.trim;
        Tight = P.Tight;
        sound = λ s at bs h none.
            let n = none_parts (P.rules s at) (R s at (P.value s at)) none in
            let p = P.sound s at bs h n.0 in
            ((p.0, (means s at (P.value s at)).0 n.1), p.1, p.2);
        complete = λ s at v good st.
            let p = P.complete s at v good.0 st in
            (none_append (P.rules s at) (R s at (P.value s at)) p.0 (rw p.1 ((means s at v).1 good.1)), p.1, p.2);
        trimmed = λ v good. let p = P.trimmed v good.0 in ((p.0, steady v good.1), p.1);
      }

-- A piece with tests on its value after it, all at one place, which do not look at the lengths of counts.
module _ {A : Type 0} (P : Piece A) (place : ℕ → ℕ) (tests : A → Tests) (steady : (v : A) → tests (P.trim v) ≡ tests v) where
  abbrev pub tested : Piece A
  tested =
      checked P (λ s at v. placed (place at) (tests v)) (λ v. Unmet (tests v)) (λ s at v. placed_mean (place at) (tests v)) (λ v g. rw (steady v) g)

-- A piece with tests before it, at its place.
module _ {A : Type 0} (tests : Tests) (P : Piece A) where
  abbrev pub guarded : Piece A
  guarded =
      record {
        rules = λ s at. placed at tests ++ P.rules s at;
        value = P.value;
        next = P.next;
        form = P.form;
        Good = λ v. Unmet tests × P.Good v;
        trim = P.trim;
        Tight = P.Tight;
        sound = λ s at bs h none.
            let n = none_parts (placed at tests) (P.rules s at) none in
            let p = P.sound s at bs h n.1 in
            (((placed_mean at tests).0 n.0, p.0), p.1, p.2);
        complete = λ s at v good st.
            let p = P.complete s at v good.1 st in
            (none_append (placed at tests) (P.rules s at) ((placed_mean at tests).1 good.0) p.0, p.1, p.2);
        trimmed = λ v good. let p = P.trimmed v good.1 in ((good.0, p.0), p.1);
      }

-- A piece of n bytes, with one rule for all of it: that it is whole.
module _ {A : Type 0} (n : ℕ) (number : ℕ) (P : Piece A) (long : (v : A) → P.Good v → length (P.form v) ≡ n)
    (free : (s : List ℕ) (at : ℕ) → at + n ≤ length s → NoneMet (P.rules s at)) where
  abbrev pub within : Piece A
  within =
      record {
        rules = λ s at. rule number at (ltb (length s) (at + n)) ∷ [];
        value = P.value;
        next = P.next;
        form = P.form;
        Good = P.Good;
        trim = P.trim;
        Tight = P.Tight;
        sound = λ s at bs h none. P.sound s at bs h (free s at (ltb-false (length s) (at + n) none.0));
        complete = λ s at v good st.
            let p = P.complete s at v good st in
            let l = long v good in
            ((le-ltb (length s) (at + n) (omega (arith, st.whole)), tt), p.1, p.2);
        trimmed = P.trimmed;
      }

-- A piece seen as another kind of value, which has no counts.
module _ {A B : Type 0} (P : Piece A) (to : A → B) (from : B → A) (G : B → Type 0)
    (there : (a : A) → P.Good a → G (to a) × (from (to a) ≡ a)) (back : (b : B) → G b → P.Good (from b) × (to (from b) ≡ b)) where
  abbrev pub as_plain : Piece B
  as_plain =
      record {
        rules = P.rules;
        value = λ s at. to (P.value s at);
        next = P.next;
        form = λ b. P.form (from b);
        Good = G;
        trim = λ b. b;
        Tight = λ b. Unit {0};
        sound = λ s at bs h none.
            let p = P.sound s at bs h none in
            let q = there (P.value s at) p.0 in
            rw q.1 (q.0, p.1, p.2);
        complete = λ s at v good st.
            let g = back v good in
            let p = P.complete s at (from v) g.0 st in
            (p.0, rw p.1 g.1, p.2);
        trimmed = λ v good. (good, shorter_same (P.form (from v)));
      }

-- A piece with no counts whose values are also tidied, at the same length.
module _ {A : Type 0} (P : Piece A) (tidy : A → A) (law : (v : A) → P.Good v → P.Good (tidy v) × (length (P.form (tidy v)) ≡ length (P.form v))) where
  abbrev pub tidied : Piece A
  tidied =
      record {
        rules = P.rules;
        value = P.value;
        next = P.next;
        form = P.form;
        Good = P.Good;
        trim = tidy;
        Tight = λ v. Unit {0};
        sound = P.sound;
        complete = P.complete;
        trimmed = λ v good. let l = law v good in (l.0, record { least = omega arith; equal = λ e. tt; tight = λ t. l.1 });
      }
