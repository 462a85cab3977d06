-- Laws of the judgements, for the code's proofs.
-- Assumes nothing.
use mathlib.Core.Path.{◌≡◌, refl, sym, ap, ◌∙◌}
use mathlib.Core.Bool.{Bool, true, false}
use lib.Dec.{ltb}
use mathlib.Core.List.{List, [], ◌∷◌}
use mathlib.Core.Logic.{inl, inr}
use Prim.Native.Nat.{ℕ, ◌+◌, ◌*◌, ◌≤◌, ◌<◌}
use native.Mathlib.Omega.{arith}
use borrow.Author.Tests.{lt-leb}
use Rattle.std.specs.Prelude.{Result, Ok, Err}
use Rattle.wire.specs.Shown.{shown_by}
use Rattle.wire.specs.Refusals.{ORDER}
use Rattle.wire.specs.declared.refusal.Refused.{Refused}
use Rattle.wire.specs.Table.{Outcome, refused, accepted, pick, first_met, checked, NoneMet}
use Rattle.wire.proofs.Tables.{accepted_none, none_accepted}
use Rattle.wire.specs.Le.{number_at}
use Rattle.wire.proofs.Numbers.{number_inside}
use Rattle.info.specs.Entry.{entry_of, decode_rules, decode_outcome, word_of, canonical}
use Rattle.info.specs.Node.{class_of}
use Rattle.info.specs.Shown.{shown_class}
use Rattle.info.proofs.Answers.{class_back, class_again}
use Rattle.info.proofs.NodeLaws.{class_there}
use Rattle.info.specs.declared.node.Class.{Class}
use Rattle.info.specs.declared.node.Class.TheVariants.{External}
use Rattle.info.specs.declared.MastNodeEntry.{MastNodeEntry}
use Rattle.info.proofs.Laws.{decoded_word}
use Rattle.rows.specs.Rows.{row_word, row_rules, row_outcome, node_pass}
use Rattle.rows.proofs.Pass.{said, said_pass}
use Rattle.resolved.proofs.SlotLaws.{row_inside}
use Rattle.checks.specs.Checks.{AllBelow, child_rules, judge_order}

-- children that are below their parent, which is a node, meet no rule
pub below_rules : (nodes parent : ℕ) (ids : List ℕ) → parent < nodes → AllBelow ids parent → NoneMet (child_rules nodes parent ids)
unfolding child_rules
below_rules nodes parent [] h all = tt
below_rules nodes parent (x ∷ xs) h all =
    let low : x < parent = all x (inl refl) in
    (lt-leb nodes x (omega arith), (lt-leb parent x low, below_rules nodes parent xs h (λ j is. all j (inr is))))

pub quick_holds : (nodes parent top : ℕ) (ids : List ℕ) → AllBelow ids top → top ≤ parent → parent < nodes → accepted tt ≡ checked (child_rules nodes parent ids)
quick_holds nodes parent top ids all low h = sym (none_accepted (child_rules nodes parent ids) tt (below_rules nodes parent ids h (λ j is. let b = all j is in omega arith)))

-- the written form of an entry that is read is its word's canonical form
pub written_form : (s : List ℕ) (first i : ℕ) (e : MastNodeEntry) → row_outcome s first i ≡ accepted e → word_of e ≡ canonical (row_word s first i)
unfolding row_outcome row_rules decode_outcome
written_form s first i e q =
    let w = row_word s first i in
    let k = accepted_none (row_rules s first i) (entry_of w) e q in
    decoded_word i w e (none_accepted (decode_rules i w) (entry_of w) k.0.1.1 ∙ ap accepted k.1)

-- so it is that of the number at the row's place, which is the word
pub strict_word : (s : List ℕ) (first i : ℕ) (e : MastNodeEntry) (word form : ℕ) → row_outcome s first i ≡ accepted e → word ≡ number_at 8 s (first + 8 * i) → form ≡ canonical word →
    (row_word s first i ≡ word) × (word_of e ≡ form)
strict_word s first i e word form read w f =
    let same : word ≡ row_word s first i = w ∙ number_inside 8 s (first + 8 * i) (row_inside s first i e read).1 in
    (sym same, written_form s first i e read ∙ ap canonical (sym same) ∙ sym f)

-- ---- the order's judge hands on a class, and what is promised of it is the class's place in the order

abbrev pub order_law : ℕ → Class → MastNodeEntry → Outcome Class
order_law i before e = said class_back (judge_order i (shown_class before) e)

pub order_judged : (i : ℕ) (before : Class) (e : MastNodeEntry) (r : Result Class (Refused ℕ)) → shown_by shown_class r ≡ judge_order i (shown_class before) e
    → shown_by (λ c. c) r ≡ order_law i before e
order_judged i before e r q = sym (back r) ∙ ap (said class_back) q
  where
    back : (r : Result Class (Refused ℕ)) → said class_back (shown_by shown_class r) ≡ shown_by (λ c. c) r
    back (Ok c) = ap accepted (class_again c)
    back (Err x) = refl

pub order_passed : (read : ℕ → Outcome MastNodeEntry) (n : ℕ) (r : Result Class (Refused ℕ)) → shown_by (λ c. c) r ≡ node_pass read order_law External n
    → shown_by shown_class r ≡ node_pass read judge_order 0 n
unfolding first_met
order_passed read n r q = place r ∙ ap (said shown_class) q ∙ said_pass shown_class read order_law judge_order (λ i before e. same i e (ltb (class_of e) (shown_class before))) External n
  where
    place : (r : Result Class (Refused ℕ)) → shown_by shown_class r ≡ said shown_class (shown_by (λ c. c) r)
    place (Ok c) = refl
    place (Err x) = refl

    same : (i : ℕ) (e : MastNodeEntry) (m : Bool) → said shown_class (said class_back (pick m (refused ORDER i) (accepted (class_of e)))) ≡ pick m (refused ORDER i) (accepted (class_of e))
    same i e true = refl
    same i e false = ap accepted (class_there e)
