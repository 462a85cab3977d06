-- The functions that C has: vekalumist_c exports them as they are. Each asks nothing of its caller. What one returns, stores and leaves is told by its
-- outcome (`Crosses`): after a refusal the number and the place are the refusal's and the answer is as it was; after an acceptance the number is 0,
-- the answer is the outcome's, and the place is as it was. Other memory that it is lent is one too (`Leaves`), and as it was where the outcome is
-- refused, but for the walk's key table, which is zeroed. Assumes nothing.
use mathlib.Core.Path.{◌≡◌, refl, ap, ◌∙◌}
use mathlib.Core.List.{List}
use Prim.Native.Nat.{ℕ}
use lib.ListN.{length, replicate}
use Rattle.wire.specs.Table.{Outcome, refused, accepted}
use Rattle.wire.specs.Counts.{write_outcome as count_written_call}
use Rattle.advice.specs.Table.{key_outcome}
use Rattle.writer.specs.Shown.{lent}
use Rattle.vekalumist.specs.Answers.{number_in, answered, placed, laid}
use Rattle.vekalumist.specs.Calls.{count_call, decode_call, encode_call, flags_call, scan_call, root_call, entry_call, children_call, order_call, strict_call, digest_call, digest_table_call, slots_call, walk_call, map_entry_call, lookup_call, values_call, write_call}
use Rattle.vekalumist.proofs.Told.{Tells}
use Rattle.vekalumist.proofs.counts.veka_raw_read_count.Reads as veka_raw_read_count
use Rattle.vekalumist.proofs.counts.veka_raw_write_count.Reads as veka_raw_write_count
use Rattle.vekalumist.proofs.entries.veka_decode_entry.Reads as veka_decode_entry
use Rattle.vekalumist.proofs.entries.veka_encode_entry.Reads as veka_encode_entry
use Rattle.vekalumist.proofs.files.veka_raw_flags.Reads as veka_raw_flags
use Rattle.vekalumist.proofs.files.veka_raw_scan.Reads as veka_raw_scan
use Rattle.vekalumist.proofs.files.veka_raw_root.Reads as veka_raw_root
use Rattle.vekalumist.proofs.entries.veka_raw_entry.Reads as veka_raw_entry
use Rattle.vekalumist.proofs.files.veka_raw_children.Reads as veka_raw_children
use Rattle.vekalumist.proofs.files.veka_raw_order.Reads as veka_raw_order
use Rattle.vekalumist.proofs.files.veka_raw_strict.Reads as veka_raw_strict
use Rattle.vekalumist.proofs.digests.veka_raw_digest.Reads as veka_raw_digest
use Rattle.vekalumist.proofs.digests.veka_raw_digest_with_table.Reads as veka_raw_digest_with_table
use Rattle.vekalumist.proofs.digests.veka_raw_slots.Reads as veka_raw_slots
use Rattle.vekalumist.proofs.map.veka_raw_walk.Reads as veka_raw_walk
use Rattle.vekalumist.proofs.map.veka_raw_key.Reads as veka_raw_key
use Rattle.vekalumist.proofs.map.veka_raw_map_entry.Reads as veka_raw_map_entry
use Rattle.vekalumist.proofs.map.veka_raw_lookup.Reads as veka_raw_lookup
use Rattle.vekalumist.proofs.map.veka_raw_values.Reads as veka_raw_values
use Rattle.vekalumist.proofs.write.veka_raw_write.Reads as veka_raw_write
use Rattle.vekalumist.proofs.veka_version.Reads as veka_version
use Rattle.vekalumist.proofs.counts.veka_shortest_len.Reads as veka_shortest_len
use Rattle.vekalumist.proofs.map.veka_raw_places.Reads as veka_raw_places
use Rattle.promises.proofs.Terms.{AsksNothing, Answers, answers, Leaves, one_value, one_held}
use Rattle.promises.proofs.OfWire.{count_left}
use Rattle.promises.proofs.OfAdvice.{walk_left}
use Rattle.promises.proofs.OfResolved.{slots_left}
use Rattle.promises.proofs.OfWriter.{write_left}

-- Nothing is asked; the number, the answer and the place are one; and they are what the outcome tells. `before` and `from` are the answer and the place
-- as they were lent, `after` and `to` as they are left.
pub record Crosses
    {K : Type 0} {A E : K → Type 0} {B : Type 0}
    (Pre : (κs : K) → A κs → Type 0) (Post : (κs : K) → A κs → ℕ → E κs → Type 0)
    (outcome : (κs : K) → A κs → Outcome B)
    (before : (κs : K) → A κs → B) (after : (κs : K) → E κs → B) (from : (κs : K) → A κs → ℕ) (to : (κs : K) → E κs → ℕ) : Type 0 where
  pub answers_one : Answers Pre Post
  pub answer_one : Leaves Post after
  pub place_one : Leaves Post to
  pub refused_so : (κs : K) (a : A κs) (r : ℕ) (e : E κs) → Post κs a r e → (n p : ℕ) → outcome κs a ≡ refused n p → (r ≡ n) × ((after κs e ≡ before κs a) × (to κs e ≡ p))
  pub accepted_so : (κs : K) (a : A κs) (r : ℕ) (e : E κs) → Post κs a r e → (v : B) → outcome κs a ≡ accepted v → (r ≡ 0) × ((after κs e ≡ v) × (to κs e ≡ from κs a))

crosses :
    {K : Type 0} {A E : K → Type 0} {B : Type 0} {Pre : (κs : K) → A κs → Type 0} {Post : (κs : K) → A κs → ℕ → E κs → Type 0}
    {outcome : (κs : K) → A κs → Outcome B} {before : (κs : K) → A κs → B} {after : (κs : K) → E κs → B} {from : (κs : K) → A κs → ℕ} {to : (κs : K) → E κs → ℕ}
    → AsksNothing Pre
    → ((κs : K) (a : A κs) (r : ℕ) (e : E κs) → Post κs a r e → Tells (outcome κs a) r (before κs a) (after κs e) (from κs a) (to κs e))
    → Crosses Pre Post outcome before after from to
unfolding number_in answered placed
crosses {before = before} {from = from} asks tells =
    record {
      answers_one = answers asks (one_value (λ κs a r e p. (tells κs a r e p).0));
      answer_one = one_held (λ κs a r e p. (tells κs a r e p).1.0);
      place_one = one_held (λ κs a r e p. (tells κs a r e p).1.1);
      refused_so = λ κs a r e p n q h. let t = tells κs a r e p in (t.0 ∙ ap number_in h, (t.1.0 ∙ ap (answered (before κs a)) h, t.1.1 ∙ ap (placed (from κs a)) h));
      accepted_so = λ κs a r e p v h. let t = tells κs a r e p in (t.0 ∙ ap number_in h, (t.1.0 ∙ ap (answered (before κs a)) h, t.1.1 ∙ ap (placed (from κs a)) h));
    }

-- ---- what a refusal leaves in other memory

-- an array tells of a refusal what its outcome does
laid_refused : {A : Type 0} (row : A → List ℕ) (o : Outcome A) (n q : ℕ) → laid row o ≡ refused n q → o ≡ refused n q
laid_refused row (refused m k) n q h = cc
laid_refused row (accepted v) n q h = cc

pub record Vekalumist : Type 0 where
  pub veka_raw_read_count_crosses : Crosses veka_raw_read_count.Pre veka_raw_read_count.Post (λ κs a. count_call a.0.now a.1.0) (λ κs a. a.1.1.0.now) (λ κs e. e.1.1.0.now) (λ κs a. a.1.1.1.0.now) (λ κs e. e.1.1.1.0.now)
  pub veka_raw_write_count_crosses : Crosses veka_raw_write_count.Pre veka_raw_write_count.Post (λ κs a. count_written_call a.0.now a.1.0 a.1.1.0) (λ κs a. a.1.1.1.0.now) (λ κs e. e.1.1.1.0.now) (λ κs a. a.1.1.1.1.0.now) (λ κs e. e.1.1.1.1.0.now)
  pub veka_raw_write_count_leaves : Leaves veka_raw_write_count.Post (λ κs e. e.0.now)
  pub veka_raw_write_count_refused : (κs : _) (a : _) (r : _) (e : _) → veka_raw_write_count.Post κs a r e → (n q : ℕ) → count_written_call a.0.now a.1.0 a.1.1.0 ≡ refused n q → e.0.now ≡ a.0.now
  pub veka_decode_entry_crosses : Crosses veka_decode_entry.Pre veka_decode_entry.Post (λ κs a. decode_call a.0) (λ κs a. a.1.0.now) (λ κs e. e.1.0.now) (λ κs a. a.1.1.0.now) (λ κs e. e.1.1.0.now)
  pub veka_encode_entry_crosses : Crosses veka_encode_entry.Pre veka_encode_entry.Post (λ κs a. encode_call a.0.now) (λ κs a. a.1.0.now) (λ κs e. e.1.0.now) (λ κs a. a.1.1.0.now) (λ κs e. e.1.1.0.now)
  pub veka_raw_flags_crosses : Crosses veka_raw_flags.Pre veka_raw_flags.Post (λ κs a. flags_call a.0.now) (λ κs a. a.1.0.now) (λ κs e. e.1.0.now) (λ κs a. a.1.1.0.now) (λ κs e. e.1.1.0.now)
  pub veka_raw_scan_crosses : Crosses veka_raw_scan.Pre veka_raw_scan.Post (λ κs a. scan_call a.0.now a.1.0.now a.1.1.0 a.1.1.1.0 a.1.1.1.1.0.now) (λ κs a. a.1.1.1.1.1.0.now) (λ κs e. e.1.1.1.1.1.0.now) (λ κs a. a.1.1.1.1.1.1.0.now) (λ κs e. e.1.1.1.1.1.1.0.now)
  pub veka_raw_root_crosses : Crosses veka_raw_root.Pre veka_raw_root.Post (λ κs a. root_call a.0.now a.1.0.now a.1.1.0) (λ κs a. a.1.1.1.0.now) (λ κs e. e.1.1.1.0.now) (λ κs a. a.1.1.1.1.0.now) (λ κs e. e.1.1.1.1.0.now)
  pub veka_raw_entry_crosses : Crosses veka_raw_entry.Pre veka_raw_entry.Post (λ κs a. entry_call a.0.now a.1.0.now a.1.1.0) (λ κs a. a.1.1.1.0.now) (λ κs e. e.1.1.1.0.now) (λ κs a. a.1.1.1.1.0.now) (λ κs e. e.1.1.1.1.0.now)
  pub veka_raw_children_crosses : Crosses veka_raw_children.Pre veka_raw_children.Post (λ κs a. children_call a.0.now a.1.0.now) (λ κs a. tt) (λ κs e. tt) (λ κs a. a.1.1.0.now) (λ κs e. e.1.1.0.now)
  pub veka_raw_order_crosses : Crosses veka_raw_order.Pre veka_raw_order.Post (λ κs a. order_call a.0.now a.1.0.now) (λ κs a. tt) (λ κs e. tt) (λ κs a. a.1.1.0.now) (λ κs e. e.1.1.0.now)
  pub veka_raw_strict_crosses : Crosses veka_raw_strict.Pre veka_raw_strict.Post (λ κs a. strict_call a.0.now a.1.0.now) (λ κs a. tt) (λ κs e. tt) (λ κs a. a.1.1.0.now) (λ κs e. e.1.1.0.now)
  pub veka_raw_digest_crosses : Crosses veka_raw_digest.Pre veka_raw_digest.Post (λ κs a. digest_call a.0.now a.1.0.now a.1.1.0) (λ κs a. a.1.1.1.0.now) (λ κs e. e.1.1.1.0.now) (λ κs a. a.1.1.1.1.0.now) (λ κs e. e.1.1.1.1.0.now)
  pub veka_raw_digest_with_table_crosses : Crosses veka_raw_digest_with_table.Pre veka_raw_digest_with_table.Post (λ κs a. digest_table_call a.0.now a.1.0.now a.1.1.0 a.1.1.1.0.now) (λ κs a. a.1.1.1.1.0.now) (λ κs e. e.1.1.1.1.0.now) (λ κs a. a.1.1.1.1.1.0.now) (λ κs e. e.1.1.1.1.1.0.now)
  pub veka_raw_slots_crosses : Crosses veka_raw_slots.Pre veka_raw_slots.Post (λ κs a. slots_call a.0.now a.1.0.now a.1.1.0.now (length a.1.1.1.0.now)) (λ κs a. a.1.1.1.1.0.now) (λ κs e. e.1.1.1.1.0.now) (λ κs a. a.1.1.1.1.1.0.now) (λ κs e. e.1.1.1.1.1.0.now)
  pub veka_raw_slots_leaves : Leaves veka_raw_slots.Post (λ κs e. e.1.1.1.0.now)
  pub veka_raw_slots_refused : (κs : _) (a : _) (r : _) (e : _) → veka_raw_slots.Post κs a r e → (n q : ℕ) → slots_call a.0.now a.1.0.now a.1.1.0.now (length a.1.1.1.0.now) ≡ refused n q → e.1.1.1.0.now ≡ a.1.1.1.0.now
  pub veka_raw_walk_crosses : Crosses veka_raw_walk.Pre veka_raw_walk.Post (λ κs a. walk_call (length a.1.1.0.now) a.0.now a.1.0) (λ κs a. a.1.1.1.0.now) (λ κs e. e.1.1.1.0.now) (λ κs a. a.1.1.1.1.0.now) (λ κs e. e.1.1.1.1.0.now)
  pub veka_raw_walk_leaves : Leaves veka_raw_walk.Post (λ κs e. e.1.1.0.now)
  pub veka_raw_walk_refused : (κs : _) (a : _) (r : _) (e : _) → veka_raw_walk.Post κs a r e → (n q : ℕ) → walk_call (length a.1.1.0.now) a.0.now a.1.0 ≡ refused n q → e.1.1.0.now ≡ replicate (length a.1.1.0.now) 0
  pub veka_raw_key_crosses : Crosses veka_raw_key.Pre veka_raw_key.Post (λ κs a. key_outcome a.0.now a.1.0.now a.1.1.0) (λ κs a. a.1.1.1.0.now) (λ κs e. e.1.1.1.0.now) (λ κs a. a.1.1.1.1.0.now) (λ κs e. e.1.1.1.1.0.now)
  pub veka_raw_map_entry_crosses : Crosses veka_raw_map_entry.Pre veka_raw_map_entry.Post (λ κs a. map_entry_call a.0.now a.1.0.now a.1.1.0) (λ κs a. a.1.1.1.0.now) (λ κs e. e.1.1.1.0.now) (λ κs a. a.1.1.1.1.0.now) (λ κs e. e.1.1.1.1.0.now)
  pub veka_raw_lookup_crosses : Crosses veka_raw_lookup.Pre veka_raw_lookup.Post (λ κs a. lookup_call a.0.now a.1.0.now a.1.1.0 a.1.1.1.0.now) (λ κs a. a.1.1.1.1.0.now) (λ κs e. e.1.1.1.1.0.now) (λ κs a. a.1.1.1.1.1.0.now) (λ κs e. e.1.1.1.1.1.0.now)
  pub veka_raw_values_crosses : Crosses veka_raw_values.Pre veka_raw_values.Post (λ κs a. values_call a.0.now a.1.0.now a.1.1.0 a.1.1.1.0.now) (λ κs a. a.1.1.1.1.0.now) (λ κs e. e.1.1.1.1.0.now) (λ κs a. a.1.1.1.1.1.0.now) (λ κs e. e.1.1.1.1.1.0.now)
  pub veka_raw_write_crosses : Crosses veka_raw_write.Pre veka_raw_write.Post (λ κs a. write_call a.0.now a.1.0 (lent a.1.1.0 a.1.1.1.0.now a.1.1.1.1.0.now a.1.1.1.1.1.0.now a.1.1.1.1.1.1.0.now a.1.1.1.1.1.1.1.0.now a.1.1.1.1.1.1.1.1.0.now a.1.1.1.1.1.1.1.1.1.0.now a.1.1.1.1.1.1.1.1.1.1.0.now) (length a.1.1.1.1.1.1.1.1.1.1.1.1.0.now)) (λ κs a. a.1.1.1.1.1.1.1.1.1.1.1.1.1.0.now) (λ κs e. e.1.1.1.1.1.1.1.1.1.1.1.1.1.0.now) (λ κs a. a.1.1.1.1.1.1.1.1.1.1.1.1.1.1.0.now) (λ κs e. e.1.1.1.1.1.1.1.1.1.1.1.1.1.1.0.now)
  pub veka_raw_write_leaves : Leaves veka_raw_write.Post (λ κs e. e.1.1.1.1.1.1.1.1.1.1.1.1.0.now)
  pub veka_raw_write_refused : (κs : _) (a : _) (r : _) (e : _) → veka_raw_write.Post κs a r e → (n q : ℕ) → write_call a.0.now a.1.0 (lent a.1.1.0 a.1.1.1.0.now a.1.1.1.1.0.now a.1.1.1.1.1.0.now a.1.1.1.1.1.1.0.now a.1.1.1.1.1.1.1.0.now a.1.1.1.1.1.1.1.1.0.now a.1.1.1.1.1.1.1.1.1.0.now a.1.1.1.1.1.1.1.1.1.1.0.now) (length a.1.1.1.1.1.1.1.1.1.1.1.1.0.now) ≡ refused n q → e.1.1.1.1.1.1.1.1.1.1.1.1.0.now ≡ a.1.1.1.1.1.1.1.1.1.1.1.1.0.now
  pub veka_version_answers : Answers veka_version.Pre veka_version.Post
  pub veka_shortest_len_answers : Answers veka_shortest_len.Pre veka_shortest_len.Post
  pub veka_raw_places_answers : Answers veka_raw_places.Pre veka_raw_places.Post

pub vekalumist : Vekalumist
vekalumist =
    record {
      veka_raw_read_count_crosses = crosses (λ κs a. tt) (λ κs a r e p. p);
      veka_raw_write_count_crosses = crosses (λ κs a. tt) (λ κs a r e p. (p.0, (p.1.0, p.1.1.0)));
      veka_raw_write_count_leaves = one_held (λ κs a r e p. p.1.1.1);
      veka_raw_write_count_refused = λ κs a r e p n q h. p.1.1.1 ∙ count_left _ _ _ n q h;
      veka_decode_entry_crosses = crosses (λ κs a. tt) (λ κs a r e p. p);
      veka_encode_entry_crosses = crosses (λ κs a. tt) (λ κs a r e p. p);
      veka_raw_flags_crosses = crosses (λ κs a. tt) (λ κs a r e p. p);
      veka_raw_scan_crosses = crosses (λ κs a. tt) (λ κs a r e p. p);
      veka_raw_root_crosses = crosses (λ κs a. tt) (λ κs a r e p. p);
      veka_raw_entry_crosses = crosses (λ κs a. tt) (λ κs a r e p. p);
      veka_raw_children_crosses = crosses (λ κs a. tt) (λ κs a r e p. (p.0, (refl, p.1)));
      veka_raw_order_crosses = crosses (λ κs a. tt) (λ κs a r e p. (p.0, (refl, p.1)));
      veka_raw_strict_crosses = crosses (λ κs a. tt) (λ κs a r e p. (p.0, (refl, p.1)));
      veka_raw_digest_crosses = crosses (λ κs a. tt) (λ κs a r e p. p);
      veka_raw_digest_with_table_crosses = crosses (λ κs a. tt) (λ κs a r e p. p);
      veka_raw_slots_crosses = crosses (λ κs a. tt) (λ κs a r e p. (p.0, (p.1.0, p.1.1.0)));
      veka_raw_slots_leaves = one_held (λ κs a r e p. p.1.1.1);
      veka_raw_slots_refused = λ κs a r e p n q h. p.1.1.1 ∙ slots_left _ _ _ _ n q (laid_refused _ _ n q h);
      veka_raw_walk_crosses = crosses (λ κs a. tt) (λ κs a r e p. (p.0, (p.1.0, p.1.1.0)));
      veka_raw_walk_leaves = one_held (λ κs a r e p. p.1.1.1);
      veka_raw_walk_refused = λ κs a r e p n q h. p.1.1.1 ∙ walk_left _ _ _ n q (laid_refused _ _ n q h);
      veka_raw_key_crosses = crosses (λ κs a. tt) (λ κs a r e p. p);
      veka_raw_map_entry_crosses = crosses (λ κs a. tt) (λ κs a r e p. p);
      veka_raw_lookup_crosses = crosses (λ κs a. tt) (λ κs a r e p. p);
      veka_raw_values_crosses = crosses (λ κs a. tt) (λ κs a r e p. p);
      veka_raw_write_crosses = crosses (λ κs a. tt) (λ κs a r e p. (p.0, (p.1.0, p.1.1.0)));
      veka_raw_write_leaves = one_held (λ κs a r e p. p.1.1.1);
      veka_raw_write_refused = λ κs a r e p n q h. p.1.1.1 ∙ write_left _ _ _ n q h;
      veka_version_answers = answers (λ κs a. tt) (one_value (λ κs a r e p. p));
      veka_shortest_len_answers = answers (λ κs a. tt) (one_value (λ κs a r e p. p));
      veka_raw_places_answers = answers (λ κs a. tt) (one_value (λ κs a r e p. p));
    }
