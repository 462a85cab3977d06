-- Demand 3. For the parts of a file that scan and walk accept the writer succeeds; its file is accepted and shows the same parts; no accepted
-- file with those parts is shorter to its end; and one is as short exactly if each of its counts has its shortest form.
-- Assumes nothing.
use mathlib.Core.Path.{◌≡◌, refl, sym, ap, subst, ◌∙◌}
use mathlib.Core.List.{List, ◌++◌}
use mathlib.Core.Logic.{◌↔◌}
use Prim.Native.Nat.{ℕ, ◌^◌, ◌≤◌, ◌<◌}
use native.Mathlib.Omega.{arith}
use lib.ListN.{length}
use Rattle.wire.specs.Table.{accepted, NoneMet}
use Rattle.wire.specs.Le.{Bytes}
use Rattle.wire.proofs.Tables.{none_accepted}
use Rattle.wire.proofs.Piece.{Shorter, trims}
use Rattle.layout.specs.declared.facts.FormatFacts.{FormatFacts}
use Rattle.writer.specs.Parts.{Parts, as_read, SameParts, parts_shown, file_end, file_counts, EachShortest}
use Rattle.writer.specs.Writer.{written_file, writer_rules, write_outcome}
use Rattle.layout.specs.Given.{Proper}
use Rattle.renderings.specs.Rendering.{Ends, Taken, file_rules, Valid}
use Rattle.renderings.proofs.Answers.{taken_none}
use Rattle.renderings.proofs.File.{File, file}
use Rattle.renderings.proofs.Shown.{parts_of}
use Rattle.renderings.proofs.Written.{file_of, same_file, written_form, trimmed_parts, trimmed_file, tight_file, file_more}
use Rattle.renderings.proofs.Valid.{valid_writable}
use Rattle.renderings.proofs.Rendered.{Rendered, rendered, Accepted, accepts_form, taken_valid, taken_entries}

-- ---- an accepted file beside the writer's file for the same parts

module _ (f : FormatFacts) (k : Proper f) (places : ℕ) (t : List ℕ) (bt : Bytes t) (ok : NoneMet (file_rules f places t)) (p : Parts) (same : SameParts (parts_shown f t) p) where
  abbrev v : File
  v = (file f k places).value t 0

  abbrev r : Rendered f k places t v
  r = rendered f k places t bt ok

  trims_to : (file f k places).trim v ≡ file_of p
  trims_to = trimmed_file f k places v r.good ∙ same_file (parts_of v) p (ap as_read (sym r.parts) ∙ same)

  beside : (file f k places).Good (file_of p) × Shorter (written_file f p) ((file f k places).form v) ((file f k places).Tight v)
  beside = trims (file f k places) v (file_of p) (written_file f p) trims_to (written_form f k places p) r.good

  least_written : length (written_file f p) ≤ file_end f t
  least_written = rw r.end beside.1.least

  equal_written : (length (written_file f p) ≡ file_end f t) ↔ EachShortest (file_counts f t)
  equal_written =
      let c = tight_file f k places v r.good in
      rw (r.end, r.counts) (λ e. c.0 (beside.1.equal e), λ e. beside.1.tight (c.1 e))

  accepted_written : (q : ℕ) → length p.lengths ≤ q → (rest : List ℕ) → Accepted f k q (file_of p) (written_file f p ++ rest)
  accepted_written q h rest =
      subst (λ (w : List ℕ). Accepted f k q (file_of p) (w ++ rest)) (written_form f k q p)
      (accepts_form f k q (file_of p) rest (file_more f k places (file_of p) beside.0 q h))

  same_parts : SameParts (parts_of (file_of p)) p
  same_parts =
      ap (λ (x : File). as_read (parts_of x)) (sym trims_to) ∙ trimmed_parts f k places v r.good ∙ ap as_read (sym r.parts) ∙ same

-- ---- the demand

-- s is accepted, over so many key places, with so many entries and an end, w: what is promised of the writer's file for its parts
pub record Demand (f : FormatFacts) (places : ℕ) (s : List ℕ) (w : Ends) : Type 0 where
  -- given as many bytes of room as s fills to the end of its map, the writer succeeds
  pub succeeds : (room : ℕ) → w.end ≤ room → length s < 2 ^ 64
      → write_outcome f (parts_shown f s) room ≡ accepted (length (written_file f (parts_shown f s)))
  -- its file is accepted, whatever bytes follow, over any key places that the entries need, and s had as many; and it shows the same parts
  pub few : w.entries ≤ places
  pub accepts : (q : ℕ) → w.entries ≤ q → (rest : List ℕ)
      → Taken f q (written_file f (parts_shown f s) ++ rest) (record { entries = w.entries; end = length (written_file f (parts_shown f s)) })
  pub shows : (rest : List ℕ) → SameParts (parts_shown f (written_file f (parts_shown f s) ++ rest)) (parts_shown f s)
  -- no file accepted with those parts is shorter to that end
  pub least : (q : ℕ) (t : List ℕ) (x : Ends) → Bytes t → Taken f q t x → SameParts (parts_shown f t) (parts_shown f s)
      → length (written_file f (parts_shown f s)) ≤ x.end
  -- another is equally short exactly if each of its counts has its shortest form
  pub equal : (q : ℕ) (t : List ℕ) (x : Ends) → Bytes t → Taken f q t x → SameParts (parts_shown f t) (parts_shown f s)
      → (length (written_file f (parts_shown f s)) ≡ x.end) ↔ EachShortest (file_counts f t)

-- what is accepted ends where the walk does
ends : (f : FormatFacts) (q : ℕ) (t : List ℕ) (x : Ends) → Taken f q t x → NoneMet (file_rules f q t) × (file_end f t ≡ x.end)
unfolding file_end
ends f q t x taken = let a = taken_none f q t x taken in (a.0, ap (λ (y : Ends). y.end) a.1)

pub demand : (f : FormatFacts) → Proper f → (places : ℕ) (s : List ℕ) (w : Ends) → Bytes s → Taken f places s w → Demand f places s w
unfolding write_outcome
demand f k places s w bs taken =
    let p = parts_shown f s in
    let a = ends f places s w taken in
    let valid : Valid f places p = taken_valid f k places s bs w taken in
    let long : length p.lengths ≡ w.entries = taken_entries f k places s bs w taken in
    let fits : length (written_file f p) ≤ w.end = rw (← a.1) (least_written f k places s bs a.0 p refl) in
    let few : w.entries ≤ places = omega (arith, valid.few) in
    let new : (q : ℕ) → w.entries ≤ q → (rest : List ℕ) → Accepted f k q (file_of p) (written_file f p ++ rest) =
    (λ q h. accepted_written f k places s bs a.0 p refl q (omega arith)) in
    record {
      succeeds = λ room h m.
          let inside : w.end ≤ length s = rw a.1 at (rendered f k places s bs a.0).whole in
          none_accepted (writer_rules f p room) _ (valid_writable f k places p valid room (omega arith) (omega arith));
      few = few;
      accepts = λ q h rest. rw (written_form f k q p, long) at (new q h rest).taken;
      shows = λ rest. ap as_read (new places few rest).parts ∙ same_parts f k places s bs a.0 p refl;
      least = λ q t x bt tk same. let b = ends f q t x tk in rw (← b.1) (least_written f k q t bt b.0 p same);
      equal = λ q t x bt tk same. let b = ends f q t x tk in rw (← b.1) (equal_written f k q t bt b.0 p same);
    }
