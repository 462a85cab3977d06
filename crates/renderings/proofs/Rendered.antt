-- Accepted files are renderings. A file is accepted exactly if it is, up to where its map ends, the rendering of its parts under some length for
-- each count (`exactly`). And the rendering of valid parts, under any lengths for which
-- the counts have forms, is accepted whatever follows it, and shows those parts and lengths (`rendering_accepted`).
-- Assumes nothing.
use mathlib.Core.Path.{◌≡◌, sym, ap, subst, ◌∙◌}
use mathlib.Core.List.{List, ◌++◌}
use mathlib.Core.Logic.{◌↔◌}
use Prim.Native.Nat.{ℕ, ◌≤◌}
use native.Mathlib.Omega.{arith}
use lib.ListN.{length, take, drop, take-append-drop}
use Rattle.wire.specs.Table.{NoneMet}
use Rattle.wire.specs.Le.{Bytes}
use Rattle.wire.proofs.Piece.{found, made}
use Rattle.layout.specs.declared.facts.FormatFacts.{FormatFacts}
use Rattle.writer.specs.Parts.{Parts, parts_shown, file_end, file_counts}
use Rattle.layout.specs.Given.{Proper}
use Rattle.renderings.specs.Rendering.{Ends, Taken, file_rules, Lengths, lengths_shown, rendered_file, Lengthened, Valid, Rendering}
use Rattle.renderings.proofs.Answers.{ends_at, none_taken, taken_none}
use Rattle.renderings.proofs.File.{File, file, entry_count_of}
use Rattle.renderings.proofs.Shown.{parts_of, counts_of, lengths_of, rules_same, end_same, parts_same, counts_same, lengths_same}
use Rattle.renderings.proofs.Written.{value_of, rendered_form, whole_file, joined_said}
use Rattle.renderings.proofs.Valid.{good_valid, good_lengthened, valid_good, valid_parts, valid_lengths}

module _ (f : FormatFacts) (k : Proper f) (places : ℕ) where
  -- ---- accepted files are the forms of good values

  -- an accepted file is, up to its end, the form of the value that it shows
  pub record Rendered (s : List ℕ) (v : File) : Type 0 where
    pub good : (file f k places).Good v
    pub whole : file_end f s ≤ length s
    pub end : file_end f s ≡ length ((file f k places).form v)
    pub bytes : take (file_end f s) s ≡ (file f k places).form v
    pub parts : parts_shown f s ≡ parts_of v
    pub counts : file_counts f s ≡ counts_of v
    pub lengths : lengths_shown f s ≡ lengths_of v

  pub rendered : (s : List ℕ) → Bytes s → NoneMet (file_rules f places s) → Rendered s ((file f k places).value s 0)
  rendered s bs ok =
      let none = rw (rules_same f k places s) at ok in
      let r = found (file f k places) s bs none in
      let e = end_same f k places s in
      let st = ((file f k places).sound s 0 bs (omega arith) none).1 in
      record {
        good = r.0;
        whole = omega (arith, e, r.1, st.whole);
        end = e ∙ r.1;
        bytes = rw e r.2;
        parts = parts_same f k places s;
        counts = counts_same f k places s;
        lengths = lengths_same f k places s;
      }

  -- the form of a good value, whatever comes after it, is accepted and shows that value
  pub record Accepted (v : File) (s : List ℕ) : Type 0 where
    pub taken : Taken f places s (record { entries = (entry_count_of v).value; end = length ((file f k places).form v) })
    pub parts : parts_shown f s ≡ parts_of v
    pub lengths : lengths_shown f s ≡ lengths_of v

  pub accepts_form : (v : File) (rest : List ℕ) → (file f k places).Good v → Accepted v ((file f k places).form v ++ rest)
  unfolding file_end
  accepts_form v rest good =
      let s = (file f k places).form v ++ rest in
      let r = made (file f k places) v rest good in
      let same : ends_at f places s ≡ record { entries = (entry_count_of v).value; end = length ((file f k places).form v) } =
      (λ i. record { entries = (entry_count_of (r.1 i)).value; end = (end_same f k places s ∙ r.2) i }) in
      record {
        taken = rw same at (none_taken f places s (rw (rules_same f k places s) r.0));
        parts = parts_same f k places s ∙ ap parts_of r.1;
        lengths = lengths_same f k places s ∙ ap lengths_of r.1;
      }

  -- ---- the rendering of valid parts

  pub record Shows (p : Parts) (l : Lengths) (s : List ℕ) : Type 0 where
    pub taken : Taken f places s (record { entries = length p.lengths; end = length (rendered_file f p l) })
    pub parts : parts_shown f s ≡ p
    pub lengths : lengths_shown f s ≡ l

  pub rendering_accepted : (p : Parts) (l : Lengths) (rest : List ℕ) → Valid f places p → Lengthened p l → Shows p l (rendered_file f p l ++ rest)
  rendering_accepted p l rest valid long =
      let v = value_of p p.words l in
      let a = subst (λ (w : List ℕ). Accepted v (w ++ rest)) (rendered_form f k places p l) (accepts_form v rest (valid_good f k places p valid l long)) in
      record {
        taken = rw (rendered_form f k places p l) at a.taken;
        parts = a.parts ∙ valid_parts f k places p valid l long;
        lengths = a.lengths ∙ valid_lengths f k places p valid l long;
      }

  -- ---- a file and its own parts

  module _ (s : List ℕ) where
    shows : (l : Lengths) → Rendering f places s l → Shows (parts_shown f s) l s
    shows l r =
        let e : rendered_file f (parts_shown f s) l ++ drop (file_end f s) s ≡ s = rw (← r.bytes) (take-append-drop (file_end f s) s) in
        subst (λ (t : List ℕ). Shows (parts_shown f s) l t) e (rendering_accepted (parts_shown f s) l (drop (file_end f s) s) r.valid r.lengthened)

    module _ (bs : Bytes s) where
      module _ (w : Ends) (taken : Taken f places s w) where
        abbrev v : File
        v = (file f k places).value s 0

        r : Rendered s v
        r = rendered s bs (taken_none f places s w taken).0

        pub taken_valid : Valid f places (parts_shown f s)
        taken_valid = rw r.parts (good_valid f k places v r.good)

        pub taken_entries : length (parts_shown f s).lengths ≡ w.entries
        taken_entries =
            ap (λ (p : Parts). length p.lengths) r.parts
            ∙ (joined_said f k places v r.good).counted
            ∙ ap (λ (x : Ends). x.entries) (taken_none f places s w taken).1

        pub taken_rendering : Rendering f places s (lengths_shown f s)
        taken_rendering =
            let whole = whole_file f k places v r.good in
            record {
              valid = taken_valid;
              lengthened = rw (r.parts, r.lengths) (good_lengthened f k places v r.good);
              whole = r.whole;
              bytes = rw (r.parts, r.lengths) (r.bytes ∙ sym (ap (file f k places).form whole) ∙ rendered_form f k places (parts_of v) (lengths_of v));
            }

      -- accepted exactly if it is a rendering of its parts
      pub exactly : ((w : Ends) × Taken f places s w) ↔ ((l : Lengths) × Rendering f places s l)
      exactly = (λ t. (lengths_shown f s, taken_rendering t.0 t.1), λ x. (_, (shows x.0 x.1).taken))
