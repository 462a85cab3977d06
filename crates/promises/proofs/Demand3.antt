-- Demand 3: from the parts of an accepted file the writer makes, in the room that the file fills, a file that is accepted, shows the same parts
-- and is the shortest such; another is equally short exactly if each of its counts has its shortest form (`shortest_demanded`), which scan and walk
-- tell (`shortest_told`). And the files that scan and walk accept are exactly the renderings of their parts, each count in some valid length
-- (`renderings`).
-- Said of the functions through their promises: every file is one that the scan was called on, and what the types of that call's arguments say
-- of them is part of its promise (`Given`).
-- Assumes nothing.
use mathlib.Core.Path.{◌≡◌, refl, sym, ap, ◌∙◌}
use mathlib.Core.Bool.{true}
use mathlib.Core.List.{List, [], ◌++◌, append-nil}
use mathlib.Core.Logic.{◌↔◌}
use Prim.Native.Nat.{ℕ, ◌≤◌}
use native.Mathlib.Omega.{arith}
use lib.ListN.{length, take, drop, replicate, length-replicate}
use lib.Seq.{take_at}
use Rattle.std.specs.Prelude.{None, Result, Ok}
use Rattle.wire.specs.Table.{accepted}
use Rattle.wire.specs.Le.{Bytes}
use Rattle.wire.specs.declared.refusal.Refused.{Refused}
use Rattle.wire.specs.declared.units.ByteOffset.{ByteOffset}
use Rattle.wire.proofs.Answers.{cursor}
use Rattle.layout.specs.Scan.{Scanned}
use Rattle.layout.specs.declared.facts.FormatFacts.{FormatFacts}
use Rattle.layout.specs.declared.forest.ForestLayout.{ForestLayout}
use Rattle.layout.specs.declared.scan.Scanned.{Scanned as Scan}
use Rattle.layout.proofs.Answers.{scan_one}
use Rattle.advice.specs.Walk.{key_table}
use Rattle.advice.specs.declared.walk.Walked.{Walked as MapWalk}
use Rattle.advice.proofs.Answers.{walk_one}
use Rattle.writer.specs.Parts.{SameParts, parts_shown, file_counts, EachShortest}
use Rattle.writer.specs.Writer.{written_file, output_of, output_after}
use Rattle.layout.specs.Given.{Given}
use Rattle.renderings.specs.Rendering.{Ends, Taken, Lengths, Rendering}
use Rattle.renderings.proofs.Long.{none_long}
use Rattle.renderings.proofs.Rendered.{exactly}
use Rattle.renderings.proofs.Bytes.{written_bytes}
use Rattle.whole.proofs.Accepted.{walk_inside}
use Rattle.renderings.proofs.Demand.{demand}
use Rattle.promises.proofs.Terms.{one_by}
use Rattle.promises.proofs.Calls.{Scans, Walks, Writes}

-- ---- what scan and walk answer

-- scan and walk accept s, hashless allowed, no bound, a table of so many places: so many entries, and the map ends at e; and how many counts each
-- says are long
pub record Accepts (f : FormatFacts) (places : ℕ) (s : List ℕ) (entries e : ℕ) : Type 0 where
  pub layout : ForestLayout
  pub scan_long : ℕ
  pub walk_long : ℕ
  pub scanned : Scans s f true None (Ok (record { layout = layout; long_counts = scan_long }))
  pub table : List ℕ
  pub room : length table ≡ places
  pub after : List ℕ
  pub walked : Walks s layout.advice_map_offset.0 table after (Ok (record { entries = entries; end = cursor e; long_counts = walk_long }))

-- they do nothing else: whatever they answer on s is this, and that no count is long
pub record MustAccept (f : FormatFacts) (s : List ℕ) (entries e : ℕ) : Type 0 where
  pub scans : (r : Result Scan (Refused ByteOffset)) → Scans s f true None r → (l : ForestLayout) × (r ≡ Ok (record { layout = l; long_counts = 0 }))
  pub walks : (l : ForestLayout) (long : ℕ) → Scans s f true None (Ok (record { layout = l; long_counts = long })) → (t₀ t : List ℕ) (r : Result MapWalk (Refused ByteOffset)) → entries ≤ length t₀
      → Walks s l.advice_map_offset.0 t₀ t r → r ≡ Ok (record { entries = entries; end = cursor e; long_counts = 0 })

-- ---- the demand

-- s was accepted, with so many entries; the writer answered r to its parts, and left the output o
pub record Demand3 (f : FormatFacts) (s : List ℕ) (entries : ℕ) (o : List ℕ) (r : Result ℕ (Refused ℕ)) : Type 0 where
  -- the writer succeeds; its file is the output's first `size` bytes
  pub size : ℕ
  pub succeeds : r ≡ Ok size
  -- it is accepted under the same facts, without a long count, and shows the same parts
  pub accepts : MustAccept f (take size o) entries size
  pub shows : SameParts (parts_shown f (take size o)) (parts_shown f s)
  -- no file t so accepted with those parts is shorter to its end d, and one is equally short exactly if each of its counts has its shortest form
  pub least : (places n d : ℕ) (t : List ℕ) → Accepts f places t n d → SameParts (parts_shown f t) (parts_shown f s) → size ≤ d
  pub equal : (places n d : ℕ) (t : List ℕ) → Accepts f places t n d → SameParts (parts_shown f t) (parts_shown f s)
      → (size ≡ d) ↔ EachShortest (file_counts f t)
  -- which scan and walk of t tell: both say that no count is long
  pub told : (places n d : ℕ) (t : List ℕ) (a : Accepts f places t n d) → SameParts (parts_shown f t) (parts_shown f s)
      → (size ≡ d) ↔ ((a.scan_long ≡ 0) × (a.walk_long ≡ 0))

-- ---- the functions' answers, as the definitions have them

taken : (f : FormatFacts) (places : ℕ) (s : List ℕ) (n e : ℕ) → Accepts f places s n e → Taken f places s (record { entries = n; end = e })
taken f places s n e a =
    record {
      layout = a.layout;
      scan_long = a.scan_long;
      walk_long = a.walk_long;
      scanned = sym a.scanned.answer;
      walked = rw a.room at (sym a.walked.answer);
    }

accepts_taken : (f : FormatFacts) (places : ℕ) (s : List ℕ) (w : Ends) → Given f s → Taken f places s w → Accepts f places s w.entries w.end
accepts_taken f places s w given t =
    let long = length-replicate {A = ℕ} places 0 in
    record {
      layout = t.layout;
      scan_long = t.scan_long;
      walk_long = t.walk_long;
      scanned = record { answer = sym t.scanned; given = given };
      table = replicate places 0;
      room = long;
      after = key_table s t.layout.advice_map_offset.0 (replicate places 0);
      walked = record { answer = rw long (sym t.walked); table = refl };
    }

-- a file that is accepted, whose counts are all shortest
must : (f : FormatFacts) (s : List ℕ) (w : Ends) → ((q : ℕ) → w.entries ≤ q → Taken f q s w) → (Bytes s → EachShortest (file_counts f s)) → MustAccept f s w.entries w.end
must f s w taken shortest =
    record {
      scans = λ r said.
          let t = taken w.entries (omega arith) in
          let none = (none_long f s w.entries w t).1 (shortest said.given.bytes) in
          (t.layout, scan_one _ r (Ok _) said.answer (sym (rw none.0 at t.scanned)));
      walks = λ l long scanned t₀ t r enough said.
          let k = taken (length t₀) enough in
          let none = (none_long f s (length t₀) w k).1 (shortest scanned.given.bytes) in
          let same : k.layout ≡ l = ap (λ (x : Scanned). x.layout) (one (sym k.scanned ∙ sym scanned.answer)) in
          walk_one _ r (Ok _) said.answer (sym (rw (same, none.1) at k.walked));
    }
  where
    one : {a b : Scanned} → ◌≡◌ (accepted a) (accepted b) → a ≡ b
    one e = cc

-- ---- the theorems

-- take a file s that is accepted; whatever the writer answers to its parts, given as many bytes of room as s fills to the end of its map
pub shortest_demanded : (f : FormatFacts) (s : List ℕ) (places entries e : ℕ) → Accepts f places s entries e
    → (o₀ o : List ℕ) (r : Result ℕ (Refused ℕ)) → e ≤ length o₀ → Writes f (parts_shown f s) o₀ o r
    → Demand3 f s entries o r
unfolding output_after taken
shortest_demanded f s places entries e accepts o₀ o r enough writes =
    let given = accepts.scanned.given in
    let d = demand f given.proper places s (record { entries = entries; end = e }) given.bytes (taken f places s entries e accepts) in
    let file = written_file f (parts_shown f s) in
    let said = d.succeeds (length o₀) enough given.below in
    let is : o ≡ file ++ drop (length file) o₀ = writes.output ∙ ap (output_of file o₀) said in
    let front : take (length file) o ≡ file = ap (take (length file)) is ∙ take_at file (drop (length file) o₀) (length file) refl in
    let ends : Ends = record { entries = entries; end = length file } in
    let new : (q : ℕ) → entries ≤ q → Taken f q file ends = λ q h. rw append-nil at (d.accepts q h []) in
    let shows : SameParts (parts_shown f file) (parts_shown f s) = rw append-nil at (d.shows []) in
    let shortest : Bytes file → EachShortest (file_counts f file) = λ bytes. (d.equal entries file ends bytes (new entries (omega arith)) shows).0 refl in
    record {
      size = length file;
      succeeds = one_by _ r (Ok (length file)) writes.answer (sym said);
      accepts = rw front (must f file ends new shortest);
      shows = rw front shows;
      least = λ q n x t a same. d.least q t (record { entries = n; end = x }) a.scanned.given.bytes (taken f q t n x a) same;
      equal = λ q n x t a same. d.equal q t (record { entries = n; end = x }) a.scanned.given.bytes (taken f q t n x a) same;
      told = λ q n x t a same.
          let equal = d.equal q t (record { entries = n; end = x }) a.scanned.given.bytes (taken f q t n x a) same in
          let none = none_long f t q (record { entries = n; end = x }) (taken f q t n x a) in
          (λ e. none.1 (equal.0 e), λ z. equal.1 (none.0 z));
    }

-- no file that is accepted with the parts of s ends before e
abbrev pub Shortest : FormatFacts → List ℕ → ℕ → Type 0
Shortest f s e = (places n d : ℕ) (t : List ℕ) → Accepts f places t n d → SameParts (parts_shown f t) (parts_shown f s) → e ≤ d

-- an accepted file is the shortest of its parts exactly if scan and walk say that no count of it is long
pub shortest_told : (f : FormatFacts) (places : ℕ) (s : List ℕ) (n e : ℕ) (a : Accepts f places s n e) → Shortest f s e ↔ ((a.scan_long ≡ 0) × (a.walk_long ≡ 0))
unfolding taken
shortest_told f places s n e a =
    let given = a.scanned.given in
    let w : Ends = record { entries = n; end = e } in
    let here = taken f places s n e a in
    let d = demand f given.proper places s w given.bytes here in
    let file = written_file f (parts_shown f s) in
    let ends : Ends = record { entries = n; end = length file } in
    let least : length file ≤ e = d.least places s w given.bytes here refl in
    let equal = d.equal places s w given.bytes here refl in
    let none = none_long f s places w here in
    let inside : e ≤ length s = (walk_inside places s a.layout.advice_map_offset.0 _ here.walked).1 in
    let new : Taken f n file ends = rw append-nil at (d.accepts n (omega arith) []) in
    let shows : SameParts (parts_shown f file) (parts_shown f s) = rw append-nil at (d.shows []) in
    let of_bytes : Given f file = record { proper = given.proper; bytes = written_bytes f given.proper places s given.bytes w here; below = omega (arith, given.below) } in (
      λ h. none.1 (equal.0 (omega (arith, least, h n n (length file) file (accepts_taken f n file ends of_bytes new) shows))),
      λ z. λ q m x t b same. omega (arith, equal.1 (none.0 z), d.least q t (record { entries = m; end = x }) b.scanned.given.bytes (taken f q t m x b) same),
    )

-- a file is accepted exactly if, to its map's end, it is the rendering of its parts with each count in some valid length
pub renderings : (f : FormatFacts) (places : ℕ) (s : List ℕ) → Given f s
    → ((n : ℕ) × ((e : ℕ) × Accepts f places s n e)) ↔ ((l : Lengths) × Rendering f places s l)
renderings f places s given =
    let law = exactly f given.proper places s given.bytes in (
      λ a. law.0 (_, taken f places s a.0 a.1.0 a.1.1),
      λ l. let t = law.1 l in (t.0.entries, (t.0.end, accepts_taken f places s t.0 given t.1)),
    )
