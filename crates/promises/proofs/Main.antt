-- The three demands, each a theorem over every call of the functions that it is about, and the requests that have landed. What a call may answer has
-- a name in Calls (`Scans`, `Walks`, `Writes` and the others); what is demanded is spelled out in the pages of the crates (`OfWire` and the others), in
-- Demand2 and in Demand3, and what a request asks for on a page of its own.
-- Assumes nothing.
use mathlib.Core.Bool.{Bool}
use mathlib.Core.List.{List, ◌++◌}
use mathlib.Core.Logic.{◌↔◌}
use Prim.Native.Nat.{ℕ, ◌≤◌}
use lib.ListN.{length}
use Rattle.std.specs.Prelude.{Option, Result}
use Rattle.wire.specs.Le.{Bytes}
use Rattle.wire.specs.declared.refusal.Refused.{Refused}
use Rattle.wire.specs.declared.units.ByteOffset.{ByteOffset}
use Rattle.wire.specs.declared.units.Cursor.{Cursor}
use Rattle.wire.specs.declared.count.Count.{Count}
use Rattle.layout.specs.declared.facts.FormatFacts.{FormatFacts}
use Rattle.layout.specs.declared.forest.ForestLayout.{ForestLayout}
use Rattle.layout.specs.declared.scan.Scanned.{Scanned as Scan}
use Rattle.advice.specs.declared.walk.Walked.{Walked as MapWalk}
use Rattle.writer.specs.Parts.{Parts, parts_shown}
use Rattle.renderings.specs.Rendering.{Lengths, rendered_file, Lengthened, Valid}
use Rattle.promises.proofs.Calls.{ReadsCount, Scans, Walks, Writes}
use Rattle.promises.proofs.OfWire.{Wire, wire}
use Rattle.promises.proofs.OfInfo.{Info, info}
use Rattle.promises.proofs.OfRows.{Rows, rows}
use Rattle.promises.proofs.OfLayout.{Layout, layout}
use Rattle.promises.proofs.OfResolved.{Resolved, resolved}
use Rattle.promises.proofs.OfChecks.{Checks, checks}
use Rattle.promises.proofs.OfView.{View, view}
use Rattle.promises.proofs.OfKeys.{Keys, keys}
use Rattle.promises.proofs.OfAdvice.{Advice, advice}
use Rattle.promises.proofs.OfWriter.{Writer, writer}
use Rattle.promises.proofs.OfCrossing.{Crossing, crossing}
use Rattle.promises.proofs.OfVekalumist.{Vekalumist, vekalumist}
use Rattle.promises.proofs.OfText.{Text, text}
use Rattle.promises.proofs.OfWhole.{Whole, whole}
use Rattle.promises.proofs.OfPage.{Page, page}
use Rattle.promises.proofs.Demand2.{Demand2File, file_demanded, Demand2Map, map_demanded, Demand2Entries, entries_demanded, Demand2Checks, checks_demanded, MustTake, rendering_demanded}
use Rattle.promises.proofs.Demand3.{Accepts, Demand3, shortest_demanded}
use Rattle.promises.proofs.Request2.{Request2, long_counts}
use Rattle.promises.proofs.Request4.{Request4, counts_together}

-- 1. Each public function answers whatever it is given: that it does is its own proof, and here it is seen that it asks nothing of its caller, that
-- one answer, or one refusal with its number and place, is allowed, and what a refusal leaves in lent memory.
pub demand_1 : Wire × Info × Rows × Layout × Resolved × Checks × View × Keys × Advice × Whole × Writer × Text × Page × Crossing × Vekalumist
demand_1 = (wire, info, rows, layout, resolved, checks, view, keys, advice, whole, writer, text, page, crossing, vekalumist)

-- 2. The scan accepts a file, and the walk its map, exactly if the rules hold; every refusal is the first listed whose case is met; the sections of an
-- accepted file lie end to end, each node's slot is the number of earlier nodes of its kind (External or not), below its section's count, and what
-- is read of it is what its parts have. Entries read and write as defined, and the checks hold exactly if what they are for is so. And there are
-- accepted files: with hashless files allowed and no bound, every rendering of valid parts is one (of which P10 is an example, in Examples).
pub demand_2_file : (s : List ℕ) (f : FormatFacts) (allow : Bool) (bound : Option ℕ) (r : Result Scan (Refused ByteOffset)) → Scans s f allow bound r → Demand2File s f allow bound r
demand_2_file = file_demanded

pub demand_2_map : (s : List ℕ) (at : ℕ) (t₀ t : List ℕ) (r : Result MapWalk (Refused ByteOffset)) → Walks s at t₀ t r → Demand2Map s at t₀ t r
demand_2_map = map_demanded

pub demand_2_entries : Demand2Entries
demand_2_entries = entries_demanded

pub demand_2_checks : (s : List ℕ) (l : ForestLayout) (r : Result (Unit {0}) (Refused ℕ)) → Demand2Checks s l r
demand_2_checks = checks_demanded

pub demand_2_exists : (f : FormatFacts) (places : ℕ) (p : Parts) (l : Lengths) (rest : List ℕ) → Valid f places p → Lengthened p l
    → MustTake f places (rendered_file f p l ++ rest) p (length (rendered_file f p l))
demand_2_exists = rendering_demanded

-- 3. Of a file s that scan and walk accept, its map ending at e: given its parts and as much room, the writer makes a file that is accepted, shows the
-- same parts and is the shortest such; another is equally short exactly if each of its counts has its shortest form, which scan and walk tell.
pub demand_3 : (f : FormatFacts) (s : List ℕ) (places entries e : ℕ) → Accepts f places s entries e
    → (o₀ o : List ℕ) (r : Result ℕ (Refused ℕ)) → e ≤ length o₀ → Writes f (parts_shown f s) o₀ o r → Demand3 f s entries o r
demand_3 = shortest_demanded

-- Request 2. The count reader says whether a count has its shortest form, and scan and walk how many have not; both say none exactly if each count of
-- the file has its shortest form, which is exactly when the file is the shortest of its parts.
pub request_2 : Request2
request_2 = long_counts

-- Request 4. What the count reader promises is what one says that takes eight bytes, where they are left, as one word and shifts it, and nothing else.
pub request_4 : (s : List ℕ) (at : ℕ) (r : Result (Count × Cursor) (Refused ByteOffset)) → Bytes s → ReadsCount s at r ↔ Request4 s at r
request_4 = counts_together
