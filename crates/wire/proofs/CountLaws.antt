-- The laws of counts, of what is read and written.
--     written_reads_back   what was written reads back, with the place after it
--     read_is_form         bytes that read as v are v's form of their length
--     form_reads           the form of v of any valid length reads as v
--     lengths_exactly      v has a form of a length exactly if it is from the shortest to 9
--     one_form             two strings of one length that read as v are the same
--     none_shorter         no bytes that read as v are fewer than those of the shortest form
-- Assumes nothing.
use mathlib.Core.Path.{◌≡◌, sym, ap, ◌∙◌}
use mathlib.Core.List.{List, [], ◌∷◌, ◌++◌}
use mathlib.Core.Logic.{◌↔◌}
use Prim.Native.Nat.{ℕ, ◌+◌, ◌^◌, ◌≤◌, ◌<◌}
use native.Mathlib.Nat.{zero-add}
use native.Mathlib.Omega.{arith}
use borrow.Author.Tests.{ltb-false}
use lib.ListN.{length, get_or, take, drop, length-append}
use lib.Seq.{sets-eq, take_at, take-length, drop-append_seam, length-take-le}
use Rattle.wire.specs.Table.{At}
use Rattle.wire.specs.Le.{Bytes}
use Rattle.wire.specs.Counts.{count_of, count_length, counted, count_rule, count_outcome, Reads, shortest_len, Form, count_form, count_bytes, with_count}
use Rattle.wire.specs.declared.count.Count.{Count}
use Rattle.wire.proofs.Tables.{accepted_none}
use Rattle.wire.proofs.Counts.{count_whole, shortest_form, write_yes}
use Rattle.wire.proofs.Forms.{FormAt, read_of_form, form_of_read, length_form, shortest_least, longer_forms}

-- ---- what is read is a form

pub form_reads : (s : List ℕ) (at len v : ℕ) → FormAt s at len v → Reads s at len v
unfolding counted
form_reads s at len v f =
    let r = read_of_form s at len v f in
    rw (r.0, r.1) at (count_whole s at (rw r.0 f.whole))

pub read_is_form : (s : List ℕ) (at len v : ℕ) → Bytes s → Reads s at len v → FormAt s at len v
unfolding count_outcome counted
read_is_form s at len v bs e =
    let k = accepted_none (count_rule s at ∷ []) (record { value = counted s at; next = at + (counted s at).len }) (record { value = count_of len v; next = at + len }) e in
    let n : count_length (get_or s at 0) ≡ len = ap (λ (x : At Count). x.value.len) k.1 in
    let value = ap (λ (x : At Count). x.value.value) k.1 in
    let whole : at + len ≤ length s = rw n at (ltb-false (length s) (at + count_length (get_or s at 0)) k.0.0) in
    rw (rw n at value) at (form_of_read s at len bs n whole)

-- ---- the lengths of a value's forms

pub lengths_exactly : (len v : ℕ) → v < 2 ^ 64 → Form len v ↔ ((shortest_len v ≤ len) × (len ≤ 9))
lengths_exactly len v h = (λ f. (shortest_least len v f, f.most), λ l. longer_forms len v h l.0 l.1)

pub none_shorter : (s : List ℕ) (at len v : ℕ) → Bytes s → Reads s at len v → shortest_len v ≤ len
none_shorter s at len v bs e = shortest_least len v (read_is_form s at len v bs e).form

-- the bytes bs, all of them, read as v
abbrev pub ReadsAs : List ℕ → ℕ → Type 0
ReadsAs bs v = Reads bs 0 (length bs) v

pub one_form : (bs cs : List ℕ) (v : ℕ) → Bytes bs → Bytes cs → length bs ≡ length cs → ReadsAs bs v → ReadsAs cs v → bs ≡ cs
one_form bs cs v hb hc l eb ec = the_form bs hb eb ∙ ap (λ n. count_form n v) l ∙ sym (the_form cs hc ec)
  where
    the_form : (bs : List ℕ) → Bytes bs → ReadsAs bs v → bs ≡ count_form (length bs) v
    the_form bs h e = rw (zero-add, take-length) at (read_is_form bs 0 (length bs) v h e).bytes

-- ---- written, then read

-- a form between other bytes
form_between : (a b : List ℕ) (len v : ℕ) → Form len v → FormAt (a ++ count_form len v ++ b) (length a) len v
form_between a b len v f =
    let n = length_form len v f in
    let m : length (a ++ count_form len v) ≡ length a + len = rw (length-append, n) in
    record {
      form = f;
      whole = rw length-append (omega arith);
      bytes = rw (take_at (a ++ count_form len v) b (length a + len) m, drop-append_seam a (count_form len v));
    }

-- read back what was written, wherever it has room
pub written_reads_back : (out : List ℕ) (at v : ℕ) → v < 2 ^ 64 → at + shortest_len v ≤ length out → Reads (with_count out at v) at (shortest_len v) v
written_reads_back out at v w h =
    let f = shortest_form v w in
    let a = take at out in
    let b = drop (at + length (count_bytes v)) out in
    let n : length a ≡ at = length-take-le at out (omega arith) in
    let stored : with_count out at v ≡ a ++ count_bytes v ++ b =
    (write_yes out at v h).1 ∙ sets-eq (count_bytes v) out at (rw (length_form (shortest_len v) v f) h) in
    rw stored (rw n at (form_reads (a ++ count_bytes v ++ b) (length a) (shortest_len v) v (form_between a b (shortest_len v) v f)))
