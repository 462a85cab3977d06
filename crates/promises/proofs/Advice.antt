-- The advice map: the walk accepts exactly if no rule of its table is met, every refusal is that of the first rule met, and the key table
-- afterwards is exactly as said; over such a table lookup says absent exactly if no entry has the key, what it finds are the values of the entry
-- that has it, and the key of an entry is found there, or refused at the first of its values that is no element; over any table it gives values inside the file, and
-- compares at most as many keys as n has bits. With as many places as are needed the walk never says ROOM. By place the table gives the entries of
-- the map, each of them, keys rising.
-- Assumes nothing.
use mathlib.Core.Path.{◌≡◌, sym, ap, ◌∙◌}
use mathlib.Core.Bool.{false}
use mathlib.Core.List.{List}
use mathlib.Core.Logic.{◌↔◌}
use Prim.Native.Nat.{ℕ, ◌+◌, ◌*◌, ◌^◌, ◌≤◌, ◌<◌}
use lib.ListN.{length}
use lib.Seq.{slice}
use Rattle.std.specs.Prelude.{Some, None, Result, Ok, Err}
use Rattle.std.specs.declared.cmp.Ordering.TheVariants.{Less}
use Rattle.wire.specs.Table.{accepted, NoneMet, FirstMet}
use Rattle.wire.specs.Refusals.{ELEMENT, number_of}
use Rattle.wire.specs.declared.refusal.Refusal.{Refusal}
use Rattle.wire.specs.declared.refusal.Refusal.TheVariants.{Element, Room}
use Rattle.wire.specs.declared.refusal.Refused.{Refused}
use Rattle.wire.specs.declared.units.ByteOffset.{ByteOffset}
use Rattle.wire.specs.declared.units.Cursor.{Cursor}
use Rattle.wire.proofs.Tables.{none_accepted, rule_first}
use Rattle.wire.proofs.Answers.{place}
use Rattle.wire.specs.Counts.{long_ones}
use Rattle.wire.specs.Words.{word_order}
use Rattle.keys.specs.Keys.{seen_key}
use Rattle.advice.specs.Walk.{shown_keys, Walked, map_counts, walked, first_entry, map_rules, walk_outcome, key_table, Risen, EntryOf}
use Rattle.advice.specs.Lookup.{element_rules, found, absent, lookup_outcome, bit_length}
use Rattle.advice.specs.Shown.{shown_walk, shown_lookup}
use Rattle.advice.specs.declared.walk.Walked.{Walked as MapWalk}
use Rattle.advice.specs.declared.walk.Values.{Values}
use Rattle.advice.specs.declared.lookup.MapLookup.{MapLookup}
use Rattle.advice.specs.Table.{key_outcome, map_entry_outcome}
use Rattle.advice.specs.declared.table.MapEntry.{MapEntry as EntryRead}
use Rattle.advice.proofs.Answers.{walk_one, lookup_one, entry_one}
use Rattle.advice.proofs.Accepts.{walk_accepts, walk_refuses}
use Rattle.advice.proofs.Halving.{found_inside, lookup_bits}
use Rattle.advice.proofs.Risen.{walk_risen, absent_exactly}
use Rattle.advice.proofs.Found as looked_up
use Rattle.advice.proofs.TableLaws as placed
use Rattle.advice.proofs.TableLaws.{never_room, key_read, entry_read, entry_is}
use Rattle.promises.proofs.Terms.{exactly, one_by}
use Rattle.promises.proofs.Calls.{Walks, LooksUp, GivesPart, ReadsKey, ReadsMapEntry, NeedsPlaces}

-- ---- the walk

module _ (s : List ℕ) (at : ℕ) (t₀ t : List ℕ) (r : Result MapWalk (Refused ByteOffset)) (promised : Walks s at t₀ t r) where
  abbrev said : ℕ → Cursor → ℕ → Walked
  said n c long = record { entries = n; end = c.at.0; long = long }

  pub accepts : (n : ℕ) (c : Cursor) (long : ℕ) → (r ≡ Ok (record { entries = n; end = c; long_counts = long })) ↔ (NoneMet (map_rules s at (length t₀)) × (walked s at ≡ said n c long))
  accepts n c long = exactly shown_walk walk_one r _ promised.answer (walk_accepts (length t₀) s at (said n c long))

  pub refuses : (why : Refusal) (p : ByteOffset) → (r ≡ Err (record { why = why; at = p })) ↔ FirstMet (map_rules s at (length t₀)) (number_of why) p.0
  refuses why p = exactly shown_walk walk_one r _ promised.answer (walk_refuses (length t₀) s at (number_of why) p.0)

  -- with as many places as are needed, or more, it never says ROOM
  pub room_enough : (k : ℕ) → NeedsPlaces s at k → k ≤ length t₀ → (p : ByteOffset) → r ≡ Err (record { why = Room; at = p }) → ⊥
  room_enough k needed h p e = never_room (length t₀) s at p.0 (rw needed at h) (sym promised.answer ∙ ap shown_walk e)

  -- ---- over the table that an accepted walk left
  module _ (n : ℕ) (c : Cursor) (long : ℕ) (taken : r ≡ Ok (record { entries = n; end = c; long_counts = long })) where
    walked' : walk_outcome (length t₀) s at ≡ accepted (said n c long)
    walked' = sym promised.answer ∙ ap shown_walk taken

    -- the number of long ones among the map's count and its lengths
    pub long_counted : long ≡ long_ones (map_counts s at)
    long_counted = sym (ap (λ (w : Walked). w.long) ((accepts n c long).0 taken).1)

    pub keys_risen : Risen s t n
    keys_risen = rw promised.table (walk_risen s at t₀ (said n c long) walked')

    -- ---- by place: the key and the entry there
    module _ (i : ℕ) (h : i < n) where
      pub key_there : (x : Result (List ℕ) (Refused ℕ)) → ReadsKey s t i x → (word : List ℕ) × ((x ≡ Ok word) × ((from : ℕ) × ((len : ℕ) × EntryOf s at n word from len)))
      key_there x read =
          let e = ap (λ (u : List ℕ). key_outcome s u i) promised.table ∙ key_read s at t₀ (said n c long) walked' i h in
          (_, (one_by _ x (Ok _) read (sym e), (_, (_, entry_is s at t₀ (said n c long) walked' i h))))

      pub entry_there : (x : Result EntryRead (Refused ℕ)) → ReadsMapEntry s t i x → (e : EntryRead) × ((x ≡ Ok e) × EntryOf s at n e.key e.values.at.0 e.values.len)
      entry_there x read =
          let e = ap (λ (u : List ℕ). map_entry_outcome s u i) promised.table ∙ entry_read s at t₀ (said n c long) walked' i h in
          (_, (entry_one _ x (Ok _) read (sym e), entry_is s at t₀ (said n c long) walked' i h))

    -- each entry of the map has its place
    pub entry_placed : (key : List ℕ) (from len : ℕ) → EntryOf s at n key from len
        → (i : ℕ) × ((i < n) × ((x : Result EntryRead (Refused ℕ)) → ReadsMapEntry s t i x → x ≡ Ok (record { key = key; values = record { at = place from; len = len } })))
    entry_placed key from len is =
        let p = placed.entry_placed s at t₀ (said n c long) walked' key from len is in
        (p.0, (p.1, λ x read. entry_one _ x (Ok _) read (sym (ap (λ (u : List ℕ). map_entry_outcome s u p.0) promised.table ∙ p.2))))

    -- keys rise with their places
    pub keys_rise : (i j : ℕ) (a b : List ℕ) → ReadsKey s t i (Ok a) → ReadsKey s t j (Ok b) → i < j → j < n → word_order a b ≡ Less
    keys_rise i j a b x y h k = placed.keys_rise s t n keys_risen i j a b h k (sym x) (sym y)

    -- ---- lookup
    module _ (key : List ℕ) (x : Result MapLookup (Refused ℕ)) (looked : LooksUp s t n key x) where
      same : lookup_outcome s t n key ≡ lookup_outcome s (key_table s at t₀) n key
      same = ap (λ (u : List ℕ). lookup_outcome s u n key) promised.table

      -- absent is said exactly if no entry has the key
      pub absent_if_none : ((k : ℕ) × (x ≡ Ok (record { values = None; compared = k }))) ↔ (seen_key (shown_keys s (first_entry s at) n) key ≡ false)
      absent_if_none =
          let law = absent_exactly s at t₀ (said n c long) walked' key in (
            λ k. law.0 (k.0, sym same ∙ sym looked ∙ ap shown_lookup k.1),
            λ h. let k = law.1 h in (k.0, lookup_one _ x (Ok _) looked (sym (same ∙ k.1))),
          )

      -- what is found are the values of the entry that has the key
      pub found_values : (v : Values) (k : ℕ) → x ≡ Ok (record { values = Some v; compared = k }) → EntryOf s at n key v.at.0 v.len
      found_values v k is = looked_up.found_entry s at t₀ (said n c long) walked' key v.at.0 v.len k (sym same ∙ sym looked ∙ ap shown_lookup is)

      -- and the key of an entry is found at its values if they are elements, and else refused with ELEMENT at the first that is none
      pub entry_found : (from len : ℕ) → EntryOf s at n key from len
          → (NoneMet (element_rules s from len) → (k : ℕ) × (x ≡ Ok (record { values = Some (record { at = place from; len = len }); compared = k })))
          × ((p : ℕ) → FirstMet (element_rules s from len) ELEMENT p → x ≡ Err (record { why = Element; at = p }))
      entry_found from len e =
          let law = looked_up.entry_found s at t₀ (said n c long) walked' key from len e in
          let v = found from len law.0 in (
            λ none. (law.0, lookup_one _ x (Ok _) looked (sym (same ∙ law.1 ∙ none_accepted (element_rules s from len) v none))),
            λ p first. lookup_one _ x (Err _) looked (sym (same ∙ law.1 ∙ rule_first (element_rules s from len) v ELEMENT p first)),
          )

-- ---- lookup over any table

module _ (s t : List ℕ) (n : ℕ) (key : List ℕ) (x : Result MapLookup (Refused ℕ)) (looked : LooksUp s t n key x) where
  -- what is found lies inside the file, and the second call gives those bytes
  module _ (v : Values) (compared : ℕ) (is : x ≡ Ok (record { values = Some v; compared = compared })) where
    answered : accepted (found v.at.0 v.len compared) ≡ lookup_outcome s t n key
    answered = sym (ap shown_lookup is) ∙ looked

    pub values_inside : v.at.0 + 8 * v.len ≤ length s
    values_inside = found_inside s t n key v.at.0 v.len compared answered

    pub values_part_lem : (b : List ℕ) → GivesPart s t n key b → b ≡ slice v.at.0 (v.at.0 + 8 * v.len) s
    values_part_lem b p = rw (← answered) at p

    pub found_compares : n < 2 ^ 64 → compared ≤ bit_length n
    found_compares h = lookup_bits s t n key (found v.at.0 v.len compared) h (sym answered)

  pub absent_compares : (compared : ℕ) → x ≡ Ok (record { values = None; compared = compared }) → n < 2 ^ 64 → compared ≤ bit_length n
  absent_compares compared is h = lookup_bits s t n key (absent compared) h (sym looked ∙ ap shown_lookup is)
