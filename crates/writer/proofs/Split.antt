-- The writer's table is the stages' segments, one after the other; and what they accept fits.
-- Assumes nothing.
use mathlib.Core.Path.{◌≡◌, refl, sym, ap, ◌∙◌}
use mathlib.Core.Bool.{Bool, true, false, not}
use mathlib.Core.List.{List, [], ◌++◌, append_assoc}
use Prim.Native.Nat.{ℕ, ◌-◌}
use lib.Dec.{eqb}
use lib.ListN.{length, drop}
use borrow.Author.Tests.{eqb-true}
use Rattle.wire.specs.Table.{Rule, Outcome, refused, accepted, first_met, ◌>>=◌}
use Rattle.wire.proofs.Tables.{accepted_none, none_parts}
use Rattle.wire.proofs.Stages.{in_turn, in_the_end}
use Rattle.layout.specs.Facts.{share}
use Rattle.layout.specs.Scan.{words_rules, externals}
use Rattle.layout.specs.declared.facts.FormatFacts.{FormatFacts}
use Rattle.writer.specs.Parts.{Parts}
use Rattle.writer.specs.Writer.{key_rules, written_file, writer_rules, write_outcome, output_of, output_after}
use Rattle.writer.specs.Inner.{head_rules, part_rules, room_rules, words_outcome, fit_outcome, file_size, Fitting, Numbered}
use Rattle.writer.proofs.Sizes.{length-file}

module _ (f : FormatFacts) (p : Parts) where
  abbrev size : ℕ
  size = length (written_file f p)

  abbrev parts : ℕ → List Rule
  parts x =
      part_rules (share p.flags f.hashless) (length p.words - x) x (length p.external) (length p.hashes) (length p.keys) (length p.values) p.lengths

  abbrev keys : List Rule
  keys = key_rules 0 [] p.keys p.lengths

  -- all rules before those of the room
  abbrev fit_rules : List Rule
  fit_rules = head_rules f p.flags (length p.words) ++ (words_rules 1 0 p.words ++ (parts (externals p.words) ++ keys))

  fit_flat : first_met fit_rules (externals p.words) ≡ fit_outcome f p
  unfolding fit_outcome words_outcome
  fit_flat =
      in_turn (head_rules f p.flags (length p.words)) tt (λ _. words_rules 1 0 p.words ++ (parts (externals p.words) ++ keys)) (λ _. externals p.words) _
      (λ _. in_turn (words_rules 1 0 p.words) (externals p.words) (λ x. parts x ++ keys) (λ x. x) _
      (λ x. in_turn (parts x) tt (λ _. keys) (λ _. x) _ (λ _. in_the_end keys tt (λ _. x))))

  table : (room : ℕ) → writer_rules f p room ≡ fit_rules ++ room_rules size room
  unfolding writer_rules head_rules part_rules room_rules
  table room =
      ap (λ (l : List Rule). head_rules f p.flags (length p.words) ++ l)
      (sym (append_assoc (words_rules 1 0 p.words) (parts (externals p.words) ++ keys) (room_rules size room)
      ∙ ap (λ (l : List Rule). words_rules 1 0 p.words ++ l) (append_assoc (parts (externals p.words)) keys (room_rules size room))))

  pub split : (room : ℕ) → write_outcome f p room ≡ (fit_outcome f p >>= (λ _. first_met (room_rules size room) size))
  unfolding write_outcome
  split room =
      ap (λ (l : List Rule). first_met l size) (table room)
      ∙ in_turn fit_rules (externals p.words) (λ _. room_rules size room) (λ _. size) (λ _. first_met (room_rules size room) size) (λ _. refl)
      ∙ ap (λ (o : Outcome ℕ). o >>= (λ _. first_met (room_rules size room) size)) fit_flat

  -- what is judged before the size
  pub fitting : (x : ℕ) → fit_outcome f p ≡ accepted x → Fitting p x
  unfolding part_rules
  fitting x e =
      let k = accepted_none fit_rules (externals p.words) x (fit_flat ∙ e) in
      let after_head = (none_parts (head_rules f p.flags (length p.words)) _ k.0).1 in
      let after_words = none_parts (words_rules 1 0 p.words) _ after_head in
      let lengths = (none_parts (parts (externals p.words)) keys after_words.1).0 in
      record { words = after_words.0; external = sym k.1; keys = equal _ _ lengths.1.1.0; values = equal _ _ lengths.1.1.1.0 }
    where
      equal : (a b : ℕ) → not (eqb a b) ≡ false → a ≡ b
      equal a b n = eqb-true a b (turned (eqb a b) n)
        where
          turned : (t : Bool) → not t ≡ false → t ≡ true
          turned true q = refl
          turned false q = cc

  module _ (out : List ℕ) where
    -- a refusal before the size stands
    pub stopped : {n place : ℕ} → refused n place ≡ fit_outcome f p → refused n place ≡ write_outcome f p (length out)
    unfolding ◌>>=◌
    stopped e = ap (λ (o : Outcome ℕ). o >>= (λ _. first_met (room_rules size (length out)) size)) e ∙ sym (split (length out))

    -- after it, the room decides
    pub decided : {x : ℕ} {r : Outcome ℕ} → accepted x ≡ fit_outcome f p → length f.magic ≡ 4 → length f.version ≡ 3 → Numbered p
        → r ≡ first_met (room_rules (file_size 8 p x) (length out)) (file_size 8 p x) → r ≡ write_outcome f p (length out)
    unfolding ◌>>=◌
    decided {x} e magic version numbered said =
        rw (← length-file f p x (fitting x (sym e)) magic version numbered) at said
        ∙ ap (λ (o : Outcome ℕ). o >>= (λ _. first_met (room_rules size (length out)) size)) e ∙ sym (split (length out))

    -- what the output is then
    pub as_it_was : {n place : ℕ} → refused n place ≡ write_outcome f p (length out) → out ≡ output_after f p out
    unfolding output_after
    as_it_was e = ap (output_of (written_file f p) out) e

    pub overwritten : {n : ℕ} {file : List ℕ} → accepted n ≡ write_outcome f p (length out) → file ≡ written_file f p → file ++ drop n out ≡ output_after f p out
    unfolding output_after
    overwritten {n} e w = ap (λ (l : List ℕ). l ++ drop n out) w ∙ ap (output_of (written_file f p) out) e
