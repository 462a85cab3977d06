-- No two refusals have one number.
-- Assumes nothing.
use mathlib.Core.Path.{◌≡◌, refl, sym, ap, ◌∙◌}
use mathlib.Core.List.{List, [], ◌∷◌}
use Prim.Native.Nat.{ℕ, ◌-◌}
use lib.ListN.{get_or}
use Rattle.wire.specs.Refusals.{number_of}
use Rattle.wire.specs.declared.refusal.Refusal.{Refusal}
use Rattle.wire.specs.declared.refusal.Refusal.TheVariants.{Short, Magic, Version, Flags, Hashless, Overflow, TooMany, Budget, Tag, Payload, Externals, Index, RootId, NoHash, ChildRange, Forward, Order, Element, Duplicate, Room, Format, NotCanonical, Parts}

-- the refusals by their numbers, from 1 on
abbrev refusals : List Refusal
refusals =
    Short
    ∷ Magic
    ∷ Version
    ∷ Flags
    ∷ Hashless
    ∷ Overflow
    ∷ TooMany
    ∷ Budget
    ∷ Tag
    ∷ Payload
    ∷ Externals
    ∷ Index
    ∷ RootId
    ∷ NoHash
    ∷ ChildRange
    ∷ Forward
    ∷ Order
    ∷ Element
    ∷ Duplicate
    ∷ Room
    ∷ Format
    ∷ NotCanonical
    ∷ Parts
    ∷ []

abbrev pub refusal_of : ℕ → Refusal
refusal_of n = get_or refusals (n - 1) Short

pub refusal_again : (why : Refusal) → refusal_of (number_of why) ≡ why
refusal_again Short = refl
refusal_again Magic = refl
refusal_again Version = refl
refusal_again Flags = refl
refusal_again Hashless = refl
refusal_again Overflow = refl
refusal_again TooMany = refl
refusal_again Budget = refl
refusal_again Tag = refl
refusal_again Payload = refl
refusal_again Externals = refl
refusal_again Index = refl
refusal_again RootId = refl
refusal_again NoHash = refl
refusal_again ChildRange = refl
refusal_again Forward = refl
refusal_again Order = refl
refusal_again Element = refl
refusal_again Duplicate = refl
refusal_again Room = refl
refusal_again Format = refl
refusal_again NotCanonical = refl
refusal_again Parts = refl

pub number_injective : (a b : Refusal) → number_of a ≡ number_of b → a ≡ b
number_injective a b e = sym (refusal_again a) ∙ ap refusal_of e ∙ refusal_again b
