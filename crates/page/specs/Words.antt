-- Format facts from five words, each a list of bytes: magic in 8 hexadecimal digits, version in 6, hashless mask and reserved mask in 2 each, and
-- the node maximum in decimal, below 2^64.
use Rattle.std.specs.Prelude.{ℕ, ◌-◌, ◌^◌, List, [], ◌∷◌, Option, Some, None, Result, Ok, Err}
use Rattle.wire.specs.Table.{pick}
use Rattle.layout.specs.declared.facts.FormatFacts.{FormatFacts}
use Rattle.text.specs.Digits.{hex_byte, hex_wrong, number_of_word}
use Rattle.page.specs.declared.words.WrongWords.{WrongWords}
use Rattle.page.specs.declared.words.WrongWords.TheVariants.{Magic, Version, Hashless, Reserved, Maximum}

-- Stand-in facts, where no words are given: magic `MAST`, version 0 0 2, hashless mask 2, reserved mask 0xFC, node maximum 2^30 - 1.
abbrev pub stand_in : FormatFacts
stand_in =
    record {
      magic = 77 ∷ 65 ∷ 83 ∷ 84 ∷ [];
      version = 0 ∷ 0 ∷ 2 ∷ [];
      hashless = 2;
      reserved = 252;
      max_nodes = 2 ^ 30 - 1;
    }

-- what the words say
unfoldable pub facts_of : List ℕ → List ℕ → List ℕ → List ℕ → ℕ → FormatFacts
facts_of magic version hashless reserved most =
    record {
      magic = hex_byte magic 0 ∷ hex_byte magic 2 ∷ hex_byte magic 4 ∷ hex_byte magic 6 ∷ [];
      version = hex_byte version 0 ∷ hex_byte version 2 ∷ hex_byte version 4 ∷ [];
      hashless = hex_byte hashless 0;
      reserved = hex_byte reserved 0;
      max_nodes = most;
    }

-- a node maximum that is none is wrong
abbrev pub with_maximum : (ℕ → FormatFacts) → Option ℕ → Result FormatFacts WrongWords
with_maximum facts None = Err Maximum
with_maximum facts (Some n) = Ok (facts n)

-- the facts, or the first wrong word
unfoldable pub words_check : List ℕ → List ℕ → List ℕ → List ℕ → List ℕ → Result FormatFacts WrongWords
words_check magic version hashless reserved most =
    pick (hex_wrong 8 magic) (Err Magic)
    (pick (hex_wrong 6 version) (Err Version)
    (pick (hex_wrong 2 hashless) (Err Hashless)
    (pick (hex_wrong 2 reserved) (Err Reserved)
    (with_maximum (facts_of magic version hashless reserved) (number_of_word most)))))
