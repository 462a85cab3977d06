-- The small program: from the words of its command and the bytes of its input to what it says, and where. The words come as one list of bytes,
-- in which each is ended by a zero byte; no word of a command holds one.
use Rattle.std.specs.Prelude.{ℕ, zero, suc, ◌+◌, Bool, List, [], ◌∷◌, ◌++◌, Result, Ok, Err, eqb, length, drop, is_err}
use Rattle.wire.specs.Table.{pick}
use Rattle.layout.specs.declared.facts.FormatFacts.{FormatFacts}
use Rattle.text.specs.Text.{bytes}
use Rattle.text.specs.Marks.{before, past}
use Rattle.page.specs.declared.words.WrongWords.{WrongWords}
use Rattle.page.specs.declared.words.WrongWords.TheVariants.{Count, Magic, Version, Hashless, Reserved, Maximum}
use Rattle.page.specs.declared.program.Said.{Said}
use Rattle.page.specs.declared.program.Said.TheVariants.{Output, Error}
use Rattle.page.specs.Words.{stand_in, words_check}
use Rattle.page.specs.Answer.{answer_text}

-- ---- the words

-- word k, counted from 0
unfoldable pub word_at : ℕ → List ℕ → List ℕ
word_at zero s = before 0 s
word_at (suc k) s = word_at k (past 0 s)

-- how many words there are: as many as zeros
unfoldable pub word_count : List ℕ → ℕ
word_count [] = 0
word_count (b ∷ s) = pick (eqb b 0) (1 + word_count s) (word_count s)

-- ---- the facts: the stand-in ones of no word, what five words say, and none of any other number of words, which is wrong

unfoldable pub command_check : List ℕ → Result FormatFacts WrongWords
command_check words =
    pick (eqb (word_count words) 0) (Ok stand_in)
    (pick (eqb (word_count words) 5) (words_check (word_at 0 words) (word_at 1 words) (word_at 2 words) (word_at 3 words) (word_at 4 words))
    (Err Count))

-- the words are wrong, so that the input is not asked for
unfoldable pub command_wrong : List ℕ → Bool
command_wrong words = is_err (command_check words)

-- ---- the complaints

unfoldable pub complaint_text : WrongWords → List ℕ
complaint_text Count = bytes "mast_layout: give no words, or five: MAGIC VERSION HASHLESS RESERVED MAXIMUM\n"
complaint_text Magic = bytes "mast_layout: the magic is not 8 hexadecimal digits\n"
complaint_text Version = bytes "mast_layout: the version is not 6 hexadecimal digits\n"
complaint_text Hashless = bytes "mast_layout: the hashless mask is not 2 hexadecimal digits\n"
complaint_text Reserved = bytes "mast_layout: the reserved mask is not 2 hexadecimal digits\n"
complaint_text Maximum = bytes "mast_layout: the node maximum is not a decimal number below 2^64\n"

-- ---- what is said

-- standard output, or standard error
pub data Stream : Type 0 where
  output : Stream
  error : Stream

pub record Saying : Type 0 where
  pub stream : Stream
  pub text : List ℕ

-- how many places the program's key table has
abbrev pub places : ℕ
places = 2048

-- a complaint where the words are wrong; else the answer for the input, under the facts of the words
abbrev pub saying_of : Result FormatFacts WrongWords → List ℕ → Saying
saying_of (Ok facts) input = record { stream = output; text = answer_text facts places input }
saying_of (Err wrong) input = record { stream = error; text = complaint_text wrong }

unfoldable pub program_says : List ℕ → List ℕ → Saying
program_says words input = saying_of (command_check words) input

-- as the program's function answers it: the stream, and how many bytes of the lent buffer
abbrev pub said_on : Stream → ℕ → Said
said_on output n = Output n
said_on error n = Error n

abbrev pub said : Saying → Said
said x = said_on x.stream (length x.text)

-- the lent buffer: the text, and the rest as it was
abbrev pub text_first : List ℕ → List ℕ → List ℕ
text_first text out = text ++ drop (length text) out
