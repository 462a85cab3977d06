-- The refusals and their numbers, as the format's table has them.
use Rattle.std.specs.Prelude.{ℕ}
use Rattle.wire.specs.declared.refusal.Refusal.{Refusal}
use Rattle.wire.specs.declared.refusal.Refusal.TheVariants.{Short, Magic, Version, Flags, Hashless, Overflow, TooMany, Budget, Tag, Payload, Externals, Index, RootId, NoHash, ChildRange, Forward, Order, Element, Duplicate, Room, Format, NotCanonical, Parts}

abbrev pub SHORT : ℕ
SHORT = 1

abbrev pub MAGIC : ℕ
MAGIC = 2

abbrev pub VERSION : ℕ
VERSION = 3

abbrev pub FLAGS : ℕ
FLAGS = 4

abbrev pub HASHLESS : ℕ
HASHLESS = 5

abbrev pub OVERFLOW : ℕ
OVERFLOW = 6

abbrev pub TOO-MANY : ℕ
TOO-MANY = 7

abbrev pub BUDGET : ℕ
BUDGET = 8

abbrev pub TAG : ℕ
TAG = 9

abbrev pub PAYLOAD : ℕ
PAYLOAD = 10

abbrev pub EXTERNALS : ℕ
EXTERNALS = 11

abbrev pub INDEX : ℕ
INDEX = 12

abbrev pub ROOT-ID : ℕ
ROOT-ID = 13

abbrev pub NO-HASH : ℕ
NO-HASH = 14

abbrev pub CHILD-RANGE : ℕ
CHILD-RANGE = 15

abbrev pub FORWARD : ℕ
FORWARD = 16

abbrev pub ORDER : ℕ
ORDER = 17

abbrev pub ELEMENT : ℕ
ELEMENT = 18

abbrev pub DUPLICATE : ℕ
DUPLICATE = 19

abbrev pub ROOM : ℕ
ROOM = 20

abbrev pub FORMAT : ℕ
FORMAT = 21

abbrev pub NOT-CANONICAL : ℕ
NOT-CANONICAL = 22

abbrev pub PARTS : ℕ
PARTS = 23

abbrev pub number_of : Refusal → ℕ
number_of Short = SHORT
number_of Magic = MAGIC
number_of Version = VERSION
number_of Flags = FLAGS
number_of Hashless = HASHLESS
number_of Overflow = OVERFLOW
number_of TooMany = TOO-MANY
number_of Budget = BUDGET
number_of Tag = TAG
number_of Payload = PAYLOAD
number_of Externals = EXTERNALS
number_of Index = INDEX
number_of RootId = ROOT-ID
number_of NoHash = NO-HASH
number_of ChildRange = CHILD-RANGE
number_of Forward = FORWARD
number_of Order = ORDER
number_of Element = ELEMENT
number_of Duplicate = DUPLICATE
number_of Room = ROOM
number_of Format = FORMAT
number_of NotCanonical = NOT-CANONICAL
number_of Parts = PARTS
