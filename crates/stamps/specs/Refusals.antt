-- The number of each refusal.
use Rattle.std.specs.Prelude.{ℕ}
use Rattle.stamps.specs.declared.refusal.Refusal.{Refusal}
use Rattle.stamps.specs.declared.refusal.Refusal.TheVariants.{NotInLayout, NoSession, Unlawful, ReadingBehind}
use Rattle.stamps.specs.declared.refusal.Refusal.TheVariants.{TableFull, OutboxFull, Early, End, NothingWaits, NoneFree}
use Rattle.stamps.specs.declared.refusal.Refusal.TheVariants.{NotOpen, BadLayout, ShortCommand, UnknownLetter}
use Rattle.stamps.specs.declared.refusal.Refusal.TheVariants.{LayoutMisplaced, ShortBuffer}

abbrev pub number_of : Refusal → ℕ
number_of NotInLayout = 1
number_of NoSession = 2
number_of Unlawful = 3
number_of ReadingBehind = 4
number_of TableFull = 5
number_of OutboxFull = 6
number_of Early = 7
number_of End = 8
number_of NothingWaits = 9
number_of NoneFree = 10
number_of NotOpen = 11
number_of BadLayout = 12
number_of ShortCommand = 13
number_of UnknownLetter = 14
number_of LayoutMisplaced = 15
number_of ShortBuffer = 16
