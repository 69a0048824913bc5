-- How long the pieces of a line are at most.
use Rattle.std.proofs.Common.{◌≡◌, ℕ, zero, suc, ◌+◌, ◌<◌, ◌≤◌, ◌^◌, List, [], ◌∷◌, ◌++◌, length, get_or, take, decimal}
use Rattle.std.proofs.Common.{ℤ, sym, refl, ap, ◌∙◌, arith, lit<}
use lib.Signed.{mag}
use Rattle.std.specs.Fmt.{signed_decimal}
use Rattle.stamps.specs.declared.refusal.Refusal.{Refusal}
use Rattle.stamps.specs.declared.refusal.Refusal.TheVariants.{NotInLayout, NoSession, Unlawful, ReadingBehind}
use Rattle.stamps.specs.declared.refusal.Refusal.TheVariants.{TableFull, OutboxFull, Early, End, NothingWaits, NoneFree}
use Rattle.stamps.specs.declared.refusal.Refusal.TheVariants.{NotOpen, BadLayout, ShortCommand, UnknownLetter}
use Rattle.stamps.specs.declared.refusal.Refusal.TheVariants.{LayoutMisplaced, ShortBuffer}
use Rattle.stamps.specs.Refusals.{number_of}
use Rattle.std.proofs.lemmas.List.{append_assoc, append-nil, length-append, length-take-le, take_all, take_at}
use Rattle.std.proofs.lemmas.List.{take_more}
use Rattle.std.proofs.lemmas.Fmt.{length-decimal-le, length_signed_le}

-- a number below so many powers of 2 has few digits
pub digits_of_8_bits : (n : ℕ) → n < 2 ^ 8 → length (decimal n) ≤ 3
digits_of_8_bits n small = length-decimal-le 3 n (omega arith) (omega arith) (omega arith)

pub digits_of_16_bits : (n : ℕ) → n < 2 ^ 16 → length (decimal n) ≤ 5
digits_of_16_bits n small = length-decimal-le 5 n (omega arith) (omega arith) (omega arith)

pub digits_of_32_bits : (n : ℕ) → n < 2 ^ 32 → length (decimal n) ≤ 10
digits_of_32_bits n small = length-decimal-le 10 n (omega arith) (omega arith) (omega arith)

pub digits_of_47_bits : (n : ℕ) → n < 2 ^ 47 → length (decimal n) ≤ 15
digits_of_47_bits n small = length-decimal-le 15 n (omega arith) (omega arith) (omega arith)

pub digits_of_64_bits : (n : ℕ) → n < 2 ^ 64 → length (decimal n) ≤ 20
digits_of_64_bits n small = length-decimal-le 20 n (omega arith) (omega arith) (omega arith)

pub digits_signed : (z : ℤ) → mag z < 2 ^ 63 → length (signed_decimal z) ≤ 20
digits_signed z small = length_signed_le 19 z (omega arith) (omega arith)

-- the number of a refusal has at most two digits
pub number_small : (why : Refusal) → number_of why < 100
number_small NotInLayout = lit< tt
number_small NoSession = lit< tt
number_small Unlawful = lit< tt
number_small ReadingBehind = lit< tt
number_small TableFull = lit< tt
number_small OutboxFull = lit< tt
number_small Early = lit< tt
number_small End = lit< tt
number_small NothingWaits = lit< tt
number_small NoneFree = lit< tt
number_small NotOpen = lit< tt
number_small BadLayout = lit< tt
number_small ShortCommand = lit< tt
number_small UnknownLetter = lit< tt
number_small LayoutMisplaced = lit< tt
number_small ShortBuffer = lit< tt

-- pieces that are put at the end of a line, one after the other
pub ruleset pieces = (
  append_assoc,
  append-nil,
  length-append,
  length-decimal-le,
  digits_of_8_bits,
  digits_of_16_bits,
  digits_of_32_bits,
  digits_of_47_bits,
  digits_of_64_bits,
  digits_signed,
)
