-- Percentages.
use Rattle.std.specs.Prelude.{◌≡◌, ℕ, Bool, true, false, Ok, Err, Result, IsTrue, nat_le, refl}
use Rattle.std.proofs.lemmas.Bool.{leb-true}
use Rattle.stamps.specs.declared.refusal.Refusal.{Refusal}
use Rattle.stamps.specs.declared.refusal.Refusal.TheVariants.{Unlawful}
use Rattle.servers.specs.declared.percent.Percent.{Percent}

-- so many hundredths, of which there are at most 10,000
abbrev pub percent_of : (hundredths : ℕ) → IsTrue (nat_le hundredths 10000) → Percent
percent_of hundredths few = record { hundredths = hundredths; in_range = leb-true hundredths 10000 few }

-- by the outcome of the test
abbrev pub percent_if : (hundredths : ℕ) (few : Bool) → nat_le hundredths 10000 ≡ few → Result Percent Refusal
percent_if hundredths true is = Ok (percent_of hundredths is)
percent_if hundredths false is = Err Unlawful

abbrev pub checked_percent : ℕ → Result Percent Refusal
checked_percent hundredths = percent_if hundredths (nat_le hundredths 10000) refl
