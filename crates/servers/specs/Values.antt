-- Values: the kind and the amount of each case.
use Rattle.std.specs.Prelude.{ℕ, ◌^◌, if◌then◌else◌, ◌&&◌, Ok, Err, Result, ◌==◌, nat_lt}
use Rattle.std.specs.Result.{result_map_both}
use Rattle.stamps.specs.declared.refusal.Refusal.{Refusal}
use Rattle.stamps.specs.declared.refusal.Refusal.TheVariants.{Unlawful}
use Rattle.servers.specs.Bases.{amount_of_basis}
use Rattle.servers.specs.Percents.{checked_percent}
use Rattle.servers.specs.declared.value.Basis.TheVariants.{Part, Sheet}
use Rattle.servers.specs.declared.value.Value.{Value}
use Rattle.servers.specs.declared.value.Value.TheVariants.{Gone, Price, Percent, Basis}

abbrev pub amount_of : Value → ℕ
amount_of Gone = 0
amount_of (Price cents) = cents
amount_of (Percent percent) = percent.hundredths
amount_of (Basis basis) = amount_of_basis basis

-- the value of a kind and an amount
abbrev pub value_from : ℕ → ℕ → Result Value Refusal
value_from kind amount =
    if kind == 0 && amount == 0 then Ok Gone
    else if kind == 1 && nat_lt amount (2 ^ 32) then Ok (Price amount)
    else if kind == 2 then result_map_both Percent (λ why. why) (checked_percent amount)
    else if kind == 3 && amount == 0 then Ok (Basis Part)
    else if kind == 3 && amount == 1 then Ok (Basis Sheet)
    else Err Unlawful
