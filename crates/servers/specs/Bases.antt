-- What a percentage is measured against, as the amount of a value.
use Rattle.std.specs.Prelude.{ℕ}
use Rattle.servers.specs.declared.value.Basis.{Basis}
use Rattle.servers.specs.declared.value.Basis.TheVariants.{Part, Sheet}

abbrev pub amount_of_basis : Basis → ℕ
amount_of_basis Part = 0
amount_of_basis Sheet = 1
