-- An answer as one signed number.
use Rattle.std.specs.Prelude.{ℕ, List, ℤ, Result}
use Rattle.stamps.specs.declared.refusal.Refusal.{Refusal}
use Rattle.stamps.specs.Outside.{signed_number}

-- what was answered, or minus the refusal's number, and the buffer after it
abbrev pub with_signed_number : Result ℕ Refusal × List ℕ → ℤ × List ℕ
with_signed_number (answer, buffer) = (signed_number answer, buffer)
