-- What clock rules and kinds of mark answer to plain numbers.
use Rattle.std.specs.Prelude.{ℕ, ℤ, pos, neg_ℤ, Ok, Err, Result, List}
use Rattle.stamps.specs.declared.refusal.Refusal.{Refusal}
use Rattle.stamps.specs.Refusals.{number_of}
use Rattle.stamps.specs.Checks.{checked_stamp, checked_reading, checked_site, checked_row}
use Rattle.stamps.specs.Clocks.{Rule}
use Rattle.stamps.specs.Rows.{PerSite}
use Rattle.stamps.specs.Kinds.{Kind}

-- the next step with what a check has passed, or its refusal
abbrev pub and_then : {A B : Type 0} → Result A Refusal → (A → Result B Refusal) → Result B Refusal
and_then (Ok x) next = next x
and_then (Err why) next = Err why

abbrev pub stamp_from : Rule → ℕ → ℕ → ℕ → Result ℕ Refusal
stamp_from rule last reading dependency =
    and_then (checked_stamp last) (λ l.
    and_then (checked_stamp dependency) (λ d.
    and_then (checked_reading reading) (λ r. rule l r d)))

-- an answer as one signed number
abbrev pub signed_number : Result ℕ Refusal → ℤ
signed_number (Ok stamp) = pos stamp
signed_number (Err why) = neg_ℤ (pos (number_of why))

abbrev pub floor_from : Kind → List ℕ → Result PerSite Refusal
floor_from k entries = and_then (checked_row entries) (λ row. Ok (k.floor row))

abbrev pub lift_from : Kind → ℕ → ℕ → Result PerSite Refusal
lift_from k site stamp = and_then (checked_stamp stamp) (λ s. and_then (checked_site site) (λ i. Ok (k.lift i s)))
