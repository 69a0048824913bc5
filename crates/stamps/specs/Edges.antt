-- The worked edges of the raw and the hybrid rule, and of the floor of the kinds of one stamp and of a stamp for each
-- site, as one table that the checker computes.
use Rattle.std.specs.Prelude.{◌≡◌, ℕ, List, [], ◌∷◌, Ok, Err, Result}
use Rattle.stamps.specs.declared.refusal.Refusal.{Refusal}
use Rattle.stamps.specs.declared.refusal.Refusal.TheVariants.{Early}
use Rattle.stamps.specs.Stamps.{stamp_of}
use Rattle.stamps.specs.Rows.{PerSite, row_of, same}
use Rattle.stamps.specs.Clocks.{Rule}
use Rattle.stamps.specs.Kinds.{Kind}

pub data Edge : Type 0 where
  -- a rule, the last stamp, the reading, the dependency, and the answer
  rule_edge : Rule → ℕ → ℕ → ℕ → Result ℕ Refusal → Edge
  -- a kind's floor, a row, and the floor of that row
  floor_edge : (PerSite → PerSite) → PerSite → PerSite → Edge

abbrev pub edges : (raw hybrid : Rule) → (one each : Kind) → List Edge
edges raw hybrid one each =
    rule_edge hybrid (stamp_of 0 0) 100 (stamp_of 0 0) (Ok (stamp_of 100 0))
    ∷ rule_edge hybrid (stamp_of 100 3) 90 (stamp_of 100 7) (Ok (stamp_of 100 8))
    ∷ rule_edge hybrid (stamp_of 100 65535) 100 (stamp_of 0 0) (Ok (stamp_of 101 0))
    ∷ rule_edge raw (stamp_of 100 0) 100 (stamp_of 0 0) (Err Early)
    ∷ rule_edge raw (stamp_of 100 0) 101 (stamp_of 0 0) (Ok (stamp_of 101 0))
    ∷ rule_edge raw (stamp_of 0 0) 100 (stamp_of 100 0) (Err Early)
    ∷ floor_edge one.floor (row_of 5 3 9 4) (same 3)
    ∷ floor_edge each.floor (row_of 5 3 9 4) (row_of 5 3 9 4)
    ∷ []

abbrev pub Holds : Edge → Type 0
Holds (rule_edge rule last reading dependency answer) = rule last reading dependency ≡ answer
Holds (floor_edge floor row answer) = floor row ≡ answer
