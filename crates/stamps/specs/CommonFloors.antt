-- The common floor of a run of rows.
use Rattle.std.specs.Prelude.{List, [], ◌∷◌}
use Rattle.std.specs.List.{AllByRecursion}
use Rattle.stamps.specs.Rows.{PerSite, HasStamps, same, meet, Covers}
use Rattle.stamps.specs.Stamps.{top_stamp}
use Rattle.stamps.specs.Kinds.{Kind}

-- the meet of all rows, each taken as a mark
abbrev pub common_floor : Kind → List PerSite → PerSite
common_floor k [] = same top_stamp
common_floor k (x ∷ xs) = meet (k.floor x) (common_floor k xs)

-- of the marks that every row of the run covers, it is the greatest
pub record IsGreatestCommon (k : Kind) (rows : List PerSite) (mark : PerSite) : Type 0 where
  pub means : k.Means mark
  pub covered : AllByRecursion (λ x. Covers x mark) rows
  pub greatest : (other : PerSite) → HasStamps other → k.Means other
      → AllByRecursion (λ x. Covers x other) rows → Covers mark other
