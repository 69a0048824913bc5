-- Kinds of mark: what a kind is, and what every kind owes.
use Rattle.std.specs.Prelude.{◌≡◌, ℕ, ◌^◌, ◌<◌, ◌≤◌}
use Rattle.stamps.specs.Rows.{PerSite, HasStamps, same, join, meet, Covers, at}

pub record Kind : Type 1 where
  -- how many stamps a mark has
  pub columns : ℕ
  -- the rows that a mark can mean
  pub Means : PerSite → Type 0
  -- the greatest mark that a row covers, as its row
  pub floor : PerSite → PerSite
  -- the least mark with at least a stamp at a site, as its row
  pub lift : ℕ → ℕ → PerSite

-- the row of a mark of the kind
abbrev pub IsMark : Kind → PerSite → Type 0
IsMark k row = HasStamps row × k.Means row

-- All of it is said of rows of stamps.
pub record IsLawfulKind (k : Kind) : Type 0 where
  -- the kind has every row of four equal stamps, and the join and meet of its rows
  pub same_means : (s : ℕ) → s < 2 ^ 63 → k.Means (same s)
  pub join_means : (x y : PerSite) → HasStamps x → HasStamps y → k.Means x → k.Means y → k.Means (join x y)
  pub meet_means : (x y : PerSite) → HasStamps x → HasStamps y → k.Means x → k.Means y → k.Means (meet x y)
  -- the floor of a row is a mark, the row covers it, and it covers every mark that the row covers
  pub floor_means : (x : PerSite) → HasStamps x → k.Means (k.floor x)
  pub floor_below : (x : PerSite) → HasStamps x → Covers x (k.floor x)
  pub floor_greatest : (x y : PerSite) → HasStamps x → HasStamps y → k.Means y → Covers x y → Covers (k.floor x) y
  -- a mark's row is its own floor
  pub floor_own : (x : PerSite) → HasStamps x → k.Means x → k.floor x ≡ x
  -- a lift is a mark with at least that stamp at that site, and every such mark covers it
  pub lift_means : (site s : ℕ) → site < 4 → s < 2 ^ 63 → k.Means (k.lift site s)
  pub lift_reaches : (site s : ℕ) → site < 4 → s < 2 ^ 63 → s ≤ at (k.lift site s) site
  pub lift_least : (site s : ℕ) (y : PerSite) → site < 4 → s < 2 ^ 63 → HasStamps y → k.Means y → s ≤ at y site
      → Covers y (k.lift site s)
