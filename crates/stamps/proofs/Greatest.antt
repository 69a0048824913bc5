-- The greatest of the entries that a loop has passed.
use Rattle.std.proofs.Common.{ℕ, max, cond, ltb}
use Rattle.stamps.specs.Rows.{PerSite}

-- the greatest of the first i entries, or 0
abbrev pub up_to : PerSite → ℕ → ℕ
up_to x i =
    max (max (cond (ltb 0 i) x.site0 0) (cond (ltb 1 i) x.site1 0))
    (max (cond (ltb 2 i) x.site2 0) (cond (ltb 3 i) x.site3 0))
