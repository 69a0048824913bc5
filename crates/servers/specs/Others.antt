-- The other sites of a layout.
use Rattle.std.specs.Prelude.{◌≡◌, ℕ, ◌+◌, Bool, false, if◌then◌else◌, not, ◌&&◌, ◌==◌, nat_lt}
use Rattle.stamps.specs.Rows.{PerSite}

-- a site of the layout other than the given one
abbrev pub is_other : ℕ → ℕ → ℕ → Bool
is_other own sites site = nat_lt site sites && not (site == own)

-- 1 for another site of the layout, and 0 for the rest
abbrev pub one_if_other : ℕ → ℕ → ℕ → ℕ
one_if_other own sites site = if is_other own sites site then 1 else 0

-- one more for each other site of the layout
abbrev pub one_more : ℕ → ℕ → PerSite → PerSite
one_more own sites x =
    record {
      site0 = x.site0 + one_if_other own sites 0;
      site1 = x.site1 + one_if_other own sites 1;
      site2 = x.site2 + one_if_other own sites 2;
      site3 = x.site3 + one_if_other own sites 3;
    }

-- a site that is no other site of the layout has none to take
abbrev pub IsOthersOnly : ℕ → ℕ → PerSite → Type 0
IsOthersOnly own sites left =
    (is_other own sites 0 ≡ false → left.site0 ≡ 0)
    × (is_other own sites 1 ≡ false → left.site1 ≡ 0)
    × (is_other own sites 2 ≡ false → left.site2 ≡ 0)
    × (is_other own sites 3 ≡ false → left.site3 ≡ 0)
