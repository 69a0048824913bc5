-- Rows: four stamps, one for each site number.
use Rattle.std.specs.Prelude.{ℕ, ◌^◌, ◌<◌, ◌≤◌, min, max, Bool, if◌then◌else◌, ◌&&◌, ◌==◌, nat_le}
use Rattle.std.specs.Prelude.{List, [], ◌∷◌, slice_index}

pub record PerSite : Type 0 where
  pub site0 : ℕ
  pub site1 : ℕ
  pub site2 : ℕ
  pub site3 : ℕ

abbrev pub row_of : ℕ → ℕ → ℕ → ℕ → PerSite
row_of a b c d = record { site0 = a; site1 = b; site2 = c; site3 = d }

-- the four numbers of a list, by their places
abbrev pub per_site : List ℕ → PerSite
per_site xs = row_of (slice_index xs 0) (slice_index xs 1) (slice_index xs 2) (slice_index xs 3)

-- the same as a list
abbrev pub site_list : PerSite → List ℕ
site_list x = x.site0 ∷ x.site1 ∷ x.site2 ∷ x.site3 ∷ []

-- each entry is a stamp
abbrev pub HasStamps : PerSite → Type 0
HasStamps x = (x.site0 < 2 ^ 63) × (x.site1 < 2 ^ 63) × (x.site2 < 2 ^ 63) × (x.site3 < 2 ^ 63)

-- the entry of a site
abbrev pub at : PerSite → ℕ → ℕ
at x site = if site == 0 then x.site0 else if site == 1 then x.site1 else if site == 2 then x.site2 else x.site3

-- the same stamp at each site
abbrev pub same : ℕ → PerSite
same s = row_of s s s s

-- another stamp at one site
abbrev pub with_entry : PerSite → ℕ → ℕ → PerSite
with_entry x site s =
    record {
      site0 = if site == 0 then s else x.site0;
      site1 = if site == 1 then s else x.site1;
      site2 = if site == 2 then s else x.site2;
      site3 = if site == 3 then s else x.site3;
    }

-- a stamp at one site, and 0 at the others
abbrev pub only : ℕ → ℕ → PerSite
only site s = with_entry (same 0) site s

-- x covers y: it is at least as high at each entry
abbrev pub Covers : PerSite → PerSite → Type 0
Covers x y = (y.site0 ≤ x.site0) × (y.site1 ≤ x.site1) × (y.site2 ≤ x.site2) × (y.site3 ≤ x.site3)

-- the same, as a test
abbrev pub covers : PerSite → PerSite → Bool
covers x y = nat_le y.site0 x.site0 && (nat_le y.site1 x.site1 && (nat_le y.site2 x.site2 && nat_le y.site3 x.site3))

-- at each site, a number made of both entries
abbrev pub zip_with : (ℕ → ℕ → ℕ) → PerSite → PerSite → PerSite
zip_with f x y = row_of (f x.site0 y.site0) (f x.site1 y.site1) (f x.site2 y.site2) (f x.site3 y.site3)

-- the greater at each entry
abbrev pub join : PerSite → PerSite → PerSite
join x y = zip_with max x y

-- the lesser at each entry
abbrev pub meet : PerSite → PerSite → PerSite
meet x y = zip_with min x y

-- the greatest of the four
abbrev pub greatest : PerSite → ℕ
greatest x = max (max x.site0 x.site1) (max x.site2 x.site3)

-- the least of the four
abbrev pub least : PerSite → ℕ
least x = min (min x.site0 x.site1) (min x.site2 x.site3)
