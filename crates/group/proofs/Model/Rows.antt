-- Laws of rows and of marks: what covers what.
use Rattle.std.proofs.Common.{◌≡◌, ℕ, ◌^◌, ◌<◌, ◌≤◌, true, le_trans, le_refl, arith, lit<}
use Rattle.std.proofs.lemmas.Bool.{and_from, and_parts, le-leb, leb-true}
use Rattle.std.proofs.lemmas.Bool.Decides.{nat_tests}
use Rattle.stamps.specs.Rows.{PerSite, HasStamps, Covers, covers, at, same, join, meet, greatest, with_entry}
use Rattle.stamps.proofs.Rows as rows
use Rattle.stamps.specs.Kinds.{Kind, IsMark, IsLawfulKind}
use Rattle.servers.specs.Versions.{full_mark}
use Rattle.servers.specs.declared.version.Version.{Version}

pub covers_self : (x : PerSite) → Covers x x
covers_self x = (le_refl _, le_refl _, le_refl _, le_refl _)

pub covers_trans : {x y z : PerSite} → Covers x y → Covers y z → Covers x z
covers_trans {x} {y} {z} p q = rows.covers_trans x y z p q

pub covers_true : (x y : PerSite) → covers x y ≡ true → Covers x y
covers_true x y e =
    let p = and_parts _ _ e in
    let q = and_parts _ _ p.1 in
    let r = and_parts _ _ q.1 in
    (leb-true _ _ p.0, leb-true _ _ q.0, leb-true _ _ r.0, leb-true _ _ r.1)

pub covers_from : (x y : PerSite) → Covers x y → covers x y ≡ true
covers_from x y h =
    and_from _ _ (le-leb _ _ h.0) (and_from _ _ (le-leb _ _ h.1) (and_from _ _ (le-leb _ _ h.2) (le-leb _ _ h.3)))

pub covers_at : (x y : PerSite) (i : ℕ) → Covers x y → at y i ≤ at x i
covers_at x y i h = grind (arith, nat_tests, h.0, h.1, h.2, h.3)

pub join_left : (x y : PerSite) → Covers (join x y) x
join_left x y = (omega arith, omega arith, omega arith, omega arith)

pub join_right : (x y : PerSite) → Covers (join x y) y
join_right x y = (omega arith, omega arith, omega arith, omega arith)

pub join_least : {x y z : PerSite} → Covers z x → Covers z y → Covers z (join x y)
join_least {x} {y} {z} p q = (omega arith, omega arith, omega arith, omega arith)

pub covers_zero : (x : PerSite) → Covers x (same 0)
covers_zero x = (omega arith, omega arith, omega arith, omega arith)

pub at_greatest : (x : PerSite) (i : ℕ) → at x i ≤ greatest x
at_greatest x i = grind (arith, nat_tests)

pub at_entry_same : (x : PerSite) (i s : ℕ) → i < 4 → at (with_entry x i s) i ≡ s
at_entry_same x i s l = grind (arith, nat_tests)

pub at_entry_other : (x : PerSite) (i j s : ℕ) → i < 4 → j < 4 → (j ≡ i → ⊥) → at (with_entry x i s) j ≡ at x j
at_entry_other x i j s l k ne = grind (arith, nat_tests)

pub entry_rises : (x : PerSite) (i s : ℕ) → at x i ≤ s → Covers (with_entry x i s) x
entry_rises x i s h =
    (grind (arith, nat_tests), grind (arith, nat_tests), grind (arith, nat_tests), grind (arith, nat_tests))

pub stamps_below : {x y : PerSite} → Covers x y → HasStamps x → HasStamps y
stamps_below {x} {y} c h = (omega arith, omega arith, omega arith, omega arith)

pub stamps_entry : (x : PerSite) (i s : ℕ) → HasStamps x → s < 2 ^ 63 → HasStamps (with_entry x i s)
stamps_entry x i s h l =
    (grind (arith, nat_tests), grind (arith, nat_tests), grind (arith, nat_tests), grind (arith, nat_tests))

pub stamps_at : (x : PerSite) (i : ℕ) → HasStamps x → at x i < 2 ^ 63
stamps_at x i h = grind (arith, nat_tests, h.0, h.1, h.2, h.3)

module _ {k : Kind} (law : IsLawfulKind k) where
  pub zero_mark : IsMark k (same 0)
  zero_mark = ((lit< tt, lit< tt, lit< tt, lit< tt), law.same_means 0 (lit< tt))

  -- the floor of a mark covers it, and is below it
  pub floor_over : {x : PerSite} → IsMark k x → Covers (k.floor x) x
  floor_over {x} m = law.floor_greatest x x m.0 m.0 m.1 (covers_self x)

  pub floor_under : {x : PerSite} → HasStamps x → Covers x (k.floor x)
  floor_under {x} s = law.floor_below x s

  pub floor_mark : {x : PerSite} → HasStamps x → IsMark k (k.floor x)
  floor_mark {x} s = (stamps_below (law.floor_below x s) s, law.floor_means x s)

  pub join_mark : {x y : PerSite} → IsMark k x → IsMark k y → IsMark k (join x y)
  join_mark {x} {y} p q =
      ((omega arith, omega arith, omega arith, omega arith), law.join_means x y p.0 q.0 p.1 q.1)

  pub meet_mark : {x y : PerSite} → IsMark k x → IsMark k y → IsMark k (meet x y)
  meet_mark {x} {y} p q =
      ((omega arith, omega arith, omega arith, omega arith), law.meet_means x y p.0 q.0 p.1 q.1)

  -- the lift is below the row of that stamp everywhere, so its entries are stamps
  pub lift_mark : (i s : ℕ) → i < 4 → s < 2 ^ 63 → IsMark k (k.lift i s)
  lift_mark i s l h =
      let everywhere : s ≤ at (same s) i = grind (arith, nat_tests) in
      let low = law.lift_least i s (same s) l h (h, h, h, h) (law.same_means s h) everywhere in
      (stamps_below low (h, h, h, h), law.lift_means i s l h)

  pub full_is_mark : (v : Version) → IsMark k v.mark → v.source < 4 → v.stamp < 2 ^ 63 → IsMark k (full_mark k v)
  full_is_mark v m l h = join_mark (floor_mark m.0) (lift_mark v.source v.stamp l h)

  -- a full mark covers the version's mark
  pub full_mark_lem : (v : Version) → IsMark k v.mark → Covers (full_mark k v) v.mark
  full_mark_lem v m = covers_trans (join_left (k.floor v.mark) (k.lift v.source v.stamp)) (floor_over m)

  -- what covers a full mark has at least the version's stamp at its source
  pub full_stamp : (v : Version) (m : PerSite) → v.source < 4 → v.stamp < 2 ^ 63 → Covers m (full_mark k v)
      → v.stamp ≤ at m v.source
  full_stamp v m l h c =
      let low = covers_at m (k.lift v.source v.stamp) v.source
      (covers_trans c (join_right (k.floor v.mark) (k.lift v.source v.stamp))) in
      le_trans (law.lift_reaches v.source v.stamp l h) low
