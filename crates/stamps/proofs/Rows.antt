-- Laws of rows.
use Rattle.std.proofs.Common.{◌≡◌, ℕ, arith}
use Rattle.stamps.specs.Rows.{PerSite, row_of, Covers, meet}

pub covers_trans : (x y z : PerSite) → Covers x y → Covers y z → Covers x z
covers_trans x y z p q = (omega arith, omega arith, omega arith, omega arith)

-- a meet is below both, and covers whatever both cover
pub meet_left : (x y : PerSite) → Covers x (meet x y)
meet_left x y = (omega arith, omega arith, omega arith, omega arith)

pub meet_right : (x y : PerSite) → Covers y (meet x y)
meet_right x y = (omega arith, omega arith, omega arith, omega arith)

pub meet_greatest : (x y z : PerSite) → Covers x z → Covers y z → Covers (meet x y) z
meet_greatest x y z p q = (omega arith, omega arith, omega arith, omega arith)

-- rows of the same entries are the same
same_entries : (a b c d e f g h : ℕ) → a ≡ e → b ≡ f → c ≡ g → d ≡ h → row_of a b c d ≡ row_of e f g h
same_entries a b c d e f g h p q r s = cc

pub same_rows : (x y : PerSite) → x.site0 ≡ y.site0 → x.site1 ≡ y.site1 → x.site2 ≡ y.site2 → x.site3 ≡ y.site3 → x ≡ y
same_rows x y p q r s = same_entries x.site0 x.site1 x.site2 x.site3 _ _ _ _ p q r s

-- rows that cover each other are the same
pub same_from_covers : (x y : PerSite) → Covers x y → Covers y x → x ≡ y
same_from_covers x y p q = same_rows x y (omega arith) (omega arith) (omega arith) (omega arith)

pub meet_assoc : (x y z : PerSite) → meet (meet x y) z ≡ meet x (meet y z)
meet_assoc x y z = same_entries _ _ _ _ _ _ _ _ (omega arith) (omega arith) (omega arith) (omega arith)

pub meet_comm : (x y : PerSite) → meet x y ≡ meet y x
meet_comm x y = same_entries _ _ _ _ _ _ _ _ (omega arith) (omega arith) (omega arith) (omega arith)
