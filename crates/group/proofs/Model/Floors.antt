-- The common floor of rows is the greatest mark that each of them covers.
use Rattle.std.proofs.Common.{◌≡◌, ℕ, suc, ◌<◌, List, [], ◌∷◌, ◌++◌, sym, refl, subst, inl, inr, ⊎_elim, arith, lit<}
use Rattle.std.proofs.lemmas.Bool.{cases_eq}
use Rattle.stamps.specs.Rows.{PerSite, HasStamps, Covers}
use Rattle.stamps.specs.Stamps.{top_stamp}
use Rattle.stamps.proofs.Rows.{meet_left, meet_right, meet_greatest}
use Rattle.stamps.specs.Kinds.{Kind, IsMark, IsLawfulKind}
use Rattle.stamps.specs.CommonFloors.{common_floor}
use Rattle.servers.proofs.Elements.{InList}
use Rattle.group.specs.Model.Groups.{tabulate}
use Rattle.group.proofs.Model.Rows.{covers_trans, floor_mark, floor_under, meet_mark}
use Rattle.group.proofs.Model.Lists.{in_left, in_end, in_push}

-- all rows are rows of stamps
abbrev pub AllStamps : List PerSite → Type 0
AllStamps xs = (x : PerSite) → InList x xs → HasStamps x

module _ {k : Kind} (law : IsLawfulKind k) where
  pub common_mark : (xs : List PerSite) → AllStamps xs → IsMark k (common_floor k xs)
  common_mark [] st = ((lit< tt, lit< tt, lit< tt, lit< tt), law.same_means top_stamp (lit< tt))
  common_mark (x ∷ xs) st = meet_mark law (floor_mark law (st x (inl refl))) (common_mark xs (λ y i. st y (inr i)))

  pub common_below : (xs : List PerSite) → AllStamps xs → (x : PerSite) → InList x xs → Covers x (common_floor k xs)
  common_below [] st x i = absurd i
  common_below (y ∷ ys) st x (inl e) =
      subst (λ (z : PerSite). Covers z (common_floor k (y ∷ ys))) (sym e)
      (covers_trans (floor_under law (st y (inl refl))) (meet_left (k.floor y) (common_floor k ys)))
  common_below (y ∷ ys) st x (inr i) =
      covers_trans (common_below ys (λ z j. st z (inr j)) x i) (meet_right (k.floor y) (common_floor k ys))

  pub common_greatest : (xs : List PerSite) → AllStamps xs → (m : PerSite) → IsMark k m
      → ((x : PerSite) → InList x xs → Covers x m) → Covers (common_floor k xs) m
  common_greatest [] st m mk c = let s = mk.0 in (omega arith, omega arith, omega arith, omega arith)
  common_greatest (x ∷ xs) st m mk c =
      meet_greatest (k.floor x) (common_floor k xs) m
      (law.floor_greatest x m (st x (inl refl)) mk.0 mk.1 (c x (inl refl)))
      (common_greatest xs (λ y i. st y (inr i)) m mk (λ y i. c y (inr i)))

-- ---- the first values of a function

pub in_first : {A : Type 0} (f : ℕ → A) (n i : ℕ) → i < n → InList (f i) (tabulate f n)
in_first f ℕ.zero i l = absurd (omega arith)
in_first f (suc n) i l = ⊎_elim
    (λ e. subst (λ (x : ℕ). InList (f x) (tabulate f n ++ (f n ∷ []))) (sym e) (in_end (tabulate f n) (f n)))
    (λ ne. in_left (f i) (tabulate f n) (f n ∷ []) (in_first f n i (omega arith)))
    (cases_eq i n)

pub first_in : {A : Type 0} (f : ℕ → A) (n : ℕ) (x : A) → InList x (tabulate f n) → (i : ℕ) × (i < n) × (x ≡ f i)
first_in f ℕ.zero x h = absurd h
first_in f (suc n) x h = ⊎_elim
    (λ i. let r = first_in f n x i in let l = r.1 in (r.0, omega arith, r.2))
    (λ e. (n, omega arith, e))
    (in_push x (tabulate f n) (f n) h)
