-- The common floor: how a loop makes it, and that it is the greatest mark that every row covers.
use Rattle.std.proofs.Common.{◌≡◌, ℕ, ◌+◌, ◌<◌, List, [], ◌∷◌, ◌++◌, length, get_or, take, sym, ap, subst, ◌∙◌}
use Rattle.std.proofs.Common.{arith, lit<}
use Rattle.std.specs.List.{AllByRecursion}
use Rattle.std.proofs.lemmas.List.{take_more}
use Rattle.stamps.specs.Rows.{PerSite, HasStamps, same, meet, Covers}
use Rattle.stamps.specs.Stamps.{top_stamp}
use Rattle.stamps.specs.Kinds.{Kind, IsLawfulKind}
use Rattle.stamps.specs.CommonFloors.{common_floor, IsGreatestCommon}
use Rattle.stamps.proofs.Rows.{covers_trans, meet_left, meet_right, meet_greatest, meet_assoc, meet_comm}

-- of the first i rows and the next, in the words of the loop
take_next : (rs : List PerSite) (i : ℕ) (r : PerSite) → i < length rs → r ≡ get_or rs i r
    → take (i + 1) rs ≡ take i rs ++ (r ∷ [])
take_next rs i r h e = take_more rs i r h ∙ ap (λ s. take i rs ++ (s ∷ [])) (sym e)

common_floor-append : (k : Kind) (rs : List PerSite) (r : PerSite)
    → common_floor k (rs ++ r ∷ []) ≡ meet (common_floor k rs) (k.floor r)
common_floor-append k [] r = meet_comm (k.floor r) (same top_stamp)
common_floor-append k (s ∷ rs) r =
    ap (meet (k.floor s)) (common_floor-append k rs r)
    ∙ sym (meet_assoc (k.floor s) (common_floor k rs) (k.floor r))

pub common_floor-take : (k : Kind) (rs : List PerSite) (i : ℕ) (r : PerSite) → i < length rs → r ≡ get_or rs i r
    → common_floor k (take (i + 1) rs) ≡ meet (common_floor k (take i rs)) (k.floor r)
common_floor-take k rs i r h e = ap (common_floor k) (take_next rs i r h e) ∙ common_floor-append k (take i rs) r

all_stamps-append : (rs : List PerSite) (r : PerSite) → AllByRecursion HasStamps rs → HasStamps r
    → AllByRecursion HasStamps (rs ++ r ∷ [])
all_stamps-append [] r a s = (s, tt)
all_stamps-append (q ∷ rs) r a s = (a.0, all_stamps-append rs r a.1 s)

pub all_stamps-take : (rs : List PerSite) (i : ℕ) (r : PerSite) → i < length rs → r ≡ get_or rs i r
    → AllByRecursion HasStamps (take i rs) → HasStamps r → AllByRecursion HasStamps (take (i + 1) rs)
all_stamps-take rs i r h e a s =
    subst (AllByRecursion HasStamps) (sym (take_next rs i r h e)) (all_stamps-append (take i rs) r a s)

-- rows that cover a mark cover what that mark covers
all_cover_below : (rs : List PerSite) (x y : PerSite) → Covers x y
    → AllByRecursion (λ r. Covers r x) rs → AllByRecursion (λ r. Covers r y) rs
all_cover_below [] x y h a = tt
all_cover_below (r ∷ rs) x y h a = (covers_trans r x y a.0 h, all_cover_below rs x y h a.1)

floor_stamps : (k : Kind) → IsLawfulKind k → (r : PerSite) → HasStamps r → HasStamps (k.floor r)
floor_stamps k l r s = let b = l.floor_below r s in (omega arith, omega arith, omega arith, omega arith)

pub common_floor_stamps : (k : Kind) → IsLawfulKind k → (rs : List PerSite) → AllByRecursion HasStamps rs
    → HasStamps (common_floor k rs)
common_floor_stamps k l [] a = (lit< tt, lit< tt, lit< tt, lit< tt)
common_floor_stamps k l (r ∷ rs) a =
    let f = floor_stamps k l r a.0 in
    let g = common_floor_stamps k l rs a.1 in
    (omega arith, omega arith, omega arith, omega arith)

pub common_floor_greatest : (k : Kind) → IsLawfulKind k → (rs : List PerSite) → AllByRecursion HasStamps rs
    → IsGreatestCommon k rs (common_floor k rs)
common_floor_greatest k l [] a =
    record {
      means = l.same_means top_stamp (lit< tt);
      covered = tt;
      greatest = λ other s _ _. (omega arith, omega arith, omega arith, omega arith);
    }
common_floor_greatest k l (r ∷ rs) a =
    let own = k.floor r in
    let others = common_floor k rs in
    let own_stamps = floor_stamps k l r a.0 in
    let of_others = common_floor_greatest k l rs a.1 in
    record {
      means = l.meet_means own others own_stamps (common_floor_stamps k l rs a.1) (l.floor_means r a.0) of_others.means;
      covered = (
        covers_trans r own _ (l.floor_below r a.0) (meet_left own others),
        all_cover_below rs _ _ (meet_right own others) of_others.covered,
      );
      greatest = λ other s m c.
          meet_greatest own others other (l.floor_greatest r other a.0 s m c.0) (of_others.greatest other s m c.1);
    }
