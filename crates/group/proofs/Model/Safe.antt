-- The safe mark of tidying: below every stable mark and every open cut of its site, and it never falls.
use Rattle.std.proofs.Common.{◌≡◌, ℕ, suc, ◌<◌, Bool, true, false, cond, eqb, List, [], ◌∷◌, ◌++◌, get_or, Some, None}
use Rattle.std.proofs.Common.{Option, sym, refl, ap, ◌∙◌, subst, inl, inr, ⊎_elim}
use Rattle.std.proofs.lemmas.Bool.{eq-eqb, eqb-true, both_ways}
use Rattle.stamps.specs.Rows.{PerSite, HasStamps, Covers}
use Rattle.stamps.specs.Kinds.{Kind, IsMark, IsLawfulKind}
use Rattle.servers.proofs.Elements.{InList}
use Rattle.group.specs.Model.Calls.{safe_mark}
use Rattle.group.specs.Model.Groups.{GroupState, SeatState, session_at, seat_at, stable_at, cuts_of, cuts_at}
use Rattle.group.proofs.Model.Lists.{in_left, in_right, in_either}
use Rattle.group.proofs.Model.Floors.{AllStamps, common_mark, common_below, common_greatest, in_first, first_in}
use Rattle.group.proofs.Model.Seating.{not_some, some_same}

-- the rows whose common floor it is
abbrev pub safe_rows : GroupState → ℕ → List PerSite
safe_rows g s = stable_at g s ++ cuts_at g s

-- ---- which cuts are open at a site

pub cut_in : (g : GroupState) (s : ℕ) (ys : List (Option SeatState)) (a : ℕ) (y : SeatState) → get_or ys a None ≡ Some y
    → (session_at g y.session).site ≡ s → InList y.cut (cuts_of g s ys)
cut_in g s [] a y e at_s = absurd (not_some e)
cut_in g s (None ∷ ys) ℕ.zero y e at_s = absurd (not_some e)
cut_in g s (None ∷ ys) (suc a) y e at_s = cut_in g s ys a y e at_s
cut_in g s (Some z ∷ ys) ℕ.zero y e at_s = go (eqb (session_at g z.session).site s) refl
  where
    same : z ≡ y
    same = some_same e

    go : (b : Bool) → eqb (session_at g z.session).site s ≡ b
        → InList y.cut (cond b (z.cut ∷ cuts_of g s ys) (cuts_of g s ys))
    go true t = inl (sym (ap (λ (x : SeatState). x.cut) same))
    go false t = absurd (both_ways _ t (eq-eqb _ _ (ap (λ (x : SeatState). (session_at g x.session).site) same ∙ at_s)))
cut_in g s (Some z ∷ ys) (suc a) y e at_s = go (eqb (session_at g z.session).site s) (cut_in g s ys a y e at_s)
  where
    go : (b : Bool) → InList y.cut (cuts_of g s ys) → InList y.cut (cond b (z.cut ∷ cuts_of g s ys) (cuts_of g s ys))
    go true i = inr i
    go false i = i

-- an open cut of the site
pub record CutOf (g : GroupState) (s : ℕ) (ys : List (Option SeatState)) (x : PerSite) : Type 0 where
  pub place : ℕ
  pub seat : SeatState
  pub there : get_or ys place None ≡ Some seat
  pub at_site : (session_at g seat.session).site ≡ s
  pub is : x ≡ seat.cut

further : {g : GroupState} {s : ℕ} {ys : List (Option SeatState)} {x : PerSite} (o : Option SeatState) → CutOf g s ys x
    → CutOf g s (o ∷ ys) x
further o c = record { place = suc c.place; seat = c.seat; there = c.there; at_site = c.at_site; is = c.is }

pub in_cuts : (g : GroupState) (s : ℕ) (ys : List (Option SeatState)) (x : PerSite) → InList x (cuts_of g s ys)
    → CutOf g s ys x
in_cuts g s [] x h = absurd h
in_cuts g s (None ∷ ys) x h = further None (in_cuts g s ys x h)
in_cuts g s (Some z ∷ ys) x h = go (eqb (session_at g z.session).site s) refl h (in_cuts g s ys x)
  where
    go : (b : Bool) → eqb (session_at g z.session).site s ≡ b
        → InList x (cond b (z.cut ∷ cuts_of g s ys) (cuts_of g s ys)) → (InList x (cuts_of g s ys) → CutOf g s ys x)
        → CutOf g s (Some z ∷ ys) x
    go true t (inl e) rec = record { place = 0; seat = z; there = refl; at_site = eqb-true _ _ t; is = e }
    go true t (inr i) rec = further (Some z) (rec i)
    go false t i rec = further (Some z) (rec i)

-- ---- the safe mark

pub rows_stamps : (g : GroupState) (s : ℕ) → ((n : ℕ) → HasStamps (g.server s n).marks.stable)
    → ((a : ℕ) (y : SeatState) → seat_at g a ≡ Some y → HasStamps y.cut) → AllStamps (safe_rows g s)
rows_stamps g s st cut x i = ⊎_elim
    (λ j. let r = first_in (λ n. (g.server s n).marks.stable) g.partitions x j in subst HasStamps (sym r.2) (st r.0))
    (λ j. let c = in_cuts g s g.seats x j in subst HasStamps (sym c.is) (cut c.place c.seat c.there))
    (in_either x (stable_at g s) (cuts_at g s) i)

module _ {k : Kind} (law : IsLawfulKind k) (g : GroupState) (s : ℕ) (st : AllStamps (safe_rows g s)) where
  pub safe_mark_lem : IsMark k (safe_mark k g s)
  safe_mark_lem = common_mark law (safe_rows g s) st

  pub safe_stable : (n : ℕ) → n < g.partitions → Covers (g.server s n).marks.stable (safe_mark k g s)
  safe_stable n l = common_below law (safe_rows g s) st _
      (in_left _ (stable_at g s) (cuts_at g s) (in_first (λ m. (g.server s m).marks.stable) g.partitions n l))

  pub safe_cut : (a : ℕ) (y : SeatState) → seat_at g a ≡ Some y → (session_at g y.session).site ≡ s
      → Covers y.cut (safe_mark k g s)
  safe_cut a y e at_s = common_below law (safe_rows g s) st y.cut
      (in_right y.cut (stable_at g s) (cuts_at g s) (cut_in g s g.seats a y e at_s))

-- it covers every mark that the stable marks and the open cuts cover
pub safe_covers : {k : Kind} (law : IsLawfulKind k) (g : GroupState) (s : ℕ) → AllStamps (safe_rows g s) → (m : PerSite)
    → IsMark k m →
    ((n : ℕ) → n < g.partitions → Covers (g.server s n).marks.stable m) →
    ((a : ℕ) (y : SeatState) → seat_at g a ≡ Some y → (session_at g y.session).site ≡ s → Covers y.cut m)
    → Covers (safe_mark k g s) m
safe_covers law g s st m mk stables cuts = common_greatest law (safe_rows g s) st m mk (λ x i. ⊎_elim
    (λ j. let r = first_in (λ n. (g.server s n).marks.stable) g.partitions x j in
    subst (λ (z : PerSite). Covers z m) (sym r.2) (stables r.0 r.1))
    (λ j. let c = in_cuts g s g.seats x j in
    subst (λ (z : PerSite). Covers z m) (sym c.is) (cuts c.place c.seat c.there c.at_site))
    (in_either x (stable_at g s) (cuts_at g s) i))
