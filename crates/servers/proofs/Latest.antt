-- The latest under a test: held, shown, and nothing shown is later.
use Rattle.std.proofs.Common.{◌≡◌, ℕ, Bool, true, false, cond, ◌&&◌, eqb, ◌⊎◌, List, [], ◌∷◌, Some, None, Option, sym}
use Rattle.std.proofs.Common.{refl, ◌∙◌, subst, inl, inr, ⊎_elim, arith}
use Rattle.std.proofs.lemmas.Bool.{and_from, and_parts, eq-eqb, eqb-true, false≢true}
use Rattle.std.proofs.lemmas.Bool.Decides.{nat_tests}
use Rattle.servers.specs.Versions.{is_later}
use Rattle.servers.specs.declared.version.Version.{Version}
use Rattle.servers.specs.Tables.{better_of, latest, latest_from}
use Rattle.servers.specs.Laws.{IsAsLateVersion, IsLatest, IsLaterVersion, Passes}
use Rattle.servers.proofs.Elements.{InList, contained, in_list}

pub later_gives : (v w : Version) → is_later v w ≡ true → IsLaterVersion v w
later_gives v w e = (grind (arith, nat_tests), λ s. grind (arith, nat_tests))

pub later_not : (v w : Version) → is_later v w ≡ false → IsAsLateVersion w v
later_not v w e = (grind (arith, nat_tests), λ s. grind (arith, nat_tests))

pub later_from : (v w : Version) → IsLaterVersion v w → is_later v w ≡ true
later_from v w l = grind (arith, nat_tests, l.0, l.1)

as_late_self : (v : Version) → IsAsLateVersion v v
as_late_self v = (omega arith, λ s. omega arith)

pub as_late_trans : (u v w : Version) → IsAsLateVersion u v → IsAsLateVersion v w → IsAsLateVersion u w
as_late_trans u v w p q = (omega arith, λ s. omega (arith, p.1, q.1))

pub as_late_later : (u v w : Version) → IsAsLateVersion u v → IsLaterVersion v w → IsLaterVersion u w
as_late_later u v w p q = (omega arith, λ s. omega (arith, p.1, q.1))

pub later_as_late : (v w : Version) → IsLaterVersion v w → IsAsLateVersion v w
later_as_late v w l = (l.0, λ s. let h = l.1 s in omega arith)

pub not_both : (v w : Version) → IsAsLateVersion v w → IsLaterVersion w v → ⊥
not_both v w p q =
    let same : w.stamp ≡ v.stamp = omega arith in
    let a = p.1 same in
    let b = q.1 (sym same) in
    omega arith

module _ (test : Version → Bool) (key : ℕ) where
  -- what the search gives of what was found before and a list
  abbrev Outcome : Option Version → List Version → Option Version → Type 0
  Outcome found vs None = (found ≡ None) × ((v : Version) → InList v vs → Passes test key v → ⊥)
  Outcome found vs (Some b) =
      ((found ≡ Some b) ⊎ (InList b vs × Passes test key b))
      × ((v : Version) → InList v vs → Passes test key v → IsAsLateVersion b v)
      × ((a : Version) → found ≡ Some a → IsAsLateVersion b a)

  -- v does not take the place of what was found
  passed_over : (found : Option Version) (v : Version) (vs : List Version) (r : Option Version)
      → ((a : Version) → found ≡ Some a → Passes test key v → IsAsLateVersion a v)
      → (found ≡ None → Passes test key v → ⊥)
      → Outcome found vs r → Outcome found (v ∷ vs) r
  passed_over found v vs None worse never o =
      (o.0, λ w i p. ⊎_elim (λ e. never o.0 (subst (Passes test key) e p)) (λ j. o.1 w j p) i)
  passed_over found v vs (Some b) worse never o = (
    ⊎_elim inl (λ h. inr (inr h.0, h.1)) o.0,
    λ w i p. ⊎_elim (λ e. subst (IsAsLateVersion b) (sym e)
        (over_found found (subst (Passes test key) e p) never (λ a f q. as_late_trans b a v (o.2 a f) (worse a f q))))
        (λ j. o.1 w j p) i,
    o.2,
  )
    where
      over_found : (f : Option Version) → Passes test key v → (f ≡ None → Passes test key v → ⊥)
          → ((a : Version) → f ≡ Some a → Passes test key v → IsAsLateVersion b v) → IsAsLateVersion b v
      over_found None p never' late = absurd (never' refl p)
      over_found (Some a) p never' late = late a refl p

  -- v takes the place of what was found
  taken_up : (found : Option Version) (v : Version) (vs : List Version) (r : Option Version)
      → Passes test key v → ((a : Version) → found ≡ Some a → IsLaterVersion v a)
      → Outcome (Some v) vs r → Outcome found (v ∷ vs) r
  taken_up found v vs None passes over o = let z : ◌≡◌ {A = ℕ} 0 1 = cc in absurd (omega arith)
  taken_up found v vs (Some b) passes over o =
      let late = o.2 v refl in (
        inr (⊎_elim (λ e. let same : b ≡ v = cc in (inl same, subst (Passes test key) (sym same) passes))
            (λ h. (inr h.0, h.1)) o.0),
        λ w i p. ⊎_elim (λ e. subst (IsAsLateVersion b) (sym e) late) (λ j. o.1 w j p) i,
        λ a e. as_late_trans b v a late (later_as_late v a (over a e)),
      )

  better_outcome : (found : Option Version) (v : Version) (vs : List Version) (r : Option Version)
      → Outcome (better_of test key found v) vs r → Outcome found (v ∷ vs) r
  better_outcome None v vs r o = go (eqb v.key key && test v) refl o
    where
      go : (t : Bool) → (eqb v.key key && test v) ≡ t → Outcome (cond t (Some v) None) vs r → Outcome None (v ∷ vs) r
      go true e o' =
          let parts = and_parts (eqb v.key key) (test v) e in
          taken_up None v vs r (eqb-true v.key key parts.0, parts.1)
          (λ a n. let z : ◌≡◌ {A = ℕ} 0 1 = cc in absurd (omega arith)) o'
      go false e o' =
          passed_over None v vs r (λ a n. let z : ◌≡◌ {A = ℕ} 0 1 = cc in absurd (omega arith))
          (λ _ p. false≢true (sym e ∙ and_from (eqb v.key key) (test v) (eq-eqb v.key key p.0) p.1)) o'
  better_outcome (Some a) v vs r o = go (eqb v.key key && (test v && is_later v a)) refl o
    where
      go : (t : Bool) → (eqb v.key key && (test v && is_later v a)) ≡ t → Outcome (cond t (Some v) (Some a)) vs r
          → Outcome (Some a) (v ∷ vs) r
      go true e o' =
          let parts = and_parts (eqb v.key key) (test v && is_later v a) e in
          let more = and_parts (test v) (is_later v a) parts.1 in
          taken_up (Some a) v vs r (eqb-true v.key key parts.0, more.0)
          (λ b n. let same : a ≡ b = cc in subst (IsLaterVersion v) same (later_gives v a more.1)) o'
      go false e o' =
          passed_over (Some a) v vs r
          (λ b n p. let same : a ≡ b = cc in
          subst (λ x. IsAsLateVersion x v) same (later_not v a (not_later (is_later v a) refl p)))
          (λ n p. let z : ◌≡◌ {A = ℕ} 0 1 = cc in absurd (omega arith)) o'
        where
          not_later : (l : Bool) → is_later v a ≡ l → Passes test key v → l ≡ false
          not_later true is p = absurd (false≢true
              (sym e ∙ and_from (eqb v.key key) (test v && is_later v a) (eq-eqb v.key key p.0)
              (and_from (test v) (is_later v a) p.1 is)))
          not_later false is p = refl

  outcome : (found : Option Version) (vs : List Version) → Outcome found vs (latest_from test key found vs)
  outcome None [] = (refl, λ v i p. i)
  outcome (Some a) [] =
      (inl refl, λ v i p. absurd i, λ b e. let same : a ≡ b = cc in subst (IsAsLateVersion a) same (as_late_self a))
  outcome found (v ∷ vs) = better_outcome found v vs (latest_from test key (better_of test key found v) vs)
      (outcome (better_of test key found v) vs)

  settled : (vs : List Version) (r : Option Version) → Outcome None vs r → IsLatest test key vs r
  settled vs None o = λ v c. o.1 v (in_list vs v c)
  settled vs (Some b) o = ⊎_elim (λ e. let z : ◌≡◌ {A = ℕ} 0 1 = cc in absurd (omega arith))
      (λ h. (contained vs b h.0, h.1, λ v c. o.1 v (in_list vs v c))) o.0

  pub latest_law : (vs : List Version) → IsLatest test key vs (latest test key vs)
  latest_law vs = settled vs (latest test key vs) (outcome None vs)
