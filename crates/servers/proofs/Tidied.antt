-- Tidying keeps what has to stay, and drops only what a version that stays stands in for.
use Rattle.std.proofs.Common.{◌≡◌, Bool, true, false, cond, not, ◌&&◌, eqb, ◌⊎◌, List, [], ◌∷◌, Contains, Some, None}
use Rattle.std.proofs.Common.{Option, sym, refl, ap, ◌∙◌, subst, inl, inr, ⊎_elim, arith, filter}
use Rattle.std.proofs.lemmas.Bool.{and_from, and_parts, cases_Bool, eq-eqb, eqb-true, false≢true, or_cases, or_left}
use Rattle.std.proofs.lemmas.Bool.{or_right}
use Rattle.std.proofs.lemmas.List.Filters.{length-filter_both}
use Rattle.stamps.specs.Kinds.{Kind}
use Rattle.stamps.specs.Rows.{PerSite}
use Rattle.servers.specs.Versions.{is_later}
use Rattle.servers.specs.declared.version.Version.{Version}
use Rattle.servers.specs.Tables.{is_covered, latest, is_outdated, is_outdated_by, versions_kept, table_tidy}
use Rattle.servers.specs.Laws.{IsAsLateVersion, IsLatest, IsTidied, IsLaterVersion}
use Rattle.servers.proofs.Elements.{InList, contained, in_list}
use Rattle.servers.proofs.Latest.{as_late_later, latest_law, later_from, later_gives, not_both}

pub kept_held : {A : Type 0} (p : A → Bool) (xs : List A) (x : A) → InList x (filter p xs) → InList x xs
kept_held p [] x i = i
kept_held p (y ∷ ys) x i = go (p y) (kept_held p ys x) i
  where
    go : (b : Bool) → (InList x (filter p ys) → InList x ys) → InList x (cond b (y ∷ filter p ys) (filter p ys))
        → (x ≡ y) ⊎ InList x ys
    go true rec j = ⊎_elim inl (λ h. inr (rec h)) j
    go false rec j = inr (rec j)

kept_passes : {A : Type 0} (p : A → Bool) (xs : List A) (x : A) → InList x (filter p xs) → p x ≡ true
kept_passes p [] x i = absurd i
kept_passes p (y ∷ ys) x i = go (p y) refl (kept_passes p ys x) i
  where
    go : (b : Bool) → p y ≡ b → (InList x (filter p ys) → p x ≡ true)
        → InList x (cond b (y ∷ filter p ys) (filter p ys)) → p x ≡ true
    go true is rec j = ⊎_elim (λ e. ap p e ∙ is) rec j
    go false is rec j = rec j

pub kept_stays : {A : Type 0} (p : A → Bool) (xs : List A) (x : A) → InList x xs → p x ≡ true → InList x (filter p xs)
kept_stays p [] x i e = i
kept_stays p (y ∷ ys) x i e = go (p y) refl (λ j. kept_stays p ys x j e) i
  where
    go : (b : Bool) → p y ≡ b → (InList x ys → InList x (filter p ys)) → (x ≡ y) ⊎ InList x ys
        → InList x (cond b (y ∷ filter p ys) (filter p ys))
    go true is rec j = ⊎_elim inl (λ h. inr (rec h)) j
    go false is rec j = ⊎_elim (λ s. absurd (false≢true (sym is ∙ ap p (sym s) ∙ e))) rec j

module _ (k : Kind) (safe : PerSite) where
  -- the version that makes another outdated
  abbrev Replaces : Version → Version → Type 0
  Replaces w v = (w.key ≡ v.key) × (is_covered k safe w ≡ true) × IsLaterVersion w v

  by_gives : (v w : Version) → is_outdated_by k safe v w ≡ true → Replaces w v
  by_gives v w e =
      let a = and_parts (eqb w.key v.key) (is_later w v && is_covered k safe w) e in
      let b = and_parts (is_later w v) (is_covered k safe w) a.1 in
      (eqb-true w.key v.key a.0, b.1, later_gives w v b.0)

  by_from : (v w : Version) → Replaces w v → is_outdated_by k safe v w ≡ true
  by_from v w r = and_from (eqb w.key v.key) (is_later w v && is_covered k safe w) (eq-eqb w.key v.key r.0)
      (and_from (is_later w v) (is_covered k safe w) (later_from w v r.2) r.1)

  outdated_gives : (vs : List Version) (v : Version) → is_outdated k safe vs v ≡ true
      → (w : Version) × InList w vs × Replaces w v
  outdated_gives [] v e = absurd (false≢true e)
  outdated_gives (w ∷ ws) v e =
      ⊎_elim (λ h. (w, inl refl, by_gives v w h)) (λ h. let r = outdated_gives ws v h in (r.0, inr r.1, r.2))
      (or_cases (is_outdated_by k safe v w) (is_outdated k safe ws v) e)

  outdated_from : (vs : List Version) (v w : Version) → InList w vs → Replaces w v → is_outdated k safe vs v ≡ true
  outdated_from [] v w i r = absurd i
  outdated_from (u ∷ us) v w i r =
      ⊎_elim (λ e. or_left (is_outdated_by k safe v u) (is_outdated k safe us v)
      (by_from v u (subst (λ x. Replaces x v) e r)))
      (λ j. or_right (is_outdated_by k safe v u) (is_outdated k safe us v) (outdated_from us v w j r)) i

  stay : (vs : List Version) (v : Version) → InList v vs
      → ((w : Version) → InList w vs → w.key ≡ v.key → is_covered k safe w ≡ true → IsAsLateVersion v w)
      → InList v (versions_kept k safe vs)
  stay vs v i late = kept_stays (λ u. not (is_outdated k safe vs u)) vs v i (go (is_outdated k safe vs v) refl)
    where
      go : (b : Bool) → is_outdated k safe vs v ≡ b → not b ≡ true
      go true e =
          let r = outdated_gives vs v e in
          absurd (not_both v r.0 (late r.0 r.1 r.2.0 r.2.1) r.2.2)
      go false e = refl

  -- the latest covered version of the key stays
  replaced : (vs : List Version) (v w : Version) → InList w vs → Replaces w v → (r : Option Version)
      → IsLatest (is_covered k safe) v.key vs r
      → (m : Version) × InList m (versions_kept k safe vs) × Replaces m v
  replaced vs v w i rep None l = absurd (l w (contained vs w i) (rep.0, rep.1))
  replaced vs v w i rep (Some m) l =
      let last = l.2 w (contained vs w i) (rep.0, rep.1) in (
        m,
        stay vs m (in_list vs m l.0) (λ u j key cov. l.2 u (contained vs u j) (key ∙ l.1.0, cov)),
        (l.1.0, l.1.1, as_late_later m w v last rep.2),
      )

  pub tidied_law : (vs : List Version) → IsTidied k safe vs (versions_kept k safe vs) (table_tidy k safe vs).0
  tidied_law vs =
      record {
        held = λ v c. contained vs v (kept_held (λ u. not (is_outdated k safe vs u)) vs v (kept v c));
        gone = λ v w c key cov late d. false≢true
            (sym (ap not (outdated_from vs v w (in_list vs w c) (key, cov, late)))
            ∙ kept_passes (λ u. not (is_outdated k safe vs u)) vs v (kept v d));
        drops = λ v c. ⊎_elim
            (λ e. let r = outdated_gives vs v e in
            let m = replaced vs v r.0 r.1 r.2 (latest (is_covered k safe) v.key vs)
            (latest_law (is_covered k safe) v.key vs) in
            inr (m.0, contained (versions_kept k safe vs) m.0 m.1, m.2.0, m.2.1, m.2.2))
            (λ e. inl (contained (versions_kept k safe vs) v
            (kept_stays (λ u. not (is_outdated k safe vs u)) vs v (in_list vs v c) (ap not e))))
            (cases_Bool (is_outdated k safe vs v));
        counts = let l = length-filter_both (is_outdated k safe vs) (λ u. not (is_outdated k safe vs u)) (λ _. refl)
            vs in omega arith;
      }
    where
      kept : (v : Version) → Contains (versions_kept k safe vs) v → InList v (versions_kept k safe vs)
      kept = in_list (versions_kept k safe vs)
