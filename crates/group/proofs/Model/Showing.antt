-- What a snapshot shows of a key is the latest version ever put that its cut covers.
use Rattle.std.proofs.Common.{◌≡◌, ℕ, ◌<◌, ◌⊎◌, List, Some, None, Option, sym, refl, ap, ◌∙◌, subst, inl, inr, arith}
use Rattle.stamps.specs.Rows.{PerSite, Covers}
use Rattle.stamps.specs.Kinds.{Kind, IsLawfulKind}
use Rattle.servers.specs.Laws.{IsLatest, Passes}
use Rattle.servers.specs.Tables.{is_covered}
use Rattle.servers.specs.Versions.{full_mark}
use Rattle.servers.specs.declared.version.Version.{Version}
use Rattle.servers.proofs.Elements.{InList, contained, in_list}
use Rattle.group.specs.Model.Events.{Put, IsAsLate, IsLater}
use Rattle.group.specs.Model.Pasts.{Pasts}
use Rattle.group.proofs.Model.Rows.{covers_trans, covers_true, covers_from}
use Rattle.group.proofs.Model.Invariant.{Shape, part, Ghost, Tables, name_of, Below, StandsIn, Core}
use Rattle.group.proofs.Model.Seeing.{had_below}

pub as_late_self : (p : Put) → IsAsLate p p
as_late_self p = (omega arith, λ s. omega arith)

pub as_late_trans : (p q r : Put) → IsAsLate p q → IsAsLate q r → IsAsLate p r
as_late_trans p q r a b = (omega arith, λ s. omega (arith, a.1, b.1))

pub later_as_late : (p q : Put) → IsLater p q → IsAsLate p q
later_as_late p q l = (l.0, λ s. let h = l.1 s in omega arith)

-- two puts of which neither is later have one stamp and one source
pub same_time : (p q : Put) → IsAsLate p q → IsAsLate q p → (p.stamp ≡ q.stamp) × (p.source ≡ q.source)
same_time p q a b =
    let e : q.stamp ≡ p.stamp = omega arith in
    let l = a.1 e in
    let m = b.1 (sym e) in
    (sym e, omega arith)

-- o is the latest version of a key in the log that m covers
abbrev pub Best : Kind → List Version → PerSite → ℕ → Option Version → Type 0
Best k log m key None = (v : Version) → InList v log → v.key ≡ key → Covers m (full_mark k v) → ⊥
Best k log m key (Some w) =
    InList w log × (w.key ≡ key) × Covers m (full_mark k w)
    × ((v : Version) → InList v log → v.key ≡ key → Covers m (full_mark k v) → IsAsLate (name_of w) (name_of v))

-- the log has one latest version
pub best_same : (k : Kind) (log : List Version) (m : PerSite) (key : ℕ)
    → ((v w : Version) → InList v log → InList w log → name_of v ≡ name_of w → v ≡ w) →
    (o p : Option Version) → Best k log m key o → Best k log m key p → o ≡ p
best_same k log m key unique None None b c = refl
best_same k log m key unique None (Some w) b c = absurd (b w c.0 c.1 c.2)
best_same k log m key unique (Some v) None b c = absurd (c v b.0 b.1 b.2)
best_same k log m key unique (Some v) (Some w) b c =
    let t = same_time (name_of v) (name_of w) (b.3 w c.0 c.1 c.2) (c.3 v b.0 b.1 b.2) in
    let e : v.key ≡ w.key = b.1 ∙ sym c.1 in
    ap Some (unique v w b.0 c.0 (λ i. record { key = e i; stamp = t.0 i; source = t.1 i }))

-- a version and what stands in for it
pub stands_late : {k : Kind} {vs : List Version} {safe : PerSite} {v : Version} (x : StandsIn k vs safe v)
    → IsAsLate (name_of x.other) (name_of v)
stands_late {k} {vs} {safe} {v} x = go x.how
  where
    go : (x.other ≡ v) ⊎ (IsLater (name_of x.other) (name_of v) × Covers safe (full_mark k x.other))
        → IsAsLate (name_of x.other) (name_of v)
    go (inl e) = subst (λ (u : Version). IsAsLate (name_of u) (name_of v)) (sym e) (as_late_self (name_of v))
    go (inr (l, _)) = later_as_late (name_of x.other) (name_of v) l

module _ {k : Kind} (law : IsLawfulKind k) (L : Shape) {P : Pasts} {T : Tables} {G : Ghost} (h : Core k L P T G)
    (m : PerSite) (s key : ℕ)
    (ls : s < L.sites) (b : Below L T.received s m) (over : Covers m (T.safe s)) where
  -- whatever the cut covers is held, or a later one that the cut covers is
  cut_holds : (v : Version) → InList v G.log → v.key ≡ key → Covers m (full_mark k v) →
      (w : Version) × InList w (T.held s (part L key)) × Passes (is_covered k m) key w
      × IsAsLate (name_of w) (name_of v)
  cut_holds v i e c = (
    x.other,
    subst (λ (z : ℕ). InList x.other (T.held s (part L z))) e x.there,
    (x.same_key ∙ e, covers_from m (full_mark k x.other) (cov x.how)),
    stands_late x,
  )
    where
      x : StandsIn k (T.held s (part L v.key)) (T.safe s) v
      x = h.holds.kept v s ls i (had_below law L T.received s m v (h.logs.source v i) (h.logs.small v i) b c)

      cov : (x.other ≡ v) ⊎ (IsLater (name_of x.other) (name_of v) × Covers (T.safe s) (full_mark k x.other))
          → Covers m (full_mark k x.other)
      cov (inl same) = subst (λ (u : Version). Covers m (full_mark k u)) (sym same) c
      cov (inr (_, d)) = covers_trans over d

  pub best_read : (o : Option Version) → IsLatest (is_covered k m) key (T.held s (part L key)) o → Best k G.log m key o
  best_read None best = λ v i e c. let w = cut_holds v i e c in best w.0 (contained (T.held s (part L key)) w.0 w.1) w.2
  best_read (Some u) best = (
    (h.holds.had u s (part L key) (in_list (T.held s (part L key)) u best.0)).0,
    best.1.0,
    covers_true m (full_mark k u) best.1.1,
    λ v i e c. let w = cut_holds v i e c in as_late_trans (name_of u) (name_of w.0) (name_of v)
        (best.2 w.0 (contained (T.held s (part L key)) w.0 w.1) w.2) w.3,
  )
