-- With every outbox empty, all sites hold the same latest version of each key.
use Rattle.std.proofs.Common.{◌≡◌, ℕ, ◌<◌, Contains, Some, None, Option, sym, refl, ap, ◌∙◌, subst, ⊎_elim}
use Rattle.std.proofs.lemmas.Bool.{cases_eq}
use Rattle.stamps.specs.Kinds.{Kind}
use Rattle.servers.specs.declared.entry.Entry.TheVariants.{Update}
use Rattle.servers.specs.Laws.{IsLatest}
use Rattle.servers.specs.declared.version.Version.{Version}
use Rattle.servers.proofs.Elements.{InList}
use Rattle.group.specs.Model.Events.{IsAsLate, History}
use Rattle.group.specs.Model.Groups.{GroupState}
use Rattle.group.specs.Model.GroupStore.{HasEmptyOutboxes, versions_at}
use Rattle.group.specs.Model.Promises.{any_version}
use Rattle.group.proofs.Model.Invariant.{Shape, Ghost, name_of, part, Had}
use Rattle.group.proofs.Model.Effects.{part_small}
use Rattle.group.proofs.Model.GroupEffects.{shape}
use Rattle.group.proofs.Model.Showing.{as_late_trans, same_time, stands_late}
use Rattle.group.proofs.Model.Histories.{Inv}
use Rattle.group.proofs.Model.SessionLines.{held_from, held_in}

module _ {k : Kind} {sites : ℕ} {h : History} {g : GroupState} {G : Ghost} (v : Inv k sites h g G)
    (quiet : HasEmptyOutboxes g) where
  abbrev L : Shape
  L = shape g v.frame.layout.few_sites v.frame.layout.some_partitions

  -- every site has every version
  had : (w : Version) (s : ℕ) → s < g.sites → InList w G.log → Had L (λ a b. (g.server a b).marks.received) s w
  had w s l i = ⊎_elim
      (λ e. subst (λ (z : ℕ). Had L (λ a b. (g.server a b).marks.received) z w) (sym e) (v.core.logs.stamped w i))
      (λ ne. ⊎_elim (λ r. r)
      (λ p. absurd (subst (InList (Update w)) (quiet w.source s (part L w.key) (v.core.logs.source w i) l
      (part_small L w.key)) p))
      (v.core.queues.reach w s i l ne))
      (cases_eq s w.source)

  -- whatever one site holds, another holds too, or a later version of that key
  other : (w : Version) (s t key : ℕ) → t < g.sites → Contains (versions_at g s) w → w.key ≡ key →
      InList w G.log × ((u : Version) × Contains (versions_at g t) u × (u.key ≡ key) × IsAsLate (name_of u) (name_of w))
  other w s t key l i e =
      let r = held_from g s w i in
      let o = v.core.holds.had w s r.0 r.2 in
      let x = v.core.holds.kept w t l o.0 (had w t l o.0) in
      (o.0, (x.other, held_in g t (part L w.key) x.other (part_small L w.key) x.there, x.same_key ∙ e, stands_late x))

  pub agree : (s t key : ℕ) → s < g.sites → t < g.sites → (a b : Option Version) →
      IsLatest any_version key (versions_at g s) a → IsLatest any_version key (versions_at g t) b → a ≡ b
  agree s t key ls lt None None p q = refl
  agree s t key ls lt None (Some w) p q = let u = (other w t s key ls q.0 q.1.0).1 in absurd (p u.0 u.1 (u.2, refl))
  agree s t key ls lt (Some w) None p q = let u = (other w s t key lt p.0 p.1.0).1 in absurd (q u.0 u.1 (u.2, refl))
  agree s t key ls lt (Some w) (Some z) p q =
      let a = other w s t key lt p.0 p.1.0 in
      let b = other z t s key ls q.0 q.1.0 in
      let up = as_late_trans (name_of z) (name_of a.1.0) (name_of w) (q.2 a.1.0 a.1.1 (a.1.2, refl)) a.1.3 in
      let down = as_late_trans (name_of w) (name_of b.1.0) (name_of z) (p.2 b.1.0 b.1.1 (b.1.2, refl)) b.1.3 in
      let time = same_time (name_of w) (name_of z) down up in
      let keys : w.key ≡ z.key = p.1.0 ∙ sym q.1.0 in
      ap Some (v.core.logs.unique w z a.0 b.0 (λ i. record { key = keys i; stamp = time.0 i; source = time.1 i }))
