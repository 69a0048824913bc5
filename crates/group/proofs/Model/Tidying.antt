-- Tidying keeps a version, or one that stands in for it, of everything that had one.
use Rattle.std.proofs.Common.{◌≡◌, ℕ, ◌<◌, ◌⊎◌, List, sym, ◌∙◌, subst, inl, inr, ⊎_elim, arith}
use Rattle.stamps.specs.Rows.{PerSite, Covers}
use Rattle.stamps.specs.Kinds.{Kind}
use Rattle.servers.specs.Laws.{IsTidied}
use Rattle.servers.specs.Tables.{versions_kept, table_tidy}
use Rattle.servers.specs.Versions.{full_mark}
use Rattle.servers.specs.declared.version.Version.{Version}
use Rattle.servers.proofs.Elements.{InList, contained, in_list}
use Rattle.servers.proofs.Tidied.{tidied_law}
use Rattle.group.specs.Model.Events.{Put, IsLater}
use Rattle.group.specs.Model.Pasts.{Pasts}
use Rattle.group.proofs.Model.Rows.{covers_true}
use Rattle.group.proofs.Model.Lists.{set2, set2_cases}
use Rattle.group.proofs.Model.Invariant.{Shape, part, Ghost, Tables, name_of, Had, StandsIn, Core}
use Rattle.group.proofs.Model.Effects.{with_held}

later_later : (a b c : Put) → IsLater a b → IsLater b c → IsLater a c
later_later a b c p q = (omega arith, λ s. omega (arith, p.1, q.1))

module _ (k : Kind) (vs : List Version) (safe : PerSite) where
  law : IsTidied k safe vs (versions_kept k safe vs) (table_tidy k safe vs).0
  law = tidied_law k safe vs

  tidy_stands : (v : Version) → StandsIn k vs safe v → StandsIn k (versions_kept k safe vs) safe v
  tidy_stands v x = ⊎_elim
      (λ i. record {
        other = x.other;
        there = in_list (versions_kept k safe vs) x.other i;
        same_key = x.same_key;
        how = x.how;
      })
      (λ d. record {
        other = d.0;
        there = in_list (versions_kept k safe vs) d.0 d.1;
        same_key = d.2
            ∙ x.same_key;
        how = inr (later d.0 d.4 x.how, covers_true safe (full_mark k d.0) d.3);
      })
      (law.drops x.other (contained vs x.other x.there))
    where
      later : (w : Version) → IsLater (name_of w) (name_of x.other)
          → (x.other ≡ v) ⊎ (IsLater (name_of x.other) (name_of v) × Covers safe (full_mark k x.other))
          → IsLater (name_of w) (name_of v)
      later w l (inl e) = subst (λ (u : Version). IsLater (name_of w) (name_of u)) e l
      later w l (inr (m, _)) = later_later (name_of w) (name_of x.other) (name_of v) l m

-- server (s, n) is tidied under the safe mark of its site
pub tidied_too : {k : Kind} {L : Shape} {P : Pasts} {T : Tables} {G : Ghost} (s n : ℕ) → Core k L P T G →
    Core k L P (with_held T (set2 T.held s n (versions_kept k (T.safe s) (T.held s n)))) G
tidied_too {k = k} {L = L} {T = T} {G = G} s n h = record {
  logs = h.logs;
  queues = h.queues;
  holds = record { had = had'; kept = kept' };
  marks = h.marks;
  sessions = h.sessions;
  seats = h.seats;
  cuts = h.cuts;
  pasts = h.pasts;
}
  where
    new : List Version
    new = versions_kept k (T.safe s) (T.held s n)

    had' : (v : Version) (s' n' : ℕ) → InList v (set2 T.held s n new s' n')
        → InList v G.log × (part L v.key ≡ n') × Had L T.received s' v
    had' v s' n' = set2_cases T.held s n new s' n'
        (λ vs. InList v vs → InList v G.log × (part L v.key ≡ n') × Had L T.received s' v)
        (λ a b i. h.holds.had v s' n' (rw (a, b)
        (in_list (T.held s n) v ((tidied_law k (T.safe s) (T.held s n)).held v (contained new v i)))))
        (λ _ i. h.holds.had v s' n' i)

    kept' : (v : Version) (s' : ℕ) → s' < L.sites → InList v G.log → Had L T.received s' v
        → StandsIn k (set2 T.held s n new s' (part L v.key)) (T.safe s') v
    kept' v s' l i hd = set2_cases T.held s n new s' (part L v.key) (λ vs. StandsIn k vs (T.safe s') v)
        (λ a b. subst (λ (x : ℕ). StandsIn k new (T.safe x) v) (sym a)
        (tidy_stands k (T.held s n) (T.safe s) v
        (subst (λ (x : ℕ). StandsIn k (T.held s x) (T.safe s) v) b
        (subst (λ (x : ℕ). StandsIn k (T.held x (part L v.key)) (T.safe x) v) a (h.holds.kept v s' l i hd)))))
        (λ _. h.holds.kept v s' l i hd)
