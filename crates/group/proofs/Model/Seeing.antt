-- A session that is shown a version has it and its past in its own past from then on.
use Rattle.std.proofs.Common.{◌≡◌, ℕ, ◌^◌, ◌<◌, ◌⊎◌, List, sym, ◌∙◌, subst, inl, inr, le_trans, arith}
use Rattle.stamps.specs.Rows.{PerSite, Covers}
use Rattle.stamps.specs.Kinds.{Kind, IsLawfulKind}
use Rattle.servers.specs.Versions.{full_mark}
use Rattle.servers.specs.declared.version.Version.{Version}
use Rattle.servers.proofs.Elements.{InList}
use Rattle.group.specs.Model.Events.{Put}
use Rattle.group.specs.Model.Pasts.{Pasts, of_session, pasts_with_shown}
use Rattle.group.proofs.Model.Rows.{covers_trans, covers_at, full_mark_lem, full_stamp}
use Rattle.group.proofs.Model.Invariant.{Shape, part, Ghost, Tables, name_of, Had, Below, LogInv, Reached, Before, Core}
use Rattle.group.proofs.Model.Effects.{part_small}

module _ {k : Kind} (law : IsLawfulKind k) (L : Shape) where
  source_four : (s : ℕ) → s < L.sites → s < 4
  source_four s l = omega (arith, L.sites_four)

  -- what a mark of site s covers, site s has
  pub had_below : (received : ℕ → ℕ → PerSite) (s : ℕ) (m : PerSite) (w : Version) → w.source < L.sites
      → w.stamp < 2 ^ 63 → Below L received s m → Covers m (full_mark k w) → Had L received s w
  had_below received s m w l small b c =
      let n = part L w.key in
      le_trans (full_stamp law w m (source_four w.source l) small c)
      (covers_at (received s n) m w.source (b n (part_small L w.key)))

  -- v is the site's own and its server's stable mark is known, or its full mark is known
  abbrev pub Clear : (ℕ → ℕ → PerSite) → ℕ → PerSite → Version → Type 0
  Clear stable s clear v =
      ((v.source ≡ s) × Covers clear (stable v.source (part L v.key))) ⊎ Covers clear (full_mark k v)

  -- the past of a version that is clear at site s is reached there
  through : (received stable : ℕ → ℕ → PerSite) {log : List Version} (s : ℕ) {mark : PerSite} (clear : PerSite)
      {p : Put} (v : Version) →
      LogInv k L received log → InList v log → Below L received s clear → Covers mark (full_mark k v)
      → Clear stable s clear v →
      Reached k L received log v.source v.mark (stable v.source (part L v.key)) p
      → Reached k L received log s mark clear p
  through received stable s clear v logs i b c (inl (own, st)) r = record {
    version = r.version;
    logged = r.logged;
    named = r.named;
    covered = covers_trans c (covers_trans (full_mark_lem law v (logs.marked v i)) r.covered);
    here = subst (λ (x : ℕ). Had L received x r.version) own r.here;
    seen = go r.seen;
  }
    where
      go : (r.version.source ≡ v.source) ⊎ Covers (stable v.source (part L v.key)) (full_mark k r.version)
          → (r.version.source ≡ s) ⊎ Covers clear (full_mark k r.version)
      go (inl e) = inl (e ∙ own)
      go (inr d) = inr (covers_trans st d)
  through received stable s clear v logs i b c (inr d) r =
      let over = covers_trans (full_mark_lem law v (logs.marked v i)) r.covered in
      let low = covers_trans d over in
      record {
        version = r.version;
        logged = r.logged;
        named = r.named;
        covered = covers_trans c over;
        here = had_below received s clear r.version (logs.source r.version r.logged) (logs.small r.version r.logged) b
            low;
        seen = inr low;
      }

  -- session i has been shown v, and depends on it and knows what it needs already
  pub seen_too : {P : Pasts} {T : Tables} {G : Ghost} (i : ℕ) (v : Version) → i < T.opened → InList v G.log
      → Had L T.received (T.session i).site v →
      Covers (T.session i).depends (full_mark k v) → Clear T.stable (T.session i).site (T.session i).knows v →
      Core k L P T G → Core k L (pasts_with_shown P i (name_of v)) T G
  seen_too {P = P} {T = T} {G = G} i v l logged had dep clear h = record {
    logs = h.logs;
    queues = h.queues;
    holds = h.holds;
    marks = h.marks;
    sessions = h.sessions;
    seats = h.seats;
    cuts = h.cuts;
    pasts = record { open_only = only; of_session_lem = sess; of_put_lem = h.pasts.of_put_lem };
  }
    where
      only : (j : ℕ) (p : Put) → pasts_with_shown P i (name_of v) (of_session j) p → j < T.opened
      only j p (inl q) = h.pasts.open_only j p q
      only j p (inr (e, q)) = rw e l

      own : Clear T.stable (T.session i).site (T.session i).knows v
          → (v.source ≡ (T.session i).site) ⊎ Covers (T.session i).knows (full_mark k v)
      own (inl c) = inl c.0
      own (inr c) = inr c

      itself : (p : Put) → p ≡ name_of v → Reached k L T.received G.log (T.session i).site (T.session i).depends
          (T.session i).knows p
      itself p e = record { version = v; logged = logged; named = sym e; covered = dep; here = had; seen = own clear }

      its : (p : Put) → Before k L T.received T.stable G.log (name_of v) p
          → Reached k L T.received G.log (T.session i).site (T.session i).depends (T.session i).knows p
      its p b =
          let same : b.writer ≡ v = h.logs.unique b.writer v b.logged logged b.named in
          through T.received T.stable (T.session i).site (T.session i).knows v h.logs logged
          (h.sessions i l).knows_below dep clear
          (subst (λ (w : Version). Reached k L T.received G.log w.source w.mark (T.stable w.source (part L w.key)) p)
          same b.reached)

      sess : (j : ℕ) (p : Put) → pasts_with_shown P i (name_of v) (of_session j) p
          → Reached k L T.received G.log (T.session j).site (T.session j).depends (T.session j).knows p
      sess j p (inl q) = h.pasts.of_session_lem j p q
      sess j p (inr (e, inl q)) = rw e (itself p q)
      sess j p (inr (e, inr q)) = rw e (its p (h.pasts.of_put_lem (name_of v) p q))
