-- A site takes the next entry that waits for it.
use Rattle.std.proofs.Common.{◌≡◌, ℕ, ◌^◌, ◌<◌, ◌≤◌, eqb, ◌⊎◌, List, [], ◌∷◌, ◌++◌, drop, sym, refl, ap, ◌∙◌, subst}
use Rattle.std.proofs.Common.{inl, inr, ⊎_elim, arith}
use Rattle.std.proofs.lemmas.Bool.{cond_both, eqb-false, eqb-true}
use Rattle.stamps.specs.Rows.{PerSite, at, with_entry}
use Rattle.stamps.specs.Kinds.{Kind}
use Rattle.servers.specs.Entries.{entry_stamp}
use Rattle.servers.specs.declared.entry.Entry.{Entry}
use Rattle.servers.specs.declared.entry.Entry.TheVariants.{Update}
use Rattle.servers.specs.Outboxes.{take_entry}
use Rattle.servers.specs.declared.version.Version.{Version}
use Rattle.servers.proofs.Elements.{InList}
use Rattle.group.specs.Model.Pasts.{Pasts}
use Rattle.group.proofs.Model.Rows.{entry_rises, stamps_at}
use Rattle.group.proofs.Model.Lists.{in_left, in_end, in_push, set2, set2_cases}
use Rattle.group.proofs.Model.Invariant.{Shape, part, Ghost, Tables, last, Chain, Had, QueueInv, StandsIn, HeldInv}
use Rattle.group.proofs.Model.Invariant.{Core}
use Rattle.group.proofs.Model.Effects.{with_entries, Rises, rises_same, rises_set, grown_same, had_rises}
use Rattle.group.proofs.Model.Effects.{marks_received, session_received, cuts_received, pasts_rise}
use Rattle.group.proofs.Model.Issuing.{chain_above, chain_le, receiving, receiving_cases}
use Rattle.group.proofs.Model.Putting.{receiving_stamps, stands_grow}

-- what waits once site `to` has taken its next entry from server (from, n)
abbrev pub handed_over : (ℕ → ℕ → ℕ → List Entry) → ℕ → ℕ → ℕ → ℕ → ℕ → ℕ → List Entry
handed_over waits from to n = set2 waits from n (take_entry (waits from n) to)

pub handed_cases : (waits : ℕ → ℕ → ℕ → List Entry) (from to n j m s : ℕ) (P : List Entry → Type 0) →
    (j ≡ from → m ≡ n → s ≡ to → P (drop 1 (waits from n to))) → ((j ≡ from → m ≡ n → s ≡ to → ⊥) → P (waits j m s))
    → P (handed_over waits from to n j m s)
handed_cases waits from to n j m s P here other =
    set2_cases waits from n (take_entry (waits from n) to) j m (λ q. P (q s))
    (λ a b. cond_both (eqb s to) (drop 1 (waits from n s)) (waits from n s) P
    (λ e. let c = eqb-true s to e in subst (λ (x : ℕ). P (drop 1 (waits from n x))) (sym c) (here a b c))
    (λ e. subst (λ (x : ℕ). P (waits from x s)) b
    (subst (λ (x : ℕ). P (waits x m s)) a (other (λ _ _ c. eqb-false s to e c)))))
    (λ ne. other (λ a b _. ne a b))

-- what holds of a place of a table holds of an equal place
moved : (P : ℕ → ℕ → ℕ → Type 0) {a a' b b' c c' : ℕ} → a ≡ a' → b ≡ b' → c ≡ c' → P a b c → P a' b' c'
moved P {a} {a'} {b} {b'} {c} {c'} p q r x =
    subst (λ (z : ℕ). P a' b' z) r (subst (λ (z : ℕ). P a' z c) q (subst (λ (z : ℕ). P z b c) p x))

module _ {k : Kind} {L : Shape} {P : Pasts} {T : Tables} {G : Ghost} (h : Core k L P T G) (from to n : ℕ) (e : Entry)
    (rest : List Entry)
    (lf : from < L.sites) (lt : to < L.sites) (apart : from ≡ to → ⊥) (waiting : T.waits from n to ≡ e ∷ rest) where
  four : (j : ℕ) → j < L.sites → j < 4
  four j l = omega (arith, L.sites_four)

  abbrev received' : ℕ → ℕ → PerSite
  received' = receiving T.received to n from (entry_stamp e)

  abbrev waits' : ℕ → ℕ → ℕ → List Entry
  waits' = handed_over T.waits from to n

  next_chain : Chain (at (T.received to n) from) (e ∷ rest) (last T.received from n)
  next_chain = subst (λ (q : List Entry). Chain (at (T.received to n) from) q (last T.received from n)) waiting
      (h.queues.chain from to n lf lt (λ a. apart (sym a)))

  -- what is left for `to`
  left : drop 1 (T.waits from n to) ≡ rest
  left = ap (drop 1) waiting

  up : Rises T.received (receiving T.received to n from (entry_stamp e))
  up = rises_set T.received to n (with_entry (T.received to n) from (entry_stamp e))
      (entry_rises (T.received to n) from (entry_stamp e) (omega (arith, next_chain.0)))

  -- no server's own entry changes
  own_same : (j m : ℕ) → j < L.sites → last received' j m ≡ last T.received j m
  own_same j m l = receiving_cases T.received to n from (entry_stamp e) j m j (four from lf) (four j l)
      (λ x. x ≡ last T.received j m) (λ a _ c. absurd (apart (sym c ∙ a))) (λ _. refl)

  take_queues : QueueInv L received' waits' G.log
  take_queues = record {
    chain = chain';
    pending = pending';
    reach = λ v s i l ne. reach' v s (h.logs.source v i) (h.queues.reach v s i l ne);
  }
    where
      chain' : (j s m : ℕ) → j < L.sites → s < L.sites → (s ≡ j → ⊥)
          → Chain (at (received' s m) j) (waits' j m s) (last received' j m)
      chain' j s m lj ls ne = subst (λ (x : ℕ). Chain (at (received' s m) j) (waits' j m s) x) (sym (own_same j m lj))
          (receiving_cases T.received to n from (entry_stamp e) s m j (four from lf) (four j lj)
          (λ x. Chain x (waits' j m s) (last T.received j m))
          (λ a b c. handed_cases T.waits from to n j m s (λ q. Chain (entry_stamp e) q (last T.received j m))
          (λ _ _ _. rw (c, b) (subst (λ (q : List Entry). Chain (entry_stamp e) q (last T.received from n)) (sym left)
          next_chain.1))
          (λ no'. absurd (no' c b a)))
          (λ other. handed_cases T.waits from to n j m s (λ q. Chain (at (T.received s m) j) q (last T.received j m))
          (λ c b a. absurd (other a b c))
          (λ _. h.queues.chain j s m lj ls ne)))

      pending' : (v : Version) (j s m : ℕ) → j < L.sites → s < L.sites → (s ≡ j → ⊥) → InList (Update v) (waits' j m s)
          → InList v G.log × (v.source ≡ j) × (part L v.key ≡ m)
      pending' v j s m lj ls ne = handed_cases T.waits from to n j m s
          (λ q. InList (Update v) q → InList v G.log × (v.source ≡ j) × (part L v.key ≡ m))
          (λ a b c i. h.queues.pending v j s m lj ls ne
          (moved (λ x y z. InList (Update v) (T.waits x y z)) (sym a) (sym b) (sym c)
          (subst (InList (Update v)) (sym waiting) (inr (subst (InList (Update v)) left i)))))
          (λ _ i. h.queues.pending v j s m lj ls ne i)

      reach' : (v : Version) (s : ℕ) → v.source < L.sites
          → Had L T.received s v ⊎ InList (Update v) (T.waits v.source (part L v.key) s)
          → Had L received' s v ⊎ InList (Update v) (waits' v.source (part L v.key) s)
      reach' v s src (inl had) = inl (had_rises L s v up had)
      reach' v s src (inr i) =
          handed_cases T.waits from to n v.source (part L v.key) s (λ q. Had L received' s v ⊎ InList (Update v) q)
          (λ a b c. go a b c (subst (InList (Update v)) waiting
          (moved (λ x y z. InList (Update v) (T.waits x y z)) a b c i)))
          (λ _. inr i)
        where
          go : v.source ≡ from → part L v.key ≡ n → s ≡ to → InList (Update v) (e ∷ rest)
              → Had L received' s v ⊎ InList (Update v) (drop 1 (T.waits from n to))
          go a b c (inl same) = inl (receiving_cases T.received to n from (entry_stamp e) s (part L v.key) v.source
              (four from lf) (four v.source src) (λ x. v.stamp ≤ x)
              (λ _ _ _. let t : v.stamp ≡ entry_stamp e = ap entry_stamp same in omega arith)
              (λ no'. absurd (no' c b a)))
          go a b c (inr j) = inr (subst (InList (Update v)) (sym left) j)

  -- The held versions afterwards: the old ones, and the entry's version if it is an update.
  take_holds : (held' : ℕ → ℕ → List Version) →
      ((v : Version) (s m : ℕ) → InList v (T.held s m) → InList v (held' s m)) →
      ((v : Version) → Update v ≡ e → InList v (held' to n)) →
      ((v : Version) (s m : ℕ) → InList v (held' s m) → InList v (T.held s m) ⊎ ((Update v ≡ e) × (s ≡ to) × (m ≡ n))) →
      HeldInv k L received' held' T.safe G.log
  take_holds held' grow fresh cover = record { had = λ v s m i. had' v s m (cover v s m i); kept = kept' }
    where
      had' : (v : Version) (s m : ℕ) → InList v (T.held s m) ⊎ ((Update v ≡ e) × (s ≡ to) × (m ≡ n))
          → InList v G.log × (part L v.key ≡ m) × Had L received' s v
      had' v s m (inl i) = let o = h.holds.had v s m i in (o.0, o.1, had_rises L s v up o.2)
      had' v s m (inr (same, a, b)) =
          let o = h.queues.pending v from to n lf lt (λ d. apart (sym d))
          (subst (InList (Update v)) (sym waiting) (inl same)) in (
            o.0,
            o.2 ∙ sym b,
            receiving_cases T.received to n from (entry_stamp e) s (part L v.key) v.source (four from lf)
                (subst (λ (x : ℕ). x < 4) (sym o.1) (four from lf)) (λ x. v.stamp ≤ x)
                (λ _ _ _. let t : v.stamp ≡ entry_stamp e = ap entry_stamp same in omega arith)
                (λ no'. absurd (no' a o.2 o.1)),
          )

      kept' : (v : Version) (s : ℕ) → s < L.sites → InList v G.log → Had L received' s v
          → StandsIn k (held' s (part L v.key)) (T.safe s) v
      kept' v s l i = receiving_cases T.received to n from (entry_stamp e) s (part L v.key) v.source (four from lf)
          (four v.source (h.logs.source v i)) (λ x. v.stamp ≤ x → StandsIn k (held' s (part L v.key)) (T.safe s) v)
          (λ a b c le. hit a b c le (h.queues.reach v s i l (λ d. apart (sym (sym a ∙ (d ∙ c))))))
          (λ _ had. old had)
        where
          old : Had L T.received s v → StandsIn k (held' s (part L v.key)) (T.safe s) v
          old had = stands_grow _ _ _ v (λ w j. grow w s (part L v.key) j) (h.holds.kept v s l i had)

          next : s ≡ to → part L v.key ≡ n → v.stamp ≤ entry_stamp e → InList (Update v) (e ∷ rest)
              → StandsIn k (held' s (part L v.key)) (T.safe s) v
          next a b le (inl same) = record {
            other = v;
            there = subst (λ (x : ℕ). InList v (held' s x)) (sym b)
                (subst (λ (x : ℕ). InList v (held' x n)) (sym a) (fresh v same));
            same_key = refl;
            how = inl refl;
          }
          next a b le (inr j) = absurd (let c : entry_stamp e < v.stamp = chain_above (entry_stamp e)
              (last T.received from n) rest (Update v) next_chain.1 j in omega arith)

          hit : s ≡ to → part L v.key ≡ n → v.source ≡ from → v.stamp ≤ entry_stamp e →
              Had L T.received s v ⊎ InList (Update v) (T.waits v.source (part L v.key) s)
              → StandsIn k (held' s (part L v.key)) (T.safe s) v
          hit a b c le (inl had) = old had
          hit a b c le (inr j) = next a b le (subst (InList (Update v)) waiting
              (moved (λ x y z. InList (Update v) (T.waits x y z)) c b a j))

  -- an entry that waits has a stamp: its source's last one is at least as high
  small : entry_stamp e < 2 ^ 63
  small =
      let high = chain_le (entry_stamp e) (last T.received from n) rest next_chain.1 in
      omega (arith, stamps_at (T.received from n) from (h.marks.received_stamps from n))

  taken : (held' : ℕ → ℕ → List Version) → HeldInv k L received' held' T.safe G.log
      → Core k L P (with_entries T held' received' waits') G
  taken held' holds' = record {
    logs = record {
      source = h.logs.source;
      stamped = λ v i. subst (λ (x : ℕ). v.stamp ≤ x) (sym (own_same v.source (part L v.key) (h.logs.source v i)))
          (h.logs.stamped v i);
      small = h.logs.small;
      marked = h.logs.marked;
      above = h.logs.above;
      unique = h.logs.unique;
    };
    queues = take_queues;
    holds = holds';
    marks = marks_received up (receiving_stamps T.received to n from (entry_stamp e) h.marks.received_stamps small)
        h.marks;
    sessions = λ i l. session_received up (h.sessions i l);
    seats = h.seats;
    cuts = cuts_received up h.cuts;
    pasts = pasts_rise up (rises_same T.stable) (grown_same T.opened T.session) (λ v j. j) h.pasts;
  }

  pub taken_beat : ((v : Version) → Update v ≡ e → ⊥)
      → Core k L P (with_entries T T.held (receiving T.received to n from (entry_stamp e))
      (handed_over T.waits from to n)) G
  taken_beat no_update =
      taken T.held (take_holds T.held (λ v s m i. i) (λ v a. absurd (no_update v a)) (λ v s m i. inl i))

  pub taken_update : (v : Version) → e ≡ Update v →
      Core k L P (with_entries T (set2 T.held to n (T.held to n ++ (v ∷ [])))
      (receiving T.received to n from (entry_stamp e)) (handed_over T.waits from to n)) G
  taken_update v is = taken held' (take_holds held' grow fresh cover)
    where
      held' : ℕ → ℕ → List Version
      held' = set2 T.held to n (T.held to n ++ (v ∷ []))

      grow : (w : Version) (s m : ℕ) → InList w (T.held s m) → InList w (held' s m)
      grow w s m j = set2_cases T.held to n (T.held to n ++ (v ∷ [])) s m (InList w)
          (λ a b. in_left w (T.held to n) (v ∷ []) (rw (a, b) at j)) (λ _. j)

      same : (w : Version) → Update w ≡ e → v ≡ w
      same w a = let b : Update w ≡ Update v = a ∙ is in cc

      fresh : (w : Version) → Update w ≡ e → InList w (held' to n)
      fresh w a = set2_cases T.held to n (T.held to n ++ (v ∷ [])) to n (InList w)
          (λ _ _. subst (λ (u : Version). InList u (T.held to n ++ (v ∷ []))) (same w a) (in_end (T.held to n) v))
          (λ no'. absurd (no' refl refl))

      cover : (w : Version) (s m : ℕ) → InList w (held' s m)
          → InList w (T.held s m) ⊎ ((Update w ≡ e) × (s ≡ to) × (m ≡ n))
      cover w s m = set2_cases T.held to n (T.held to n ++ (v ∷ [])) s m
          (λ vs. InList w vs → InList w (T.held s m) ⊎ ((Update w ≡ e) × (s ≡ to) × (m ≡ n)))
          (λ a b j. ⊎_elim (λ i. inl (rw (a, b) i)) (λ d. inr (ap Update d ∙ sym is, a, b))
          (in_push w (T.held to n) v j))
          (λ _ j. inl j)
