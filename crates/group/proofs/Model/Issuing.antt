-- A server issues an entry: a put's version, or a heartbeat.
use Rattle.std.proofs.Common.{◌≡◌, ℕ, ◌<◌, ◌≤◌, not, eqb, ltb, ◌⊎◌, List, [], ◌∷◌, ◌++◌, sym, refl, ◌∙◌, subst, inl}
use Rattle.std.proofs.Common.{inr, ⊎_elim, le_refl, arith}
use Rattle.std.proofs.lemmas.Bool.{and_from, cases_eq, cond-true, lt-ltb, ne_eqb, not_from_false}
use Rattle.stamps.specs.Rows.{PerSite, at, with_entry}
use Rattle.servers.specs.Entries.{entry_stamp}
use Rattle.servers.specs.declared.entry.Entry.{Entry}
use Rattle.servers.specs.declared.entry.Entry.TheVariants.{Update}
use Rattle.servers.specs.Others.{is_other}
use Rattle.servers.specs.Outboxes.{issue_entry}
use Rattle.servers.specs.declared.version.Version.{Version}
use Rattle.servers.proofs.Elements.{InList}
use Rattle.group.proofs.Model.Rows.{at_entry_same, at_entry_other, entry_rises}
use Rattle.group.proofs.Model.Lists.{in_left, in_end, in_push, set2, set2_cases}
use Rattle.group.proofs.Model.Invariant.{Shape, part, last, Chain, Had, QueueInv}
use Rattle.group.proofs.Model.Effects.{Rises, Sub, rises_set, had_rises}

-- ---- chains

pub chain_push : (low high : ℕ) (xs : List Entry) (e : Entry) → Chain low xs high → high < entry_stamp e
    → Chain low (xs ++ (e ∷ [])) (entry_stamp e)
chain_push low high [] e c l = (rw c l, refl)
chain_push low high (x ∷ xs) e c l = (c.0, chain_push (entry_stamp x) high xs e c.1 l)

pub chain_le : (low high : ℕ) (xs : List Entry) → Chain low xs high → low ≤ high
chain_le low high [] c = rw c (le_refl high)
chain_le low high (x ∷ xs) c = let l = chain_le (entry_stamp x) high xs c.1 in omega (arith, c.0)

pub chain_below : (low high : ℕ) (xs : List Entry) (e : Entry) → Chain low xs high → InList e xs → entry_stamp e ≤ high
chain_below low high [] e c h = absurd h
chain_below low high (x ∷ xs) e c (inl same) = rw same (chain_le (entry_stamp x) high xs c.1)
chain_below low high (x ∷ xs) e c (inr h) = chain_below (entry_stamp x) high xs e c.1 h

pub chain_above : (low high : ℕ) (xs : List Entry) (e : Entry) → Chain low xs high → InList e xs → low < entry_stamp e
chain_above low high [] e c h = absurd h
chain_above low high (x ∷ xs) e c (inl same) = rw same c.0
chain_above low high (x ∷ xs) e c (inr h) = let l = chain_above (entry_stamp x) high xs e c.1 h in omega (arith, c.0)

-- ---- one entry of a received row changed

-- the received rows after server (s, n) has an entry of stamp t from site i
abbrev pub receiving : (ℕ → ℕ → PerSite) → ℕ → ℕ → ℕ → ℕ → ℕ → ℕ → PerSite
receiving received s n i t = set2 received s n (with_entry (received s n) i t)

pub receiving_cases : (received : ℕ → ℕ → PerSite) (s n i t s' n' j : ℕ) → i < 4 → j < 4 → (P : ℕ → Type 0) →
    (s' ≡ s → n' ≡ n → j ≡ i → P t) → ((s' ≡ s → n' ≡ n → j ≡ i → ⊥) → P (at (received s' n') j))
    → P (at (receiving received s n i t s' n') j)
receiving_cases received s n i t s' n' j li lj P here other =
    set2_cases received s n (with_entry (received s n) i t) s' n' (λ x. P (at x j))
    (λ a b. ⊎_elim
    (λ e. subst (λ (c : ℕ). P (at (with_entry (received s n) i t) c)) (sym e)
    (subst P (sym (at_entry_same (received s n) i t li)) (here a b e)))
    (λ ne. subst P (sym (at_entry_other (received s n) i j t li lj ne)) (moved a b (other (λ _ _ e. ne e))))
    (cases_eq j i))
    (λ ne. other (λ a b _. ne a b))
  where
    moved : s' ≡ s → n' ≡ n → P (at (received s' n') j) → P (at (received s n) j)
    moved a b p = subst (λ (x : ℕ). P (at (received s x) j)) b (subst (λ (x : ℕ). P (at (received x n') j)) a p)

-- ---- issuing

-- one entry more of server (s, n) for every other site
abbrev pub sending : ℕ → (ℕ → ℕ → ℕ → List Entry) → ℕ → ℕ → Entry → ℕ → ℕ → ℕ → List Entry
sending sites waits s n e = set2 waits s n (issue_entry s sites (waits s n) e)

pub sending_cases : (sites : ℕ) (waits : ℕ → ℕ → ℕ → List Entry) (s n : ℕ) (e : Entry) (j n' to : ℕ) → to < sites
    → (to ≡ j → ⊥) → (P : List Entry → Type 0) →
    (j ≡ s → n' ≡ n → P (waits j n' to ++ (e ∷ []))) → ((j ≡ s → n' ≡ n → ⊥) → P (waits j n' to))
    → P (sending sites waits s n e j n' to)
sending_cases sites waits s n e j n' to l ne P here other =
    set2_cases waits s n (issue_entry s sites (waits s n) e) j n' (λ q. P (q to))
    (λ a b. subst P (sym (cond-true (is_other s sites to) (waits s n to ++ (e ∷ [])) (waits s n to)
    (and_from (ltb to sites) (not (eqb to s)) (lt-ltb to sites l)
    (not_from_false (eqb to s) (ne_eqb to s (λ d. ne (d ∙ sym a)))))))
    (subst (λ (x : ℕ). P (waits s x to ++ (e ∷ []))) b (subst (λ (x : ℕ). P (waits x n' to ++ (e ∷ []))) a (here a b))))
    (λ no'. other no')

-- a received entry is at most the source's last stamp
pub received_le : {L : Shape} {received : ℕ → ℕ → PerSite} {waits : ℕ → ℕ → ℕ → List Entry} {log : List Version} →
    QueueInv L received waits log → (s n j : ℕ) → s < L.sites → j < L.sites → at (received s n) j ≤ last received j n
received_le {received = received} {waits = waits} q s n j ls lj = go (cases_eq s j)
  where
    go : (s ≡ j) ⊎ (s ≡ j → ⊥) → at (received s n) j ≤ last received j n
    go (inl e) = rw e (le_refl (last received j n))
    go (inr ne) = chain_le _ _ (waits j n s) (q.chain j s n lj ls ne)

module _ (L : Shape) (received : ℕ → ℕ → PerSite) (waits : ℕ → ℕ → ℕ → List Entry) (log : List Version)
    (q : QueueInv L received waits log) (s n : ℕ) (e : Entry) (in_s : s < L.sites)
    (new : last received s n < entry_stamp e) where
  four : (j : ℕ) → j < L.sites → j < 4
  four j l = omega (arith, L.sites_four)

  -- the received rows afterwards
  abbrev received' : ℕ → ℕ → PerSite
  received' = receiving received s n s (entry_stamp e)

  pub issue_rises : Rises received (receiving received s n s (entry_stamp e))
  issue_rises = rises_set received s n (with_entry (received s n) s (entry_stamp e))
      (entry_rises (received s n) s (entry_stamp e) (omega arith))

  pub last_rises : (j n' : ℕ) → j < L.sites → last received j n' ≤ last (receiving received s n s (entry_stamp e)) j n'
  last_rises j n' l =
      receiving_cases received s n s (entry_stamp e) j n' j (four s in_s) (four j l) (λ x. last received j n' ≤ x)
      (λ a b _. rw (a, b) (omega arith)) (λ _. le_refl (last received j n'))

  -- the last stamp of the server is now that of the entry
  pub last_here : last (receiving received s n s (entry_stamp e)) s n ≡ entry_stamp e
  last_here = receiving_cases received s n s (entry_stamp e) s n s (four s in_s) (four s in_s) (λ x. x ≡ entry_stamp e)
      (λ _ _ _. refl) (λ no'. absurd (no' refl refl refl))

  -- whatever was logged and is had after, was had before
  pub had_back : (v : Version) (s' : ℕ) → v.source < L.sites → v.stamp ≤ last received v.source (part L v.key) →
      Had L (receiving received s n s (entry_stamp e)) s' v → Had L received s' v
  had_back v s' src old = receiving_cases received s n s (entry_stamp e) s' (part L v.key) v.source (four s in_s)
      (four v.source src) (λ x. v.stamp ≤ x → Had L received s' v)
      (λ a b c _. subst (λ (x : ℕ). v.stamp ≤ at (received x (part L v.key)) v.source) (c ∙ sym a) old)
      (λ _ h. h)

  -- at another site, nothing new is had
  pub not_had : (v : Version) (s' : ℕ) → s' < L.sites → (s' ≡ s → ⊥) → v.source ≡ s → part L v.key ≡ n
      → v.stamp ≡ entry_stamp e →
      Had L (receiving received s n s (entry_stamp e)) s' v → ⊥
  not_had v s' l ne a b t = receiving_cases received s n s (entry_stamp e) s' (part L v.key) v.source (four s in_s)
      (subst (λ (x : ℕ). x < 4) (sym a) (four s in_s)) (λ x. v.stamp ≤ x → ⊥)
      (λ c _ _ _. ne c)
      (λ _ h.
      let low : v.stamp ≤ at (received s' n) s =
      subst (λ (x : ℕ). v.stamp ≤ at (received s' x) s) b
      (subst (λ (x : ℕ). v.stamp ≤ at (received s' (part L v.key)) x) a h) in
      omega (arith, received_le q s' n s l in_s))

  pub queues_issue : (log' : List Version) → Sub log log' →
      ((v : Version) → e ≡ Update v → InList v log' × (v.source ≡ s) × (part L v.key ≡ n)) →
      ((v : Version) → InList v log' → InList v log ⊎ ((e ≡ Update v) × (v.source ≡ s) × (part L v.key ≡ n))) →
      QueueInv L (receiving received s n s (entry_stamp e)) (sending L.sites waits s n e) log'
  queues_issue log' sub fresh cover =
      record { chain = chain'; pending = pending'; reach = λ v s' i l ne. reach' v s' l ne (cover v i) }
    where
      waits' : ℕ → ℕ → ℕ → List Entry
      waits' = sending L.sites waits s n e

      chain' : (j s' n' : ℕ) → j < L.sites → s' < L.sites → (s' ≡ j → ⊥)
          → Chain (at (received' s' n') j) (sending L.sites waits s n e j n' s') (last received' j n')
      chain' j s' n' lj ls ne =
          receiving_cases received s n s (entry_stamp e) s' n' j (four s in_s) (four j lj)
          (λ x. Chain x (sending L.sites waits s n e j n' s') (last received' j n'))
          (λ a _ c. absurd (ne (a ∙ sym c)))
          (λ _. sending_cases L.sites waits s n e j n' s' ls ne
          (λ x. Chain (at (received s' n') j) x (last received' j n'))
          (λ a b. receiving_cases received s n s (entry_stamp e) j n' j (four s in_s) (four j lj)
          (λ x. Chain (at (received s' n') j) (waits j n' s' ++ (e ∷ [])) x)
          (λ _ _ _. chain_push (at (received s' n') j) (last received j n') (waits j n' s') e (q.chain j s' n' lj ls ne)
          (rw (a, b) new))
          (λ no'. absurd (no' a b a)))
          (λ other. receiving_cases received s n s (entry_stamp e) j n' j (four s in_s) (four j lj)
          (λ x. Chain (at (received s' n') j) (waits j n' s') x)
          (λ a b _. absurd (other a b))
          (λ _. q.chain j s' n' lj ls ne)))

      pending' : (v : Version) (j s' n' : ℕ) → j < L.sites → s' < L.sites → (s' ≡ j → ⊥)
          → InList (Update v) (sending L.sites waits s n e j n' s')
          → InList v log' × (v.source ≡ j) × (part L v.key ≡ n')
      pending' v j s' n' lj ls ne = sending_cases L.sites waits s n e j n' s' ls ne
          (λ x. InList (Update v) x → InList v log' × (v.source ≡ j) × (part L v.key ≡ n'))
          (λ a b i. ⊎_elim old (λ same. let f = fresh v (sym same) in (f.0, f.1 ∙ sym a, f.2 ∙ sym b))
          (in_push (Update v) (waits j n' s') e i))
          (λ _ i. old i)
        where
          old : InList (Update v) (waits j n' s') → InList v log' × (v.source ≡ j) × (part L v.key ≡ n')
          old i = let o = q.pending v j s' n' lj ls ne i in (sub v o.0, o.1, o.2)

      reach' : (v : Version) (s' : ℕ) → s' < L.sites → (s' ≡ v.source → ⊥)
          → InList v log ⊎ ((e ≡ Update v) × (v.source ≡ s) × (part L v.key ≡ n)) →
          Had L received' s' v ⊎ InList (Update v) (sending L.sites waits s n e v.source (part L v.key) s')
      reach' v s' l ne (inl i) = go (q.reach v s' i l ne)
        where
          go : Had L received s' v ⊎ InList (Update v) (waits v.source (part L v.key) s')
              → Had L received' s' v ⊎ InList (Update v) (sending L.sites waits s n e v.source (part L v.key) s')
          go (inl h) = inl (had_rises L s' v issue_rises h)
          go (inr j) = inr (sending_cases L.sites waits s n e v.source (part L v.key) s' l ne (InList (Update v))
              (λ _ _. in_left (Update v) (waits v.source (part L v.key) s') (e ∷ []) j) (λ _. j))
      reach' v s' l ne (inr (same, a, b)) =
          inr (sending_cases L.sites waits s n e v.source (part L v.key) s' l ne (InList (Update v))
          (λ _ _. subst (λ (x : Entry). InList x (waits v.source (part L v.key) s' ++ (e ∷ []))) same
          (in_end (waits v.source (part L v.key) s') e))
          (λ no'. absurd (no' a b)))
