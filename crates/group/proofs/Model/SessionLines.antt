-- The promises about sessions, from the invariant.
use Rattle.std.proofs.Common.{◌≡◌, ℕ, ◌%◌, ◌<◌, ◌≤◌, true, eqb, ltb, ◌⊎◌, List, [], ◌∷◌, Contains, length, Some, None}
use Rattle.std.proofs.Common.{Ok, Err, Option, Result, sym, refl, ap, ◌∙◌, subst, inl, inr, ⊎_elim, arith}
use Rattle.std.specs.List.{flat_map}
use Rattle.std.proofs.lemmas.Bool.{cond_both, cond-true, eq-eqb, lt-ltb, ltb-true, or_left, or_right}
use Rattle.stamps.specs.declared.refusal.Refusal.{Refusal}
use Rattle.stamps.specs.declared.refusal.Refusal.TheVariants.{NoSession, TableFull, OutboxFull}
use Rattle.stamps.specs.Clocks.{Rule, IsAllowed, IsLawfulRule}
use Rattle.stamps.specs.Rows.{PerSite, Covers, at, greatest, join}
use Rattle.stamps.specs.Kinds.{Kind, IsMark, IsLawfulKind}
use Rattle.servers.specs.Laws.{IsLatest, Passes}
use Rattle.servers.specs.Outboxes.{is_outbox_full}
use Rattle.servers.specs.Servers.{ServerState, last_of, latest_visible, server_put_with, sees}
use Rattle.servers.specs.Tables.{is_table_full}
use Rattle.servers.specs.Values.{value_from}
use Rattle.servers.specs.declared.value.Value.{Value}
use Rattle.servers.specs.Versions.{full_mark}
use Rattle.servers.specs.declared.version.Version.{Version}
use Rattle.servers.proofs.Elements.{InList, contained, in_list}
use Rattle.servers.proofs.Latest.{latest_law}
use Rattle.group.specs.Model.Calls.{step, informed_server, learn, put_left, put_value, safe_mark, show, shown_of}
use Rattle.group.specs.Model.Events.{Put, IsAsLate, IsLater, Shown, put_shown, get, put, History}
use Rattle.group.specs.Model.Groups.{GroupState, SessionState, tabulate, partition_of, session_at}
use Rattle.group.specs.Model.GroupStore.{versions_at, may_see}
use Rattle.group.specs.Model.Pasts.{of_session, of_put, HasInPast, site_of}
use Rattle.group.specs.Model.Promises.{ShowsAsLate, WasPut}
use Rattle.group.proofs.Model.Rows.{covers_trans, covers_from, at_greatest, floor_mark, floor_over, full_stamp}
use Rattle.group.proofs.Model.Rows.{join_left, join_right, join_mark, stamps_at}
use Rattle.group.proofs.Model.Lists.{in_either, in_left, in_right}
use Rattle.group.proofs.Model.Floors.{first_in, in_first}
use Rattle.group.proofs.Model.Invariant.{Shape, Ghost, name_of, part, last, StandsIn, Reached}
use Rattle.group.proofs.Model.Effects.{part_small}
use Rattle.group.proofs.Model.GroupEffects.{shape, safe_rows_lem}
use Rattle.group.proofs.Model.Safe.{safe_stable}
use Rattle.group.proofs.Model.Showing.{as_late_trans, stands_late}
use Rattle.group.proofs.Model.Histories.{Inv, shown_option}

-- ---- what a site holds, by its servers

in_flat_map : {A B : Type 0} (f : B → List A) (x : A) (ys : List B) → InList x (flat_map f ys)
    → (y : B) × InList y ys × InList x (f y)
in_flat_map f x [] i = absurd i
in_flat_map f x (y ∷ ys) i = ⊎_elim (λ j. (y, inl refl, j)) (λ j. let r = in_flat_map f x ys j in (r.0, inr r.1, r.2))
    (in_either x (f y) (flat_map f ys) i)

flat_map_in : {A B : Type 0} (f : B → List A) (x : A) (ys : List B) (y : B) → InList y ys → InList x (f y)
    → InList x (flat_map f ys)
flat_map_in f x [] y i j = absurd i
flat_map_in f x (z ∷ ys) y (inl e) j = in_left x (f z) (flat_map f ys) (subst (λ b. InList x (f b)) e j)
flat_map_in f x (z ∷ ys) y (inr i) j = in_right x (f z) (flat_map f ys) (flat_map_in f x ys y i j)

pub held_from : (g : GroupState) (s : ℕ) (w : Version) → Contains (versions_at g s) w
    → (n : ℕ) × (n < g.partitions) × InList w (g.server s n).held
held_from g s w c =
    let r = in_flat_map (λ (t : ServerState). t.held) w (tabulate (g.server s) g.partitions)
    (in_list (versions_at g s) w c) in
    let f = first_in (g.server s) g.partitions r.0 r.1 in
    (f.0, f.1, subst (λ (t : ServerState). InList w t.held) f.2 r.2)

pub held_in : (g : GroupState) (s n : ℕ) (w : Version) → n < g.partitions → InList w (g.server s n).held
    → Contains (versions_at g s) w
held_in g s n w l i = contained (versions_at g s) w
    (flat_map_in (λ (t : ServerState). t.held) w (tabulate (g.server s) g.partitions) (g.server s n)
    (in_first (g.server s) g.partitions n l) i)

pub showing_answer : (k : Kind) (g : GroupState) (i : ℕ) (o : Option Version) → (show k g i o).0 ≡ Ok (shown_option o)
showing_answer k g i None = refl
showing_answer k g i (Some w) = refl

module _ {k : Kind} (law : IsLawfulKind k) {sites : ℕ} {h : History} {g : GroupState} {G : Ghost}
    (v : Inv k sites h g G) where
  abbrev L : Shape
  L = shape g v.frame.layout.few_sites v.frame.layout.some_partitions

  source_four : (w : Version) → InList w G.log → w.source < 4
  source_four w i = let s = v.core.logs.source w i in let f = v.frame.layout.few_sites in omega arith

  -- (a) a put is later than each put of its key in its past, of whatever key
  pub put_later : (p q : Put) → HasInPast h (of_put p) q → IsLater p q
  put_later p q past =
      let b = v.core.pasts.of_put_lem p q past in
      let r = b.reached in
      let low = full_stamp law r.version b.writer.mark (source_four r.version r.logged)
      (v.core.logs.small r.version r.logged) r.covered in
      let high = at_greatest b.writer.mark r.version.source in
      let above = v.core.logs.above b.writer b.logged in
      let stamp_p : b.writer.stamp ≡ p.stamp = ap (λ (z : Put). z.stamp) b.named in
      let stamp_q : r.version.stamp ≡ q.stamp = ap (λ (z : Put). z.stamp) r.named in
      (omega arith, λ e. absurd (omega arith))

  -- ---- gets

  module _ (i key : ℕ) (l : i < length g.sessions) where
    abbrev s : ℕ
    s = (session_at g i).site

    abbrev n : ℕ
    n = partition_of g key

    abbrev heard : ServerState
    heard = informed_server k g (session_at g i) (partition_of g key)

    abbrev found : Option Version
    found = latest_visible k (informed_server k g (session_at g i) (partition_of g key)) key

    pub get_answer : (rule : Rule) → (step rule k g (get i key)).0
        ≡ Ok (shown_option (latest_visible k (informed_server k g (session_at g i) (partition_of g key)) key))
    get_answer rule =
        ap (λ (r : Result (Option Shown) Refusal × GroupState). r.0)
        (cond-true (ltb i (length g.sessions)) (show k (learn k g i (session_at g i) (partition_of g key)) i found)
        (Err NoSession, g) (lt-ltb _ _ l))
        ∙ showing_answer k (learn k g i (session_at g i) (partition_of g key)) i found

    get_latest : IsLatest (sees k heard) key (g.server s n).held found
    get_latest = latest_law (sees k heard) key heard.held

    abbrev stable : PerSite
    stable = (g.server s n).marks.stable

    abbrev knows : PerSite
    knows = (session_at g i).knows

    stable_mark : IsMark k (join (k.floor (g.server s n).marks.stable) (k.floor (session_at g i).knows))
    stable_mark = join_mark law (floor_mark law (v.core.marks.stable_mark s n).0)
        (floor_mark law (v.core.sessions i l).knows_mark.0)

    -- a version whose full mark is below the stable mark or below what the session knows is seen
    seen_from : (w : Version) → Covers (join (k.floor (g.server s n).marks.stable) (k.floor (session_at g i).knows))
        (full_mark k w) → sees k heard w ≡ true
    seen_from w c = or_right (eqb w.source heard.site) _
        (covers_from (k.floor heard.marks.stable) (full_mark k w) (covers_trans (floor_over law stable_mark) c))

    -- for each put in the session's past, the get shows it or a later one
    pub shows_past : (p : Put) → p.key ≡ key → HasInPast h (of_session i) p
        → ShowsAsLate key (Ok (shown_option found)) p
    shows_past p same_key past = go found get_latest
      where
        r : Reached k L (λ a b. (g.server a b).marks.received) G.log s (session_at g i).depends (session_at g i).knows p
        r = v.core.pasts.of_session_lem i p past

        key_is : r.version.key ≡ key
        key_is = ap (λ (z : Put). z.key) r.named ∙ same_key

        x : StandsIn k (g.server s (part L r.version.key)).held (safe_mark k g s) r.version
        x = v.core.holds.kept r.version s (v.core.sessions i l).inside r.logged r.here

        there : Contains (g.server s n).held x.other
        there = contained (g.server s n).held x.other
            (subst (λ (z : ℕ). InList x.other (g.server s (part L z)).held) key_is x.there)

        seen_itself : (r.version.source ≡ s) ⊎ Covers (session_at g i).knows (full_mark k r.version)
            → sees k heard r.version ≡ true
        seen_itself (inl own) =
            or_left (eqb r.version.source heard.site) _ (eq-eqb _ _ (own ∙ sym (v.frame.servers s n).site_is))
        seen_itself (inr c) = seen_from r.version
            (covers_trans (join_right (k.floor stable) (k.floor knows))
            (covers_trans (floor_over law (v.core.sessions i l).knows_mark) c))

        seen : (x.other ≡ r.version) ⊎ (IsLater (name_of x.other) (name_of r.version)
            × Covers (safe_mark k g s) (full_mark k x.other)) → sees k heard x.other ≡ true
        seen (inl e) = subst (λ (z : Version). sees k heard z ≡ true) (sym e) (seen_itself r.seen)
        seen (inr (_, c)) = seen_from x.other (covers_trans (join_left (k.floor stable) (k.floor knows))
            (covers_trans (floor_over law (v.core.marks.stable_mark s n))
            (covers_trans (safe_stable law g s (safe_rows_lem law g v.frame.layout.few_sites
            v.frame.layout.some_partitions v.core s) n (part_small L key)) c)))

        passes : Passes (sees k heard) key x.other
        passes = (x.same_key ∙ key_is, seen x.how)

        go : (o : Option Version) → IsLatest (sees k heard) key (g.server s n).held o
            → ShowsAsLate key (Ok (shown_option o)) p
        go None best = absurd (best x.other there passes)
        go (Some w) best = subst (λ (z : Put). IsAsLate (name_of w) z) r.named
            (as_late_trans (name_of w) (name_of x.other) (name_of r.version) (best.2 x.other there passes)
            (stands_late x))

    -- what the get shows was put
    pub shows_put : (u : Shown) → shown_option found ≡ Some u → WasPut h (put_shown key u) u.value
    shows_put u = go found get_latest
      where
        go : (o : Option Version) → IsLatest (sees k heard) key (g.server s n).held o → shown_option o ≡ Some u
            → WasPut h (put_shown key u) u.value
        go None best e = let z : ◌≡◌ {A = ℕ} 0 1 = cc in absurd (omega arith)
        go (Some w) best e =
            let same : shown_of w ≡ u = cc in
            subst (λ (z : Shown). WasPut h (put_shown key z) z.value) same
            (subst (λ (z : ℕ). WasPut h (record { key = z; stamp = w.stamp; source = w.source }) w.value) best.1.0
            (v.written w (v.core.holds.had w s n (in_list (g.server s n).held w best.0)).0))

    -- the get shows none exactly when the site holds no version of the key that the session may see
    pub none_seen : shown_option found ≡ None → (w : Version) → Contains (versions_at g s) w → w.key ≡ key
        → may_see k g i w ≡ true → ⊥
    none_seen e w there same may = go found get_latest e
      where
        held : InList w (g.server s n).held
        held =
            let r = held_from g s w there in
            let at_n : part L w.key ≡ r.0 = (v.core.holds.had w s r.0 r.2).1 in
            subst (λ (z : ℕ). InList w (g.server s (part L z)).held) same
            (subst (λ (z : ℕ). InList w (g.server s z).held) (sym at_n) r.2)

        passes : Passes (sees k heard) key w
        passes = (
          same,
          subst (λ (z : ℕ). sees k (informed_server k g (session_at g i) (z % g.partitions)) w ≡ true) same may,
        )

        go : (o : Option Version) → IsLatest (sees k heard) key (g.server s n).held o → shown_option o ≡ None → ⊥
        go None best f = best w (contained (g.server s n).held w held) passes
        go (Some u) best f = let z : ◌≡◌ {A = ℕ} 0 1 = cc in absurd (omega arith)

    pub some_seen : (u : Shown) → shown_option found ≡ Some u
        → (w : Version) × Contains (versions_at g s) w × (w.key ≡ key) × (may_see k g i w ≡ true)
    some_seen u = go found get_latest
      where
        go : (o : Option Version) → IsLatest (sees k heard) key (g.server s n).held o → shown_option o ≡ Some u
            → (w : Version) × Contains (versions_at g s) w × (w.key ≡ key) × (may_see k g i w ≡ true)
        go None best e = let z : ◌≡◌ {A = ℕ} 0 1 = cc in absurd (omega arith)
        go (Some w) best e = (
          w,
          held_in g s n w (part_small L key) (in_list (g.server s n).held w best.0),
          best.1.0,
          subst (λ (z : ℕ). sees k (informed_server k g (session_at g i) (z % g.partitions)) w ≡ true) (sym best.1.0)
              best.1.1,
        )

  -- a get that is answered is a get of an open session
  pub get_open : (rule : Rule) (i key : ℕ) (o : Option Shown) → (step rule k g (get i key)).0 ≡ Ok o
      → i < length g.sessions
  get_open rule i key o =
      cond_both {A = Result (Option Shown) Refusal × GroupState} (ltb i (length g.sessions)) _ (Err NoSession, g)
      (λ r. r.0 ≡ Ok o → i < length g.sessions)
      (λ t e. ltb-true _ _ t) (λ _ e. let z : ◌≡◌ {A = ℕ} 0 1 = cc in absurd (omega arith))

  ok_same : {A : Type 0} {x y : A} → ◌≡◌ {A = Result A Refusal} (Ok x) (Ok y) → x ≡ y
  ok_same e = cc

  -- what a get has answered is what was found
  pub get_found : (rule : Rule) (i key : ℕ) (l : i < length g.sessions) (o : Option Shown)
      → (step rule k g (get i key)).0 ≡ Ok o → shown_option
      (latest_visible k (informed_server k g (session_at g i) (partition_of g key)) key) ≡ o
  get_found rule i key l o e = ok_same (sym (get_answer i key l rule) ∙ e)

  -- ---- puts have new names

  -- a done put has a stamp above its server's last one
  put_above : (rule : Rule) → IsLawfulRule rule → (i key kind amount stamp : ℕ)
      → (step rule k g (put i key kind amount)).0 ≡ Ok stamp →
      (i < length g.sessions) × (last_of (g.server (session_at g i).site (partition_of g key)) < stamp)
  put_above rule clock i key kind amount stamp =
      cond_both {A = Result ℕ Refusal × GroupState} (ltb i (length g.sessions)) _ (Err NoSession, g)
      (λ r. r.0 ≡ Ok stamp → Good)
      (λ e. with_value (ltb-true _ _ e) (value_from kind amount)) (λ _ e. refusal e)
    where
      y : SessionState
      y = session_at g i

      server : ServerState
      server = g.server y.site (partition_of g key)

      dep : PerSite
      dep = k.floor y.depends

      Good : Type 0
      Good = (i < length g.sessions) × (last_of (g.server (session_at g i).site (partition_of g key)) < stamp)

      refusal : {why : Refusal} → ◌≡◌ {A = Result ℕ Refusal} (Err why) (Ok stamp) → Good
      refusal e = let z : ◌≡◌ {A = ℕ} 0 1 = cc in absurd (omega arith)

      with_value : i < length g.sessions → (w : Result Value Refusal) → (put_value rule k g i key y w).0 ≡ Ok stamp
          → Good
      with_value l (Err why) = λ e. refusal e
      with_value l (Ok value) =
          cond_both {A = Result Version Refusal × ServerState} (is_table_full server.held) (Err TableFull, server) _
          (λ r. (put_left k g i y key r).0 ≡ Ok stamp → Good)
          (λ _ e. refusal e)
          (λ _. cond_both {A = Result Version Refusal × ServerState}
          (is_outbox_full server.site server.sites server.waiting) (Err OutboxFull, server) _
          (λ r. (put_left k g i y key r).0 ≡ Ok stamp → Good)
          (λ _ e. refusal e)
          (λ _. stamped (rule (last_of server) server.reading (greatest dep))
          (clock.allowed (last_of server) server.reading (greatest dep)
          (stamps_at server.marks.received server.site (v.core.marks.received_stamps y.site (partition_of g key)))
          (v.frame.servers y.site (partition_of g key)).reading
          (let d = (floor_mark law (v.core.sessions i l).depends_mark.0).0 in omega arith))))
        where
          stamped : (r : Result ℕ Refusal) → IsAllowed (last_of server) (greatest dep) r
              → (put_left k g i y key (server_put_with k server key value dep (k.floor y.knows) r)).0 ≡ Ok stamp → Good
          stamped (Ok t) a e = let same : t ≡ stamp = ok_same e in (l, subst (λ (z : ℕ). last_of server < z) same a.0)
          stamped (Err why) a e = refusal e

  pub put_new : (rule : Rule) → IsLawfulRule rule → (i key kind amount stamp : ℕ) (x : Value)
      → (step rule k g (put i key kind amount)).0 ≡ Ok stamp →
      WasPut h (record { key = key; stamp = stamp; source = site_of h i }) x → ⊥
  put_new rule clock i key kind amount stamp x e was =
      let a = put_above rule clock i key kind amount stamp e in
      let s = (session_at g i).site in
      let n = partition_of g key in
      let w = v.logged (record { key = key; stamp = stamp; source = site_of h i }) x was in
      let old : stamp ≤ last (λ a b. (g.server a b).marks.received) (site_of h i) n =
      subst (λ (p : Put). p.stamp ≤ last (λ a b. (g.server a b).marks.received) p.source (part L p.key)) w.2
      (v.core.logs.stamped w.0 w.1) in
      let low : stamp ≤ last (λ a b. (g.server a b).marks.received) s n =
      subst (λ (z : ℕ). stamp ≤ last (λ a b. (g.server a b).marks.received) z n) (v.hist.sites_known i a.0) old in
      let new : last (λ a b. (g.server a b).marks.received) s n < stamp =
      subst (λ (z : ℕ). at (g.server s n).marks.received z < stamp) (v.frame.servers s n).site_is a.1 in
      omega arith
