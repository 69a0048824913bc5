use Rattle.std.proofs.Common.{◌≡◌, ℕ, ◌<◌, List, [], ◌∷◌, length, get_or, Some, None, Option, sym, refl, ap, ◌∙◌, subst}
use Rattle.std.proofs.Common.{ltb, arith}
use Rattle.std.proofs.lemmas.Bool.{cond-true, lt-ltb}
use Rattle.servers.proofs.RowEntries.{by_site}
use Rattle.servers.specs.Peers.{PeersRecord, peers_at}
use Rattle.servers.specs.Servers.{ServerState, new_server}
use Rattle.group.specs.Model.Groups.{SessionState, SeatState, new_group}
use Rattle.group.specs.Model.GroupStore.{group_store}
use Rattle.group.specs.Model.Promises.{KeepsPromises}
use Rattle.group.proofs.Model.Theorem.{keeps_promises}
use Rattle.group.proofs.Views.{state_with, at_made}
use Rattle.group.proofs.group_parts.GroupParts.new.Goals as goal

-- there are no sessions and no open snapshots
pub invariant_of-result : goal.invariant_of-result
invariant_of-result g c =
    let none : (seat : ℕ) → get_or c.new-18.result.places seat None ≡ None =
    λ seat. ap (λ (xs : List (Option SeatState)). get_or xs seat None) c.new-18.ensures ∙ free seat
    in
    record {
      inside = λ i l. let empty = ap length c.new-17.ensures in absurd (omega arith);
      opened = λ seat y is. let no : ◌≡◌ {A = Option SeatState} None (Some y) = sym (none seat) ∙ is in absurd (cc);
    }
  where
    free : (seat : ℕ) → get_or {A = Option SeatState} (None ∷ None ∷ None ∷ None ∷ []) seat None ≡ None
    free seat = by_site (λ n. get_or {A = Option SeatState} (None ∷ None ∷ None ∷ None ∷ []) n None ≡ None) refl refl
        refl refl (λ _. refl) seat

-- each server of the layout is new for its own site, and there are no sessions and no open snapshots; such a group
-- keeps the promises
pub returns : goal.returns
returns g c =
    let layout = c.args.layout in
    let count = c.first_of-first.ensures.1 ∙ c.sites.ensures.value in
    let one = made layout.sites c.first_of-first.result 0 c.first_of-first.ensures.0 count in
    let at = made_at layout.sites c.first_of-first.result count in
    let two = at c.at-second.result _ 1 c.at-second.ensures c.site_of.ensures in
    let three = at c.at-third.result _ 2 c.at-third.ensures c.site_of-2.ensures in
    let four = at c.at-fourth.result _ 3 c.at-fourth.ensures c.site_of-3.ensures in
    let is =
    whole _ _ _ _ _
    (at_made layout.sites _ _ _ _ _ _ _ _ _ _ _ _ _ _ _ _
    (λ l. (
      one _ c.new.ensures.state,
      one _ c.new-2.ensures.state,
      one _ c.new-3.ensures.state,
      one _ c.new-4.ensures.state,
    ))
    (λ l. (
      two l _ c.new-5.ensures.state,
      two l _ c.new-6.ensures.state,
      two l _ c.new-7.ensures.state,
      two l _ c.new-8.ensures.state,
    ))
    (λ l. (
      three l _ c.new-9.ensures.state,
      three l _ c.new-10.ensures.state,
      three l _ c.new-11.ensures.state,
      three l _ c.new-12.ensures.state,
    ))
    (λ l. (
      four l _ c.new-13.ensures.state,
      four l _ c.new-14.ensures.state,
      four l _ c.new-15.ensures.state,
      four l _ c.new-16.ensures.state,
    )))
    c.new-17.ensures
    c.new-18.ensures
    in
    let rule = g.C.ClockRule.answer in
    let kind = g.K.MarkKind.kind in
    record {
      state = is;
      promises =
          subst (KeepsPromises (group_store rule kind layout.sites)) (sym is)
          (keeps_promises g.met.K.MarkKind.lawful rule g.met.C.ClockRule.lawful layout.sites layout.partitions
          c.sites.ensures.bounded);
    }
  where
    -- a server that is made with a site and its peers is new for them
    made : (all : ℕ) (p : PeersRecord) (n : ℕ) → p.own ≡ n → p.sites ≡ all
        → (t : ServerState) → t ≡ new_server p.own p.sites → t ≡ new_server n all
    made all p n own count t is = is ∙ ap (λ site. new_server site p.sites) own ∙ ap (λ sites. new_server n sites) count

    -- the same of a site at which the first one's peers are asked for, where the layout has it
    made_at : (all : ℕ) (first : PeersRecord) → first.sites ≡ all → (p : PeersRecord) (site n : ℕ)
        → p ≡ peers_at first site → site ≡ n
        → n < all → (t : ServerState) → t ≡ new_server p.own p.sites → t ≡ new_server n all
    made_at all first count p site n is s l =
        let at : p ≡ record first { own = n } =
        is ∙ ap (λ i. peers_at first i) s ∙ cond-true (ltb n first.sites) _ first
        (lt-ltb n first.sites (subst (λ sites. n < sites) (sym count) l)) in
        made all p n (ap (λ (q : PeersRecord). q.own) at) (ap (λ (q : PeersRecord). q.sites) at ∙ count)

    whole : (sites partitions : ℕ) (server : ℕ → ℕ → ServerState) (sessions : List SessionState)
        (seats : List (Option SeatState))
        → server ≡ (λ site partition. new_server site sites) → sessions ≡ [] → seats ≡ None ∷ None ∷ None ∷ None ∷ []
        → state_with (record { sites = sites; partitions = partitions; sessions = sessions; seats = seats; next = 0 })
        server ≡ new_group sites partitions
    whole sites partitions server sessions seats p q r =
        ap (λ t. state_with (record {
          sites = sites;
          partitions = partitions;
          sessions = sessions;
          seats = seats;
          next = 0;
        }) t) p
        ∙ ap (λ t. state_with (record { sites = sites; partitions = partitions; sessions = t; seats = seats; next = 0 })
        (λ site partition. new_server site sites)) q
        ∙ ap (λ t. state_with (record { sites = sites; partitions = partitions; sessions = []; seats = t; next = 0 })
        (λ site partition. new_server site sites)) r
