-- A server's own stamps rise.
use Rattle.std.proofs.Common.{◌≡◌, ℕ, ◌^◌, ◌<◌, true, not, eqb, ltb, List, [], ◌∷◌, Ok, Err, Result, sym, refl, ap, ◌∙◌}
use Rattle.std.proofs.Common.{subst, inl, inr, arith}
use Rattle.std.proofs.lemmas.Bool.{and_parts, cond_both, cond-true, eqb-false, lt-ltb, ltb-true, not-true}
use Rattle.stamps.specs.declared.refusal.Refusal.{Refusal}
use Rattle.stamps.specs.declared.refusal.Refusal.TheVariants.{Unlawful}
use Rattle.stamps.specs.Clocks.{Rule, IsAllowed, IsLawfulRule}
use Rattle.stamps.specs.Rows.{PerSite, HasStamps, at, greatest, with_entry}
use Rattle.stamps.specs.Stamps.{top_stamp}
use Rattle.stamps.specs.Kinds.{Kind}
use Rattle.servers.specs.declared.entry.Entry.{Entry}
use Rattle.servers.specs.declared.entry.Entry.TheVariants.{Heartbeat, Update}
use Rattle.servers.specs.Laws.{ServerCall, HasStampMarks, ServerRun, IsRising, StampsRise, beat, run_after, hand_over}
use Rattle.servers.specs.Laws.{server_run, newest, put, raise, report, run_with_stamp, take_from, tell, tidy}
use Rattle.servers.specs.Laws.{run_without_stamp}
use Rattle.servers.specs.Others.{is_other}
use Rattle.servers.specs.Outboxes.{is_outbox_full}
use Rattle.servers.specs.Servers.{ServerState, server_heartbeat_with, first_entry, first_received, server_keep, last_of}
use Rattle.servers.specs.Servers.{server_put_with, server_receive, server_take_other, server_tell_checked}
use Rattle.servers.specs.Tables.{is_table_full}
use Rattle.servers.specs.declared.value.Value.{Value}
use Rattle.servers.specs.declared.version.Version.{Version}
use Rattle.servers.specs.Versions.{stamp_answered}
use Rattle.servers.proofs.Elements.{InList, contained}
use Rattle.servers.proofs.RowEntries.{at_other, at_same, by_site}

-- what all calls keep, of a server of a site
record Sound (site : ℕ) (l : ServerRun) : Type 0 where
  here : l.server.site ≡ site
  reading : l.server.reading < 2 ^ 47
  rise : IsRising l.made
  last : at l.server.marks.received site ≡ newest l.made

other_apart : (own sites site : ℕ) → is_other own sites site ≡ true → site ≡ own → ⊥
other_apart own sites site e = eqb-false site own (not-true _ (and_parts (ltb site sites) (not (eqb site own)) e).1)

newest_stamp : (ss : List ℕ) → IsRising ss → newest ss < 2 ^ 63
newest_stamp [] h = omega arith
newest_stamp (s ∷ ss) h = h.1

module _ (rule : Rule) (lawful : IsLawfulRule rule) (k : Kind) (site : ℕ) (few : site < 4) where
  -- what the rule may answer to a server
  answer_allowed : (l : ServerRun) (dependency : ℕ) → Sound site l → dependency < 2 ^ 63
      → IsAllowed (newest l.made) dependency (rule (last_of l.server) l.server.reading dependency)
  answer_allowed l dependency h d =
      let is = ap (at l.server.marks.received) h.here ∙ h.last in
      subst (λ n. IsAllowed (newest l.made) dependency (rule n l.server.reading dependency)) (sym is)
      (lawful.allowed (newest l.made) l.server.reading dependency (newest_stamp l.made h.rise) h.reading d)

  -- after what a call answered: it made no stamp, or it may have made one
  abbrev SoundAfter : ServerRun → Result (Unit {0}) Refusal × ServerState → Type 0
  SoundAfter l r = Sound site (run_without_stamp l r.1)

  abbrev SoundStamped : ServerRun → Result ℕ Refusal × ServerState → Type 0
  SoundStamped l r = Sound site (run_with_stamp l r.0 r.1)

  -- a call that leaves the clock and the received row
  quiet_sound : (l : ServerRun) (after : ServerState) → after.site ≡ l.server.site → after.reading ≡ l.server.reading
      → after.marks.received ≡ l.server.marks.received
      → Sound site l → Sound site (run_without_stamp l after)
  quiet_sound l after same_site same_reading same_row h =
      record {
        here = same_site ∙ h.here;
        reading = let r = h.reading in omega arith;
        rise = h.rise;
        last = ap (λ x. at x site) same_row ∙ h.last;
      }

  tell_sound : (l : ServerRun) (time : ℕ) → Sound site l → Sound site (run_after rule k l (tell time))
  tell_sound l time h =
      cond_both (ltb time (2 ^ 47)) (Ok time) (Err Unlawful) (λ r. SoundAfter l (server_tell_checked l.server r))
      (λ lawful-time. cond_both (ltb time l.server.reading) _ _ (SoundAfter l) (λ _. h)
      (λ _. record { here = h.here; reading = ltb-true time (2 ^ 47) lawful-time; rise = h.rise; last = h.last }))
      (λ _. h)

  -- a new stamp, at the server's own site
  stamp_sound : (l : ServerRun) (stamp : ℕ) (after : ServerState) → newest l.made < stamp → stamp < 2 ^ 63
      → after.site ≡ l.server.site → after.reading ≡ l.server.reading
      → after.marks.received ≡ with_entry l.server.marks.received l.server.site stamp → Sound site l
      → Sound site (run_with_stamp l (Ok stamp) after)
  stamp_sound l stamp after above below same_site same_reading row h =
      record {
        here = same_site ∙ h.here;
        reading = let r = h.reading in omega arith;
        rise = (above, below, h.rise);
        last = ap (λ x. at x site) row ∙ ap (λ i. at (with_entry l.server.marks.received i stamp) site) h.here
            ∙ at_same l.server.marks.received site stamp few;
      }

  beat_at : (l : ServerRun) (r : Result ℕ Refusal) → IsAllowed (newest l.made) 0 r → Sound site l
      → SoundStamped l (server_heartbeat_with l.server r)
  beat_at l (Ok stamp) a h = stamp_sound l stamp (server_heartbeat_with l.server (Ok stamp)).1 a.0 a.2 refl refl refl h
  beat_at l (Err why) a h = h

  beat_sound : (l : ServerRun) → Sound site l → Sound site (run_after rule k l beat)
  beat_sound l h =
      cond_both (is_outbox_full l.server.site l.server.sites l.server.waiting) _ _ (SoundStamped l) (λ _. h)
      (λ _. beat_at l (rule (last_of l.server) l.server.reading 0) (answer_allowed l 0 h (omega arith)) h)

  abbrev SoundPut : ServerRun → Result Version Refusal × ServerState → Type 0
  SoundPut l r = SoundStamped l (stamp_answered r.0, r.1)

  put_at : (l : ServerRun) (key : ℕ) (value : Value) (depends knows : PerSite) (r : Result ℕ Refusal)
      → IsAllowed (newest l.made) (greatest depends) r → Sound site l
      → SoundPut l (server_put_with k l.server key value depends knows r)
  put_at l key value depends knows (Ok stamp) a h =
      stamp_sound l stamp (server_put_with k l.server key value depends knows (Ok stamp)).1 a.0 a.2 refl refl refl h
  put_at l key value depends knows (Err why) a h = h

  put_sound : (l : ServerRun) (key : ℕ) (value : Value) (depends knows : PerSite) → HasStamps depends → Sound site l
      → Sound site (run_after rule k l (put key value depends knows))
  put_sound l key value depends knows stamps h =
      cond_both (is_table_full l.server.held) _ _ (SoundPut l) (λ _. h)
      (λ _. cond_both (is_outbox_full l.server.site l.server.sites l.server.waiting) _ _ (SoundPut l) (λ _. h)
      (λ _. put_at l key value depends knows (rule (last_of l.server) l.server.reading (greatest depends))
      (answer_allowed l (greatest depends) h (omega arith)) h))

  -- an entry of another site leaves the server's own
  receive_sound : (l : ServerRun) (from stamp : ℕ) → (site ≡ from → ⊥) → Sound site l
      → Sound site (run_without_stamp l (server_receive l.server from stamp))
  receive_sound l from stamp other h =
      record {
        here = h.here;
        reading = h.reading;
        rise = h.rise;
        last = at_other l.server.marks.received site from stamp few other ∙ h.last;
      }

  other_sound : (l : ServerRun) (from : ℕ) (e : Entry) → (site ≡ from → ⊥) → Sound site l
      → SoundAfter l (server_take_other l.server from e)
  other_sound l from (Heartbeat stamp) other h = receive_sound l from stamp other h
  other_sound l from (Update v) other h =
      cond_both (is_table_full l.server.held) _ _ (SoundAfter l) (λ _. h)
      (λ _. receive_sound (run_without_stamp l (server_keep l.server v)) from v.stamp other
      (quiet_sound l (server_keep l.server v) refl refl refl h))

  take_sound : (l : ServerRun) (from : ℕ) (e : Entry) → Sound site l
      → Sound site (run_after rule k l (take_from from e))
  take_sound l from e h =
      cond_both (is_other l.server.site l.server.sites from) _ _ (SoundAfter l)
      (λ other. other_sound l from e (λ is. other_apart l.server.site l.server.sites from other (sym is ∙ sym h.here))
      h) (λ _. h)

  call_sound : (l : ServerRun) (c : ServerCall) → HasStampMarks c → Sound site l → Sound site (run_after rule k l c)
  call_sound l (tell time) ok h = tell_sound l time h
  call_sound l beat ok h = beat_sound l h
  call_sound l (put key value depends knows) ok h = put_sound l key value depends knows ok h
  call_sound l (take_from from e) ok h = take_sound l from e h
  call_sound l (hand_over taker) ok h = quiet_sound l _ refl refl refl h
  call_sound l report ok h = quiet_sound l _ refl refl refl h
  call_sound l (raise mark) ok h = quiet_sound l _ refl refl refl h
  call_sound l (tidy safe) ok h = quiet_sound l _ refl refl refl h

  -- a server of the layout has made no stamp at first
  first_none : (sites : ℕ) → site < sites → at (first_received sites) site ≡ 0
  first_none sites within = by_site (λ i. i < 4 → i < sites → at (first_received sites) i ≡ 0) (first 0) (first 1)
      (first 2) (first 3) (λ n l _. absurd (omega arith)) site few within
    where
      first : (i : ℕ) → i < 4 → i < sites → first_entry sites i ≡ 0
      first i _ lt = cond-true (ltb i sites) 0 top_stamp (lt-ltb i sites lt)

  run_sound : (sites : ℕ) → site < sites → (calls : List ServerCall)
      → ((c : ServerCall) → InList c calls → HasStampMarks c) → Sound site (server_run rule k site sites calls)
  run_sound sites within [] ok =
      record { here = refl; reading = omega arith; rise = tt; last = first_none sites within }
  run_sound sites within (c ∷ cs) ok = call_sound (server_run rule k site sites cs) c (ok c (inl refl))
      (run_sound sites within cs (λ d i. ok d (inr i)))

  pub rising_law : (sites : ℕ) → site < sites → StampsRise rule k site sites
  rising_law sites within calls ok =
      let h = run_sound sites within calls (λ c i. ok c (contained calls c i)) in
      (h.rise, ap (at (server_run rule k site sites calls).server.marks.received) h.here ∙ h.last)
