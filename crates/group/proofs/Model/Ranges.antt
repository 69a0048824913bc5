-- The capacities and ranges, from the invariant.
use Rattle.std.proofs.Common.{◌≡◌, ℕ, ◌^◌, ◌<◌, ◌&&◌, eqb, ltb, [], ◌∷◌, Ok, Err, Result, sym, subst, inl, inr, arith}
use Rattle.std.specs.Result.{result_map_both}
use Rattle.std.proofs.lemmas.Bool.{and_parts, cond_both, ltb-true}
use Rattle.stamps.specs.declared.refusal.Refusal.{Refusal}
use Rattle.stamps.specs.declared.refusal.Refusal.TheVariants.{Unlawful}
use Rattle.stamps.specs.Kinds.{Kind, IsMark}
use Rattle.servers.specs.declared.entry.Entry.{Entry}
use Rattle.servers.specs.declared.entry.Entry.TheVariants.{Update, Heartbeat}
use Rattle.servers.specs.Percents.{checked_percent}
use Rattle.servers.specs.Values.{value_from}
use Rattle.servers.specs.declared.value.Value.{Value}
use Rattle.servers.specs.declared.value.Value.TheVariants.{Gone, Price, Percent, Basis}
use Rattle.servers.specs.declared.value.Basis.TheVariants.{Part, Sheet}
use Rattle.servers.specs.declared.version.Version.{Version}
use Rattle.servers.proofs.Elements.{InList, in_list}
use Rattle.group.specs.Model.Events.{Put, wrote, History}
use Rattle.group.specs.Model.Groups.{GroupState}
use Rattle.group.specs.Model.GroupStore.{IsEntryBounded, IsGroupBounded, IsInRange, IsVersionBounded}
use Rattle.group.specs.Model.Promises.{WasPut}
use Rattle.group.proofs.Model.Invariant.{Ghost}
use Rattle.group.proofs.Model.Histories.{Inv}
use Rattle.group.proofs.Model.Issuing.{chain_below}
use Rattle.group.proofs.Model.Rows.{stamps_at}

-- the value that was made, or none
abbrev MadeInRange : Result Value Refusal → Type 0
MadeInRange (Ok x) = IsInRange x
MadeInRange (Err why) = Unit {0}

percent_in_range : (r : Result _ Refusal) → MadeInRange (result_map_both Percent (λ why. why) r)
percent_in_range (Ok percent) = percent.in_range
percent_in_range (Err why) = tt

made_in_range : (kind amount : ℕ) → MadeInRange (value_from kind amount)
made_in_range kind amount =
    cond_both {A = Result Value Refusal} (eqb kind 0 && eqb amount 0) (Ok Gone) _ MadeInRange (λ _. tt)
    (λ _. cond_both {A = Result Value Refusal} (eqb kind 1 && ltb amount (2 ^ 32)) (Ok (Price amount)) _ MadeInRange
    (λ e. ltb-true amount (2 ^ 32) (and_parts (eqb kind 1) (ltb amount (2 ^ 32)) e).1)
    (λ _. cond_both {A = Result Value Refusal} (eqb kind 2)
    (result_map_both Percent (λ why. why) (checked_percent amount)) _ MadeInRange
    (λ _. percent_in_range (checked_percent amount))
    (λ _. cond_both {A = Result Value Refusal} (eqb kind 3 && eqb amount 0) (Ok (Basis Part)) _ MadeInRange (λ _. tt)
    (λ _. cond_both {A = Result Value Refusal} (eqb kind 3 && eqb amount 1) (Ok (Basis Sheet)) (Err Unlawful)
    MadeInRange (λ _. tt) (λ _. tt)))))

-- what was put is in range
put_in_range : (h : History) (p : Put) (x : Value) → WasPut h p x → IsInRange x
put_in_range [] p x w = absurd w
put_in_range (wrote i key kind amount stamp ∷ h) p x (inl w) = put_in_range h p x w
put_in_range (wrote i key kind amount stamp ∷ h) p x (inr (_, e)) = subst MadeInRange e (made_in_range kind amount)
put_in_range (other ∷ h) p x w = put_in_range h p x w

module _ {k : Kind} {sites : ℕ} {h : History} {g : GroupState} {G : Ghost} (v : Inv k sites h g G) where
  logged_bounded : (w : Version) → InList w G.log → IsVersionBounded k g.sites w
  logged_bounded w l =
      record {
        value = put_in_range h _ w.value (v.written w l);
        stamp = v.core.logs.small w l;
        source = v.core.logs.source w l;
        mark = v.core.logs.marked w l;
      }

  -- an entry under way is no later than its server's last stamp
  entry_bounded : (s n site : ℕ) → s < g.sites → site < g.sites → (site ≡ s → ⊥) → (e : Entry)
      → InList e ((g.server s n).waiting site) → IsEntryBounded k g.sites e
  entry_bounded s n site ls lt apart (Update w) i = logged_bounded w (v.core.queues.pending w s site n ls lt apart i).0
  entry_bounded s n site ls lt apart (Heartbeat stamp) i =
      let low = chain_below _ _ ((g.server s n).waiting site) (Heartbeat stamp)
      (v.core.queues.chain s site n ls lt apart) i in
      let high = stamps_at (g.server s n).marks.received s (v.core.marks.received_stamps s n) in
      omega arith

  pub bounded : IsGroupBounded k g
  bounded = record {
    layout = v.frame.layout;
    servers = λ s n ls ln. let f = v.frame.servers s n in record {
      few_versions = f.versions;
      few_entries = f.entries;
      versions = λ w c. logged_bounded w (v.core.holds.had w s n (in_list (g.server s n).held w c)).0;
      entries = λ to lt apart e c. entry_bounded s n to ls lt apart e (in_list ((g.server s n).waiting to) e c);
      reading = f.reading;
      received = v.core.marks.received_stamps s n;
      reported = v.core.marks.reported_mark s n;
      stable = v.core.marks.stable_mark s n;
    };
    few_sessions = v.frame.sessions;
    sessions = λ i l. let x = v.core.sessions i l in
        record { site = x.inside; depends = x.depends_mark; knows = x.knows_mark };
    four_seats = v.frame.seats;
    seats = λ a y e. let o = v.core.seats a y e in
        record {
          session = o.known;
          serial = o.issued;
          cut = subst (IsMark k) (sym o.its_cut) (v.core.cuts.cut_mark y.serial o.issued);
        };
    serials = v.frame.serials;
  }
