-- The whole invariant: of the group, of what the history tells of it, and of what the proof remembers.
use Rattle.std.proofs.Common.{◌≡◌, ℕ, ◌^◌, ◌<◌, ◌≤◌, ◌∷◌, length, Some, None, Option, sym, refl, ◌∙◌, subst, ⊎_elim}
use Rattle.std.proofs.Common.{le_trans, le_refl, arith}
use Rattle.stamps.specs.Rows.{PerSite}
use Rattle.stamps.specs.Kinds.{Kind}
use Rattle.servers.specs.Servers.{ServerState}
use Rattle.servers.specs.declared.value.Value.{Value}
use Rattle.servers.specs.declared.version.Version.{Version}
use Rattle.servers.proofs.Elements.{InList}
use Rattle.group.specs.Model.Calls.{shown_of}
use Rattle.group.specs.Model.Events.{Put, Shown, Ticket, Told, read_by, nothing, History}
use Rattle.group.specs.Model.Groups.{GroupState, SeatState, session_at, seat_at}
use Rattle.group.specs.Model.GroupStore.{IsLayoutBounded}
use Rattle.group.specs.Model.Pasts.{site_of, reader_of, HasInPast}
use Rattle.group.specs.Model.Promises.{IsOpen, WasOpened, WasPut}
use Rattle.group.proofs.Model.Invariant.{Ghost, tables, name_of, Core}
use Rattle.group.proofs.Model.GroupEffects.{shape, with_servers}
use Rattle.group.proofs.Model.Showing.{Best}

-- A server of site s stands where it should, and its capacities hold.
pub record ServerFrame (sites s : ℕ) (x : ServerState) : Type 0 where
  pub site_is : x.site ≡ s
  pub sites_is : x.sites ≡ sites
  pub versions : length x.held ≤ 32
  pub entries : (site : ℕ) → length (x.waiting site) ≤ 16
  pub reading : x.reading < 2 ^ 47

pub record Frame (g : GroupState) : Type 0 where
  pub layout : IsLayoutBounded g.sites g.partitions
  pub servers : (s n : ℕ) → ServerFrame g.sites s (g.server s n)
  pub sessions : length g.sessions ≤ 8
  pub seats : length g.seats ≡ 4
  pub serials : g.next_serial < 2 ^ 32

-- What the history tells of sessions and snapshots is as the group has it.
pub record HistInv (h : History) (g : GroupState) : Type 0 where
  pub opened_known : (i : ℕ) → WasOpened i h → i < length g.sessions
  pub sites_known : (i : ℕ) → i < length g.sessions → site_of h i ≡ (session_at g i).site
  pub readers_known : (a : ℕ) (y : SeatState) → seat_at g a ≡ Some y → reader_of h y.serial ≡ y.session
  pub open_known : (t : Ticket) → IsOpen t h → (y : SeatState) × (seat_at g t.seat ≡ Some y) × (y.serial ≡ t.serial)

abbrev pub shown_option : Option Version → Option Shown
shown_option None = None
shown_option (Some v) = Some (shown_of v)

-- A snapshot's answer is the latest version that its cut covers.
pub record ReadRight (k : Kind) (G : Ghost) (next : ℕ) (t : Ticket) (key : ℕ) (o : Option Shown) : Type 0 where
  pub found : Option Version
  pub is : o ≡ shown_option found
  pub issued : t.serial < next
  pub best : Best k G.log (G.cut_of t.serial) key found

pub record Inv (k : Kind) (sites : ℕ) (h : History) (g : GroupState) (G : Ghost) : Type 0 where
  pub frame : Frame g
  pub layout : g.sites ≡ sites
  pub core : Core k (shape g frame.layout.few_sites frame.layout.some_partitions) (HasInPast h) (tables k g) G
  pub hist : HistInv h g
  pub reads : (t : Ticket) (key : ℕ) (o : Option Shown) → InList (read_by t key o) h
      → ReadRight k G g.next_serial t key o
  -- the log is what was put
  pub written : (v : Version) → InList v G.log → WasPut h (name_of v) v.value
  pub logged : (p : Put) (x : Value) → WasPut h p x → (v : Version) × InList v G.log × (name_of v ≡ p)

-- What the proof remembers has only grown, and no snapshot's answers have changed.
pub record Grows (k : Kind) (next next' : ℕ) (G G' : Ghost) : Type 0 where
  pub more : next ≤ next'
  pub same_cut : (q : ℕ) → q < next → G'.cut_of q ≡ G.cut_of q
  pub best : (q : ℕ) → q < next → (key : ℕ) (o : Option Version) → Best k G.log (G.cut_of q) key o
      → Best k G'.log (G.cut_of q) key o

pub grows_same : (k : Kind) (next : ℕ) (G : Ghost) → Grows k next next G G
grows_same k next G = record { more = le_refl next; same_cut = λ q l. refl; best = λ q l key o b. b }

pub grows_on : {k : Kind} {a b c : ℕ} {G H I : Ghost} → Grows k a b G H → Grows k b c H I → Grows k a c G I
grows_on {k} {a} {b} {c} {G} {H} {I} p q = record {
  more = le_trans p.more q.more;
  same_cut = λ x l. q.same_cut x (le_trans l p.more) ∙ p.same_cut x l;
  best = λ x l key o h. subst (λ (m : PerSite). Best k I.log m key o) (p.same_cut x l)
      (q.best x (le_trans l p.more) key o (subst (λ (m : PerSite). Best k H.log m key o) (sym (p.same_cut x l))
      (p.best x l key o h)));
}

pub read_grows : {k : Kind} {next next' : ℕ} {G G' : Ghost} → Grows k next next' G G'
    → (t : Ticket) (key : ℕ) (o : Option Shown) → ReadRight k G next t key o → ReadRight k G' next' t key o
read_grows {k} {next} {next'} {G} {G'} up t key o r = record {
  found = r.found;
  is = r.is;
  issued = le_trans r.issued up.more;
  best = subst (λ (m : PerSite). Best k G'.log m key r.found) (sym (up.same_cut t.serial r.issued))
      (up.best t.serial r.issued key r.found r.best);
}

-- The invariant is kept by a call that tells t and leaves g'.
pub record Kept (k : Kind) (sites : ℕ) (h : History) (g : GroupState) (G : Ghost) (t : Told) (g' : GroupState) : Type
    0 where
  pub ghost : Ghost
  pub inv : Inv k sites (t ∷ h) g' ghost
  pub grows : Grows k g.next_serial g'.next_serial G ghost

not_nothing : (t : Ticket) (key : ℕ) (o : Option Shown) → read_by t key o ≡ nothing → ⊥
not_nothing t key o e = let z : ◌≡◌ {A = ℕ} 0 1 = cc in omega arith

module _ {k : Kind} {sites : ℕ} {h : History} {g : GroupState} {G : Ghost} (v : Inv k sites h g G) where
  -- sessions stay opened where there are as many as before
  pub still_opened : {count : ℕ} → count ≡ length g.sessions → (i : ℕ) → WasOpened i h → i < count
  still_opened as_many i o = subst (λ (z : ℕ). i < z) (sym as_many) (v.hist.opened_known i o)

  -- a call that tells nothing, and changes servers only
  pub servers_kept : (server : ℕ → ℕ → ServerState) → ((s n : ℕ) → ServerFrame g.sites s (server s n)) →
      Core k (shape g v.frame.layout.few_sites v.frame.layout.some_partitions) (HasInPast h)
      (tables k (with_servers g server)) G → Kept k sites h g G nothing (with_servers g server)
  servers_kept server frames core = record {
    ghost = G;
    inv = record {
      frame = record {
        layout = v.frame.layout;
        servers = frames;
        sessions = v.frame.sessions;
        seats = v.frame.seats;
        serials = v.frame.serials;
      };
      layout = v.layout;
      core = core;
      hist = record {
        opened_known = v.hist.opened_known;
        sites_known = v.hist.sites_known;
        readers_known = v.hist.readers_known;
        open_known = v.hist.open_known;
      };
      reads = λ t key o i. ⊎_elim (λ e. absurd (not_nothing t key o e)) (v.reads t key o) i;
      written = v.written;
      logged = v.logged;
    };
    grows = grows_same k g.next_serial G;
  }

  -- a refused call
  pub refused_kept : Kept k sites h g G nothing g
  refused_kept = servers_kept g.server v.frame.servers v.core
