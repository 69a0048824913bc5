-- A put stands in its writer's past from then on, and its own past is what its writer's was before.
use Rattle.std.proofs.Common.{◌≡◌, ℕ, ◌<◌, sym, inl, inr}
use Rattle.stamps.specs.Rows.{Covers}
use Rattle.stamps.specs.Kinds.{Kind}
use Rattle.servers.specs.Versions.{full_mark}
use Rattle.servers.specs.declared.version.Version.{Version}
use Rattle.servers.proofs.Elements.{InList}
use Rattle.group.specs.Model.Events.{Put}
use Rattle.group.specs.Model.Pasts.{Pasts, of_session, of_put, pasts_with_put}
use Rattle.group.proofs.Model.Invariant.{Shape, part, Ghost, Tables, name_of, Had, Reached, Before, Core}

-- Session i has put v, depends on it already, and its pasts before were reached by v's mark and by the server's stable
-- mark.
pub written_too : {k : Kind} {L : Shape} {P : Pasts} {T : Tables} {G : Ghost} (i : ℕ) (v : Version) → i < T.opened
    → InList v G.log → v.source ≡ (T.session i).site →
    Had L T.received (T.session i).site v → Covers (T.session i).depends (full_mark k v) →
    ((p : Put) → P (of_session i) p → Reached k L T.received G.log v.source v.mark (T.stable v.source (part L v.key)) p)
    →
    Core k L P T G → Core k L (pasts_with_put P i (name_of v)) T G
written_too {k = k} {L = L} {P = P} {T = T} {G = G} i v l logged source had dep before h = record {
  logs = h.logs;
  queues = h.queues;
  holds = h.holds;
  marks = h.marks;
  sessions = h.sessions;
  seats = h.seats;
  cuts = h.cuts;
  pasts = record { open_only = only; of_session_lem = sess; of_put_lem = puts };
}
  where
    only : (j : ℕ) (p : Put) → pasts_with_put P i (name_of v) (of_session j) p → j < T.opened
    only j p (inl q) = h.pasts.open_only j p q
    only j p (inr (e, q)) = rw e l

    itself : (p : Put) → p ≡ name_of v → Reached k L T.received G.log (T.session i).site (T.session i).depends
        (T.session i).knows p
    itself p e = record { version = v; logged = logged; named = sym e; covered = dep; here = had; seen = inl source }

    sess : (j : ℕ) (p : Put) → pasts_with_put P i (name_of v) (of_session j) p
        → Reached k L T.received G.log (T.session j).site (T.session j).depends (T.session j).knows p
    sess j p (inl q) = h.pasts.of_session_lem j p q
    sess j p (inr (e, q)) = rw e (itself p q)

    puts : (u p : Put) → pasts_with_put P i (name_of v) (of_put u) p → Before k L T.received T.stable G.log u p
    puts u p (inl q) = h.pasts.of_put_lem u p q
    puts u p (inr (e, q)) = record { writer = v; logged = logged; named = sym e; reached = before p q }
