-- The past of a session and of a put, read from calls and answers only.
use Rattle.std.specs.Prelude.{◌≡◌, ℕ, if◌then◌else◌, ◌⊎◌, [], ◌∷◌, Some, None, Option, ◌==◌}
use Rattle.group.specs.Model.Events.{Put, Shown, put_shown, History, session_opened, wrote, got}
use Rattle.group.specs.Model.Events.{snapshot_opened, read_by}

-- the site of a session: where it was opened
abbrev pub site_of : History → ℕ → ℕ
site_of [] session = 0
site_of (session_opened i site ∷ h) session = if session == i then site else site_of h session
site_of (other ∷ h) session = site_of h session

-- the session that opened the snapshot of a serial number
abbrev pub reader_of : History → ℕ → ℕ
reader_of [] serial = 0
reader_of (snapshot_opened i ticket ∷ h) serial = if serial == ticket.serial then i else reader_of h serial
reader_of (other ∷ h) serial = reader_of h serial

-- Whose past: a session's, or that of a put.
pub data Who : Type 0 where
  of_session : ℕ → Who
  of_put : Put → Who

-- a set of puts for each
abbrev pub Pasts : Type 1
Pasts = Who → Put → Type 0

-- Session i put p: p stands in its past from now on, and what stood there before is the past of p.
abbrev pub pasts_with_put : Pasts → ℕ → Put → Pasts
pasts_with_put P i p (of_session j) q = P (of_session j) q ⊎ ((j ≡ i) × (q ≡ p))
pasts_with_put P i p (of_put r) q = P (of_put r) q ⊎ ((r ≡ p) × P (of_session i) q)

-- Session i was shown p: p and its past stand in its past from now on.
abbrev pub pasts_with_shown : Pasts → ℕ → Put → Pasts
pasts_with_shown P i p (of_session j) q = P (of_session j) q ⊎ ((j ≡ i) × ((q ≡ p) ⊎ P (of_put p) q))
pasts_with_shown P i p (of_put r) q = P (of_put r) q

-- the same with what is shown of a key; none has no past
abbrev pub pasts_with_answer : Pasts → ℕ → ℕ → Option Shown → Pasts
pasts_with_answer P i key None = P
pasts_with_answer P i key (Some v) = pasts_with_shown P i (put_shown key v)

-- who has the put in its past
abbrev pub HasInPast : History → Pasts
HasInPast [] w p = ⊥
HasInPast (wrote i key kind amount stamp ∷ h) w p =
    pasts_with_put (HasInPast h) i (record { key = key; stamp = stamp; source = site_of h i }) w p
HasInPast (got i key v ∷ h) w p = pasts_with_answer (HasInPast h) i key v w p
HasInPast (read_by ticket key v ∷ h) w p = pasts_with_answer (HasInPast h) (reader_of h ticket.serial) key v w p
HasInPast (other ∷ h) w p = HasInPast h w p
