-- Entries of an outbox.
use Rattle.std.specs.Prelude.{ℕ}
use Rattle.servers.specs.declared.entry.Entry.{Entry}
use Rattle.servers.specs.declared.entry.Entry.TheVariants.{Update, Heartbeat}

abbrev pub entry_stamp : Entry → ℕ
entry_stamp (Update v) = v.stamp
entry_stamp (Heartbeat s) = s
