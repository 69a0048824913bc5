-- A stamp is a number below 2^63: time * 65,536 + count, with a count below 65,536.
use Rattle.std.specs.Prelude.{ℕ, ◌+◌, ◌*◌, ◌/◌, ◌%◌}

abbrev pub top_stamp : ℕ
top_stamp = 0x7fff_ffff_ffff_ffff

abbrev pub stamp_of : ℕ → ℕ → ℕ
stamp_of time count = time * 65536 + count

abbrev pub time_of : ℕ → ℕ
time_of stamp = stamp / 65536

abbrev pub count_of : ℕ → ℕ
count_of stamp = stamp % 65536
