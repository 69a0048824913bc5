-- Plain numbers from outside: which are stamps, readings, sites and rows, and how the others are refused.
use Rattle.std.specs.Prelude.{ℕ, ◌^◌, Bool, if◌then◌else◌, ◌&&◌, List, Ok, Err, Result, nat_lt}
use Rattle.stamps.specs.declared.refusal.Refusal.{Refusal}
use Rattle.stamps.specs.declared.refusal.Refusal.TheVariants.{NotInLayout, Unlawful}
use Rattle.stamps.specs.Rows.{PerSite, per_site}

abbrev pub is_stamp : ℕ → Bool
is_stamp n = nat_lt n (2 ^ 63)

abbrev pub checked_stamp : ℕ → Result ℕ Refusal
checked_stamp n = if is_stamp n then Ok n else Err Unlawful

abbrev pub checked_reading : ℕ → Result ℕ Refusal
checked_reading n = if nat_lt n (2 ^ 47) then Ok n else Err Unlawful

abbrev pub checked_site : ℕ → Result ℕ Refusal
checked_site n = if nat_lt n 4 then Ok n else Err NotInLayout

abbrev pub checked_row : List ℕ → Result PerSite Refusal
checked_row xs =
    let x = per_site xs in
    if is_stamp x.site0 && (is_stamp x.site1 && (is_stamp x.site2 && is_stamp x.site3)) then Ok x else Err Unlawful
