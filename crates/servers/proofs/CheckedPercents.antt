-- What the test of a percentage answers.
use Rattle.std.proofs.Common.{◌≡◌, ℕ, ◌<◌, ◌≤◌, Bool, true, false, leb, Ok, Err, Result, sym, refl, ap, arith}
use Rattle.std.proofs.lemmas.Bool.{leb-false, le-leb, false≢true}
use Rattle.std.proofs.Math.Bridge.{le_prop}
use Rattle.stamps.specs.declared.refusal.Refusal.TheVariants.{Unlawful}
use Rattle.servers.specs.declared.percent.Percent.{Percent}
use Rattle.servers.specs.Percents.{percent_if, checked_percent}

percent_fits : (n : ℕ) (few : Bool) (is : leb n 10000 ≡ few) (h : n ≤ 10000)
    → Ok (record { hundredths = n; in_range = h }) ≡ percent_if n few is
percent_fits n true is h = ap (λ (fits : n ≤ 10000). Ok (record { hundredths = n; in_range = fits })) (le_prop _ _)
percent_fits n false is h = absurd (let l = leb-false n 10000 is in omega arith)

pub checked_fits : (n : ℕ) (h : n ≤ 10000) → Ok (record { hundredths = n; in_range = h }) ≡ checked_percent n
checked_fits n h = percent_fits n (leb n 10000) refl h
