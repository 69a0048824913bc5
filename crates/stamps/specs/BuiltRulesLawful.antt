-- Proofs that the two rules meet what every rule owes. They state nothing new; a law is proved in specs/.
use Rattle.std.specs.Prelude.{◌≡◌, ℕ, ◌^◌, ◌<◌, Bool, true, false, if◌then◌else◌, ◌||◌, Ok, Err, ◌==◌, nat_le, refl}
use Rattle.std.proofs.Common.{inl, inr, arith}
use Rattle.stamps.specs.declared.refusal.Refusal.TheVariants.{Early, End}
use Rattle.std.proofs.lemmas.Bool.{leb-false}
use Rattle.std.proofs.lemmas.Bool.Decides.{nat_tests}
use Rattle.stamps.specs.Stamps.{top_stamp, stamp_of, time_of, count_of}
use Rattle.stamps.specs.Clocks.{IsLawfulRule, IsAllowed, raw_rule, hybrid_rule, new_time, new_count, carry}

-- the answer, by what the two tests came to
raw_allowed : (p q : Bool) (last reading dependency : ℕ) → reading < 2 ^ 47
    → nat_le (stamp_of reading 0) last ≡ p → nat_le (stamp_of reading 0) dependency ≡ q
    → IsAllowed last dependency (if p || q then Err Early else Ok (stamp_of reading 0))
raw_allowed true q last reading dependency r a b = inl refl
raw_allowed false true last reading dependency r a b = inl refl
raw_allowed false false last reading dependency r a b =
    (omega (arith, leb-false), omega (arith, leb-false), omega arith)

pub raw_lawful : IsLawfulRule raw_rule
raw_lawful =
    record { allowed = λ last reading dependency _ r _. raw_allowed _ _ last reading dependency r refl refl }

-- the stamp that hybrid answers, once neither of the two is the top stamp
abbrev next : ℕ → ℕ → ℕ → ℕ
next last reading dependency =
    let time = new_time last reading dependency in
    carry time (new_count (time_of last == time) (time_of dependency == time) (count_of last) (count_of dependency))

hybrid_allowed : (p q : Bool) (last reading dependency : ℕ) → last < 2 ^ 63 → reading < 2 ^ 47 → dependency < 2 ^ 63
    → (last == top_stamp) ≡ p → (dependency == top_stamp) ≡ q
    → IsAllowed last dependency (if p || q then Err End else Ok (next last reading dependency))
hybrid_allowed true q last reading dependency l r d a b = inr refl
hybrid_allowed false true last reading dependency l r d a b = inr refl
hybrid_allowed false false last reading dependency l r d a b =
    (grind (arith, nat_tests), grind (arith, nat_tests), grind (arith, nat_tests))

pub hybrid_lawful : IsLawfulRule hybrid_rule
hybrid_lawful =
    record { allowed = λ last reading dependency l r d. hybrid_allowed _ _ last reading dependency l r d refl refl }
