-- Site numbers, and the entry of a site in a row.
use Rattle.std.proofs.Common.{◌≡◌, ℕ, zero, suc, ◌<◌, cond, eqb, sym, refl, arith}
use Rattle.std.proofs.lemmas.Bool.{cond-false, ne_eqb}
use Rattle.stamps.specs.Rows.{PerSite, at, with_entry}

-- a fact of every site number: the four, and those past them
pub by_site : (P : ℕ → Type 0) → P 0 → P 1 → P 2 → P 3 → ((n : ℕ) → P (suc (suc (suc (suc n))))) → (i : ℕ) → P i
by_site P a b c d e zero = a
by_site P a b c d e (suc zero) = b
by_site P a b c d e (suc (suc zero)) = c
by_site P a b c d e (suc (suc (suc zero))) = d
by_site P a b c d e (suc (suc (suc (suc n)))) = e n

-- with another stamp at a site, that site has it
pub at_same : (x : PerSite) (i s : ℕ) → i < 4 → at (with_entry x i s) i ≡ s
at_same x i s few = by_site (λ k. k < 4 → at (with_entry x k s) k ≡ s) (λ _. refl) (λ _. refl) (λ _. refl) (λ _. refl)
    (λ n l. absurd (omega arith)) i few

-- and the others have what they had
pub at_other : (x : PerSite) (i j s : ℕ) → i < 4 → (i ≡ j → ⊥) → at (with_entry x j s) i ≡ at x i
at_other x i j s few ne =
    by_site (λ k. k < 4 → (k ≡ j → ⊥) → at (with_entry x j s) k ≡ at x k) (λ _. left 0 x.site0) (λ _. left 1 x.site1)
    (λ _. left 2 x.site2) (λ _. left 3 x.site3) (λ n l _. absurd (omega arith)) i few ne
  where
    left : (k had : ℕ) → (k ≡ j → ⊥) → cond (eqb j k) s had ≡ had
    left k had other = cond-false (eqb j k) s had (ne_eqb j k (λ e. other (sym e)))
