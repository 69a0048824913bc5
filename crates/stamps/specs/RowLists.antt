-- A row gives its list of four back. The proof of a model's law has to stand in specs/.
use Rattle.std.specs.Prelude.{◌≡◌, ℕ, List, [], ◌∷◌, length, refl}
use Rattle.std.proofs.Common.{arith}
use Rattle.stamps.specs.Rows.{per_site, site_list}

pub site_list-per_site : (xs : List ℕ) → length xs ≡ 4 → site_list (per_site xs) ≡ xs
site_list-per_site (a ∷ b ∷ c ∷ d ∷ []) h = refl
site_list-per_site [] h = absurd (omega arith)
site_list-per_site (a ∷ []) h = absurd (omega arith)
site_list-per_site (a ∷ b ∷ []) h = absurd (omega arith)
site_list-per_site (a ∷ b ∷ c ∷ []) h = absurd (omega arith)
site_list-per_site (a ∷ b ∷ c ∷ d ∷ e ∷ xs) h = absurd (omega arith)
