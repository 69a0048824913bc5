-- Rows that are collected one by one.
use Rattle.std.proofs.Common.{◌≡◌, ℕ, zero, suc, ◌+◌, ◌<◌, List, [], ◌∷◌, ◌++◌, length, get_or, sym, subst, refl, ap}
use Rattle.std.proofs.Common.{◌∙◌, add-one, arith, length-append}
use Rattle.servers.specs.Servers.{ServerRecord, ServerState, view as server_view}
use Rattle.group.specs.Model.Groups.{tabulate}

pub length_first : {A : Type 0} (f : ℕ → A) (n : ℕ) → length (tabulate f n) ≡ n
length_first f zero = refl
length_first f (suc n) = omega (arith, length-append (tabulate f n) (f n ∷ []), length_first f n)

-- one row more
pub row_more : {A : Type 0} (f : ℕ → A) (n : ℕ) (xs ys : List A) (x : A) → ys ≡ xs ++ x ∷ [] → xs ≡ tabulate f n
    → x ≡ f n → ys ≡ tabulate f (n + 1)
row_more f n xs ys x more before row =
    subst (λ m. ys ≡ tabulate f m) (sym (add-one n))
    (more ∙ ap (λ t. t ++ x ∷ []) before ∙ ap (λ t. tabulate f n ++ t ∷ []) row)

-- what is said of each server, of the one that a loop is at
pub item_of : {f : ℕ → ServerState} (servers : List ServerRecord) (i : ℕ) (x : ServerRecord)
    → i < length servers → x ≡ get_or servers i x
    → ((n : ℕ) (d : ServerRecord) → n < length servers → server_view (get_or servers n d) ≡ f n) → server_view x ≡ f i
item_of servers i x here is each = ap server_view is ∙ each i x here
