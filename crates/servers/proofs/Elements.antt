-- Standing in a list by recursion on it, for proofs that go through a list: clauses and promises say std's `Contains`.
use Rattle.std.proofs.Common.{◌≡◌, ◌⊎◌, List, [], ◌∷◌, Contains, zero, suc, sym, inl, inr, arith}

abbrev pub InList : {A : Type 0} → A → List A → Type 0
InList x [] = ⊥
InList x (y ∷ ys) = (x ≡ y) ⊎ InList x ys

pub contained : {A : Type 0} (xs : List A) (x : A) → InList x xs → Contains xs x
contained [] x i = absurd i
contained (y ∷ ys) x (inl e) = (0, omega arith, sym e)
contained (y ∷ ys) x (inr i) = let c = contained ys x i in (suc c.0, omega arith, c.2)

pub in_list : {A : Type 0} (xs : List A) (x : A) → Contains xs x → InList x xs
in_list [] x c = let no : ⊥ = omega (arith, c.1) in absurd no
in_list (y ∷ ys) x (zero, lt, e) = inl (sym e)
in_list (y ∷ ys) x (suc k, lt, e) = inr (in_list ys x (k, omega arith, e))
