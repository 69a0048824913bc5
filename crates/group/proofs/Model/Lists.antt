-- Membership, and tables with one place changed.
use Rattle.std.proofs.Common.{◌≡◌, ℕ, suc, ◌<◌, Bool, true, false, cond, ◌&&◌, eqb, ◌⊎◌, List, [], ◌∷◌, ◌++◌, length}
use Rattle.std.proofs.Common.{get_or, set, sym, refl, ap, ◌∙◌, inl, inr, ⊎_elim, arith}
use mathlib.Core.Path.{fun_ext}
use Rattle.std.proofs.lemmas.List.{get_or-set_same, get_or-set_other}
use Rattle.std.proofs.lemmas.Bool.{and_from, and_parts, both_ways, cases_eq, cond_both, eq-eqb, eqb-false, eqb-true}
use Rattle.servers.proofs.Elements.{InList}

-- ---- membership

pub in_left : {A : Type 0} (x : A) (xs ys : List A) → InList x xs → InList x (xs ++ ys)
in_left x [] ys h = absurd h
in_left x (y ∷ xs) ys (inl e) = inl e
in_left x (y ∷ xs) ys (inr h) = inr (in_left x xs ys h)

pub in_right : {A : Type 0} (x : A) (xs ys : List A) → InList x ys → InList x (xs ++ ys)
in_right x [] ys h = h
in_right x (y ∷ xs) ys h = inr (in_right x xs ys h)

pub in_either : {A : Type 0} (x : A) (xs ys : List A) → InList x (xs ++ ys) → InList x xs ⊎ InList x ys
in_either x [] ys h = inr h
in_either x (y ∷ xs) ys (inl e) = inl (inl e)
in_either x (y ∷ xs) ys (inr h) = ⊎_elim (λ i. inl (inr i)) inr (in_either x xs ys h)

pub in_end : {A : Type 0} (xs : List A) (x : A) → InList x (xs ++ (x ∷ []))
in_end xs x = in_right x xs (x ∷ []) (inl refl)

pub in_push : {A : Type 0} (x : A) (xs : List A) (y : A) → InList x (xs ++ (y ∷ [])) → InList x xs ⊎ (x ≡ y)
in_push x xs y h = ⊎_elim inl (λ i. inr (⊎_elim (λ e. e) (λ n. absurd n) i)) (in_either x xs (y ∷ []) h)

-- ---- tables

abbrev pub set1 : {A : Type 0} → (ℕ → A) → ℕ → A → ℕ → A
set1 f i x j = cond (eqb j i) x (f j)

abbrev pub set2 : {A : Type 0} → (ℕ → ℕ → A) → ℕ → ℕ → A → ℕ → ℕ → A
set2 f s n x s' n' = cond (eqb s' s && eqb n' n) x (f s' n')

pub set1_cases : {A : Type 0} (f : ℕ → A) (i : ℕ) (x : A) (j : ℕ) (P : A → Type 0) → (j ≡ i → P x)
    → ((j ≡ i → ⊥) → P (f j)) → P (set1 f i x j)
set1_cases f i x j P here other =
    cond_both (eqb j i) x (f j) P (λ e. here (eqb-true _ _ e)) (λ e. other (eqb-false _ _ e))

pub set2_cases : {A : Type 0} (f : ℕ → ℕ → A) (s n : ℕ) (x : A) (s' n' : ℕ) (P : A → Type 0) → (s' ≡ s → n' ≡ n → P x)
    → ((s' ≡ s → n' ≡ n → ⊥) → P (f s' n')) → P (set2 f s n x s' n')
set2_cases f s n x s' n' P here other = cond_both _ x (f s' n') P
    (λ e. let p = and_parts _ _ e in here (eqb-true _ _ p.0) (eqb-true _ _ p.1))
    (λ e. other (λ a b. both_ways _ e (and_from _ _ (eq-eqb _ _ a) (eq-eqb _ _ b))))

pub set1_here : {A : Type 0} (f : ℕ → A) (i : ℕ) (x : A) → set1 f i x i ≡ x
set1_here f i x = set1_cases f i x i (λ y. y ≡ x) (λ _. refl) (λ ne. absurd (ne refl))

pub set1_other : {A : Type 0} (f : ℕ → A) (i : ℕ) (x : A) (j : ℕ) → (j ≡ i → ⊥) → set1 f i x j ≡ f j
set1_other f i x j ne = set1_cases f i x j (λ y. y ≡ f j) (λ e. absurd (ne e)) (λ _. refl)

pub set2_here : {A : Type 0} (f : ℕ → ℕ → A) (s n : ℕ) (x : A) → set2 f s n x s n ≡ x
set2_here f s n x = set2_cases f s n x s n (λ y. y ≡ x) (λ _ _. refl) (λ ne. absurd (ne refl refl))

pub set2_other : {A : Type 0} (f : ℕ → ℕ → A) (s n : ℕ) (x : A) (s' n' : ℕ) → (s' ≡ s → n' ≡ n → ⊥)
    → set2 f s n x s' n' ≡ f s' n'
set2_other f s n x s' n' ne = set2_cases f s n x s' n' (λ y. y ≡ f s' n') (λ a b. absurd (ne a b)) (λ _. refl)

-- a table with a place set to what stands there
pub set2_same : {A : Type 0} (f : ℕ → ℕ → A) (s n : ℕ) (x : A) → x ≡ f s n → set2 f s n x ≡ f
set2_same f s n x e =
    fun_ext λ s'. fun_ext λ n'. set2_cases f s n x s' n' (λ y. y ≡ f s' n') (λ a b. e ∙ rw (a, b) refl) (λ _. refl)

-- a field of a table with one place changed
pub set2_field : {A B : Type 0} (p : A → B) (f : ℕ → ℕ → A) (s n : ℕ) (x : A)
    → (λ s' n'. p (set2 f s n x s' n')) ≡ set2 (λ s' n'. p (f s' n')) s n (p x)
set2_field p f s n x = fun_ext λ s'. fun_ext λ n'. go (eqb s' s && eqb n' n) s' n'
  where
    go : (b : Bool) (s' n' : ℕ) → p (cond b x (f s' n')) ≡ cond b (p x) (p (f s' n'))
    go true s' n' = refl
    go false s' n' = refl

-- a list as a table
pub get_d_set : {A : Type 0} (xs : List A) (i : ℕ) (x d : A) → i < length xs
    → (λ j. get_or (set xs i x) j d) ≡ set1 (λ j. get_or xs j d) i x
get_d_set xs i x d l = fun_ext λ j. ⊎_elim (λ e. at j e)
    (λ ne. get_or-set_other xs i j x d ne ∙ sym (set1_other (λ m. get_or xs m d) i x j ne)) (cases_eq j i)
  where
    at : (j : ℕ) → j ≡ i → get_or (set xs i x) j d ≡ set1 (λ m. get_or xs m d) i x j
    at j e = rw e (get_or-set_same xs i x d l ∙ sym (set1_here (λ m. get_or xs m d) i x))

pub get_d_push : {A : Type 0} (xs : List A) (x d : A)
    → (λ j. get_or (xs ++ (x ∷ [])) j d) ≡ set1 (λ j. get_or xs j d) (length xs) x
get_d_push [] x d = fun_ext λ j. at j
  where
    at : (j : ℕ) → get_or (x ∷ []) j d ≡ set1 (λ m. get_or [] m d) 0 x j
    at ℕ.zero = refl
    at (suc j) = sym (set1_other (λ m. get_or [] m d) 0 x (suc j) (λ e. absurd (omega arith)))
get_d_push (y ∷ ys) x d = fun_ext λ j. at j (get_d_push ys x d)
  where
    at : (j : ℕ) → (λ m. get_or (ys ++ (x ∷ [])) m d) ≡ set1 (λ m. get_or ys m d) (length ys) x
        → get_or (y ∷ (ys ++ (x ∷ []))) j d ≡ set1 (λ m. get_or (y ∷ ys) m d) (length (y ∷ ys)) x j
    at ℕ.zero rec = sym (set1_other (λ m. get_or (y ∷ ys) m d) (length (y ∷ ys)) x 0 (λ e. absurd (omega arith)))
    at (suc j) rec =
        set1_cases (λ m. get_or (y ∷ ys) m d) (length (y ∷ ys)) x (suc j) (λ z. get_or (ys ++ (x ∷ [])) j d ≡ z)
        (λ e. ap (λ f. f j) rec ∙ set1_cases (λ m. get_or ys m d) (length ys) x j (λ z. z ≡ x) (λ _. refl)
        (λ ne. absurd (ne (omega arith))))
        (λ ne. ap (λ f. f j) rec ∙ set1_other (λ m. get_or ys m d) (length ys) x j (λ e. ne (omega arith)))
