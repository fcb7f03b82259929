-- Logs are counted one after another.
use Rattle.std.proofs.Common.{◌≡◌, ◌++◌, ◌∷◌, [], ◌<◌, ◌+◌, ℕ, List, get_or, length, subst, sym, take}
use Rattle.std.specs.List.{AllZip}
use Rattle.std.proofs.lemmas.List.{take_more}

zip_push : {A B : Type 0} (R : A → B → Type 0) (xs : List A) (ys : List B) (x : A) (y : B) → AllZip R xs ys → R x y → AllZip R (xs ++ x ∷ []) (ys ++ y ∷ [])
zip_push R [] [] x y all one = (one, tt)
zip_push R [] (b ∷ ys) x y all one = absurd all
zip_push R (a ∷ xs) [] x y all one = absurd all
zip_push R (a ∷ xs) (b ∷ ys) x y all one = (all.0, zip_push R xs ys x y all.1 one)

pub zip_more : {A B : Type 0} (R : A → B → Type 0) (xs : List A) (ys new : List B) (y : B) (i : ℕ) (d : A) → i < length xs → new ≡ ys ++ y ∷ []
    → R (get_or xs i d) y → AllZip R (take i xs) ys → AllZip R (take (i + 1) xs) new
zip_more {A} {B} R xs ys new y i d low grown one all =
    subst (λ (l : List B). AllZip R (take (i + 1) xs) l) (sym grown)
    (subst (λ (l : List A). AllZip R l (ys ++ y ∷ [])) (sym (take_more xs i d low)) (zip_push R (take i xs) ys (get_or xs i d) y all one))
