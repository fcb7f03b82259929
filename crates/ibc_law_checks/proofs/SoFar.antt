-- What holds of the elements so far, along a loop.
use Rattle.std.proofs.Common.{◌≡◌, ℕ, ◌+◌, ◌<◌, ◌≤◌, sym, subst, List, length, take, get_or, All}
use Rattle.std.proofs.lemmas.List.{take_all}
use Rattle.std.proofs.lemmas.List.Elements.{All-more, All-same}

pub all_so_far : {X : Type 0} (P : X → Type 0) (xs : List X) (i : ℕ) (x : X) → i < length xs → All P (take i xs)
    → x ≡ get_or xs i x → P x → All P (take (i + 1) xs)
all_so_far P xs i x lt before is here = All-more P xs i x lt before (subst P is here)

pub all_of_taken : {X : Type 0} (P : X → Type 0) (xs : List X) (n : ℕ) → length xs ≤ n → All P (take n xs) → All P xs
all_of_taken P xs n le so_far = All-same P xs (take n xs) (sym (take_all n xs le)) so_far
