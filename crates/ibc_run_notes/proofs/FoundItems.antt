-- What stands at a place of a list.
use Rattle.std.proofs.Common.{◌≡◌, ℕ, List, length, Option, Some, None, refl, subst, Bor, slice_get}
use Rattle.std.specs.Slice.{IsItemAt}
use Rattle.std.proofs.lemmas.Option.{slice_get_past, slice_get_read}

pub item_there : {X : Type 0} (xs : List X) (i : ℕ) (found : Option (Bor X)) (item : Bor X) → found ≡ Some item → IsItemAt xs i found → slice_get xs i ≡ Some item.now
item_there {X} xs i found item is at =
    let it : IsItemAt xs i (Some item) = subst (λ (o : Option (Bor X)). IsItemAt xs i o) is at in
    slice_get_read xs (length xs) i item.now refl it.3.0 it.1

pub no_item_there : {X : Type 0} (xs : List X) (i : ℕ) (found : Option (Bor X)) → found ≡ None → IsItemAt xs i found → slice_get xs i ≡ None
no_item_there {X} xs i found is at =
    let it : IsItemAt xs i None = subst (λ (o : Option (Bor X)). IsItemAt xs i o) is at in
    slice_get_past xs i it.3
