-- The ledger in that place.
use Rattle.std.proofs.Common.{◌≡◌, refl, sym, ap, ◌∙◌, ℕ, List, map, length, Option, Some, None, option_map, Bor}
use Rattle.std.specs.List.{slice_get}
use Rattle.std.specs.Slice.{IsItemAt}
use Rattle.std.proofs.lemmas.Option.{slice_get-map, slice_get_past, slice_get_read}
use Rattle.ibc_ledger.specs.LedgerModel.{LedgerModel}
use Rattle.ibc_world_core.specs.WorldModel.{ledgers_alone}
use Rattle.ibc_world_core.proofs.world.World.ledger.Goals as goal

item_mapped : {X Y : Type 0} (f : X → Y) (xs : List X) (i : ℕ) (r : Option (Bor X)) → IsItemAt xs i r → option_map (λ (b : Bor X). f b.now) r ≡ slice_get (map f xs) i
item_mapped f xs i None is = sym (slice_get-map f xs i ∙ ap (option_map f) (slice_get_past xs i is.3))
item_mapped f xs i (Some b) is = sym (slice_get-map f xs i ∙ ap (option_map f) (slice_get_read xs (length xs) i b.now refl is.3.0 is.1))

pub returns : goal.returns
returns c =
    item_mapped (λ (h : LedgerModel). h.ledger) c.deref.result.now c.from.result c.get.result c.get.ensures.lookup
    ∙ (λ i. slice_get (ledgers_alone (c.deref.ensures.value i)) (c.from.ensures i)) ∙ (λ i. slice_get ((c.self.view_is i).ledgers) c.args.chain)
