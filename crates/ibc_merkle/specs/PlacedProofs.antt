-- The proofs of pairs by their place among sorted pairs.
use Rattle.std.specs.Prelude.{◌≡◌, ℕ, List, ◌++◌, slice_get, Option}
use Rattle.std.specs.Option.{IsSomeAnd}
use Rattle.ibc_merkle.specs.PairPlaces.{key_at, pair_before}
use Rattle.ibc_merkle.specs.Tree.{Pairs, tree}
use Rattle.ibc_merkle.specs.Written.{operations_to, presence_of}
use Rattle.ibc_merkle.specs.declared.proof.Operation.{Operation}
use Rattle.ibc_merkle.specs.declared.proof.Presence.{Presence}

-- the proof of the pair at a place, if there is one
abbrev pub own_proof : Pairs → ℕ → Option Presence
own_proof pairs index = presence_of pairs (slice_get pairs index)

-- the proof of the pair before a place, if there is one
abbrev pub left_proof : Pairs → ℕ → Option Presence
left_proof pairs index = presence_of pairs (pair_before pairs index)

-- the operations are those from the leaf at a place up (ICS 23, "path")
abbrev pub IsPathTo : Pairs → ℕ → List Operation → Type 0
IsPathTo pairs index path = IsSomeAnd (operations_to (key_at pairs index) (tree pairs)) (λ found. path ≡ found)

-- behind other operations come those from the leaf at a place up
abbrev pub AddsPathTo : Pairs → ℕ → List Operation → List Operation → Type 0
AddsPathTo pairs index before after =
    IsSomeAnd (operations_to (key_at pairs index) (tree pairs)) (λ added. after ≡ before ++ added)
