-- Which beginnings of a world are allowed.
use Rattle.std.proofs.Common.{◌≡◌, ℕ, Bool, ◌^◌, ◌-◌, true, false, codes, ◌∷◌, List, [], refl, map, replicate}
use Rattle.ibc_machine.specs.chain.Genesis.{GenesisState, Holding, start, is_allowed}
use Rattle.ibc_machine.proofs.Computing.{computing}
use Rattle.ibc_machine.proofs.Scripts.{alice, bob, atom, gold, atom_from_a, escrow_0, holds, a_and_b, chain_with, balances}

abbrev with_chains : ℕ → GenesisState
with_chains n = record a_and_b { chains = replicate n (chain_with []) }

two_to_eight_chains : map (λ n. is_allowed (with_chains n)) (0 ∷ 1 ∷ 2 ∷ 8 ∷ 9 ∷ [])
    ≡ false ∷ false ∷ true ∷ true ∷ false ∷ []
unfolding computing
two_to_eight_chains = refl

abbrev limits : ℕ → ℕ → GenesisState
limits capacity window = record a_and_b { capacity = capacity; window = window }

capacities : map (λ n. is_allowed (limits n 1)) (0 ∷ 1 ∷ 1000000 ∷ 1000001 ∷ []) ≡ false ∷ true ∷ true ∷ false ∷ []
unfolding computing
capacities = refl

windows : map (λ n. is_allowed (limits 1000000 n)) (0 ∷ 1 ∷ 4096 ∷ 4097 ∷ []) ≡ false ∷ true ∷ true ∷ false ∷ []
unfolding computing
windows = refl

windows_within_the_capacity : is_allowed (limits 8 8) ∷ is_allowed (limits 8 9) ∷ is_allowed (limits 0 0) ∷ []
    ≡ true ∷ false ∷ false ∷ []
unfolding computing
windows_within_the_capacity = refl

-- ---- balances

abbrev allowed_with : List Holding → List Holding → Bool
allowed_with of_a of_b = is_allowed (record a_and_b { chains = chain_with of_a ∷ chain_with of_b ∷ [] })

-- a user and a denomination once on a chain
each_once :
    allowed_with ((alice, atom, 1) ∷ (alice, gold, 2) ∷ (bob, atom, 3) ∷ []) ((alice, atom, 4) ∷ [])
    ∷ allowed_with ((alice, atom, 1) ∷ (bob, atom, 3) ∷ (alice, atom, 1) ∷ []) []
    ∷ allowed_with [] ((alice, atom, 0) ∷ (alice, atom, 0) ∷ []) ∷ []
    ≡ true ∷ false ∷ false ∷ []
unfolding computing
each_once = refl

abbrev most : ℕ
most = 2 ^ 128 - 1

-- as much of a denomination on a chain as 128 bits hold
in_128_bits :
    allowed_with ((alice, atom, most) ∷ (alice, gold, most) ∷ (bob, atom, 0) ∷ []) ((alice, atom, most) ∷ [])
    ∷ allowed_with ((alice, atom, most) ∷ (bob, atom, 1) ∷ []) []
    ∷ allowed_with [] ((alice, atom, 2 ^ 128) ∷ [])
    ∷ allowed_with ((alice, atom, 2 ^ 127) ∷ (bob, atom, 2 ^ 127 - 1) ∷ []) [] ∷ []
    ≡ true ∷ false ∷ false ∷ true ∷ []
unfolding computing
in_128_bits = refl

-- users and denominations without hops
by_good_names :
    allowed_with ((codes "Zed9", codes "x", 1) ∷ []) []
    ∷ allowed_with ((codes "", atom, 1) ∷ []) [] ∷ allowed_with ((escrow_0, atom, 1) ∷ []) []
    ∷ allowed_with ((replicate 32 97, atom, 1) ∷ []) [] ∷ allowed_with ((replicate 33 97, atom, 1) ∷ []) []
    ∷ allowed_with ((alice, atom_from_a, 1) ∷ []) [] ∷ allowed_with ((alice, codes "", 1) ∷ []) []
    ∷ allowed_with ((alice, replicate 64 97, 1) ∷ []) [] ∷ allowed_with ((alice, replicate 65 97, 1) ∷ []) [] ∷ []
    ≡ true ∷ false ∷ false ∷ true ∷ false ∷ false ∷ false ∷ true ∷ false ∷ []
unfolding computing
by_good_names = refl

-- ---- what is there in the beginning; an amount of 0 is not kept
the_first_balances : balances (start (record a_and_b {
  chains = chain_with ((bob, gold, 2) ∷ (alice, atom, 1)
      ∷ (bob, atom, 0) ∷ []) ∷ chain_with [] ∷ [];
}))
    ≡ (holds alice 1 atom ∷ holds bob 2 gold ∷ []) ∷ [] ∷ []
unfolding computing
the_first_balances = refl
