-- The own passes of chains, as they are dealt.
use Rattle.std.proofs.Common.{◌≡◌, ℕ, ◌<◌, ◌+◌, List, ◌++◌, length, take, drop, get_or, refl, sym, ◌∙◌, subst, Some, arith}
use Rattle.std.specs.Prelude.{IsSome}
use Rattle.std.specs.List.{All}
use Rattle.std.proofs.lemmas.List.Elements.{All-append, All-take, All-drop}
use Rattle.std.proofs.lemmas.Option.{get_or_from_slice_get}
use Rattle.ibc_root_table.specs.Passes.{TableName, Sight, SamePass, AreDealt, unused_pass}
use Rattle.ibc_chain_replay.specs.Publishing.{IsOwnPassOf}

module _ (n : ℕ) (table : TableName) (passes : List Sight) (dealt : AreDealt n 0 table passes) where
  pub as_many : length passes ≡ n
  as_many = let total = dealt.total in omega arith

  -- the pass at a chain's number
  pub own_pass : (k : ℕ) (pass : Sight) → k < n → pass ≡ get_or passes k pass → pass ≡ unused_pass table (Some k)
  own_pass k pass low at = at ∙ get_or_from_slice_get passes k (unused_pass table (Some k)) pass (dealt.own k low)

  all_own : All (IsOwnPassOf table) passes
  all_own k d low =
      subst (IsOwnPassOf table) (sym (get_or_from_slice_get passes k (unused_pass table (Some k)) d (dealt.own k (let many = as_many in omega arith)))) (refl, refl)

  -- those of all chains but one
  pub others_own : (k : ℕ) (others : List Sight) → others ≡ take k passes ++ drop (k + 1) passes → All (IsOwnPassOf table) others
  others_own k others left =
      subst (All (IsOwnPassOf table)) (sym left)
      (All-append (IsOwnPassOf table) (take k passes) (drop (k + 1) passes) (All-take (IsOwnPassOf table) k passes all_own) (All-drop (IsOwnPassOf table) (k + 1) passes all_own))

pub still_own : (table : TableName) (old new : Sight) → SamePass old new → IsOwnPassOf table old → IsOwnPassOf table new
still_own table old new same own = (same.0 ∙ own.0, subst IsSome (sym same.1) own.1)
