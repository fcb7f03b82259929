-- How the sum of what is under way from an end changes: with a commitment more, with one less, and with an
-- acknowledgement that the other end writes.
use Rattle.std.proofs.Common.{◌≡◌, ℕ, ◌+◌, Bool, true, false, refl, ap, sym, ◌∙◌, subst, [], ◌∷◌, Some, None, Ordering, Less, Equal, inl, inr, arith, cond, is_eq, nat_cmp, if◌then◌else◌}
use Rattle.std.specs.List.{sum_by}
use Rattle.std.specs.Option.{option_map_or}
use Rattle.std.specs.Cmp.{nat_cmp_total}
use Rattle.std.proofs.lemmas.List.Sums.{sum_by-cons}
use Rattle.ibc_ids.specs.Texts.{Text, same_text}
use Rattle.ibc_ids.specs.Maps.{Map, at, with, without}
use Rattle.ibc_machine.specs.chain.Records.{Channel, Commitment}
use Rattle.ibc_machine.specs.ics20.TokenData.{amount_of, tokens_of, success}
use Rattle.ibc_machine.specs.promises.Totals.{amount_under_way}
use Rattle.ibc_machine.proofs.FiniteMaps.{TellsApart, is_equal, by_number, at-with_split, at-with_same}
use Rattle.ibc_machine.proofs.SortedMaps.{Below, Sorted}
use Rattle.ibc_machine.proofs.Measures.{sum-with, sum-without}

-- ---- two sums over one map, whose terms differ at one key alone

module _ {K V : Type 0} {order : K → K → Ordering} (o : TellsApart order) (f g : K × V → ℕ) (k : K)
    (same : (e : K × V) → (e.0 ≡ k → ⊥) → g e ≡ f e) where
  not_below_itself : order k k ≡ Less → ⊥
  not_below_itself less = absurd (cc (less, o.self k))

  -- above the key all terms are the same
  sums-above : (m : Map K V) → Below order k m → sum_by g m ≡ sum_by f m
  sums-above [] below = refl
  sums-above (e ∷ es) below =
      let first = same e (λ is. not_below_itself (subst (λ x. order k x ≡ Less) is below.0)) in
      let others = sums-above es below.1 in
      let a = sum_by-cons f e es in
      let b = sum_by-cons g e es in
      omega arith

  pub sums-differ : (m : Map K V) → Sorted order m
      → sum_by g m + option_map_or (λ v. f (k, v)) (at order k m) 0 ≡ sum_by f m + option_map_or (λ v. g (k, v)) (at order k m) 0
  sums-differ [] sorted = refl
  sums-differ (e ∷ es) sorted = go (sums-differ es sorted.1) (is_eq (order k e.0)) refl
    where
      go : sum_by g es + option_map_or (λ v. f (k, v)) (at order k es) 0 ≡ sum_by f es + option_map_or (λ v. g (k, v)) (at order k es) 0
          → (b : Bool) → is_eq (order k e.0) ≡ b
          → sum_by g (e ∷ es) + option_map_or (λ v. f (k, v)) (cond b (Some e.1) (at order k es)) 0
          ≡ sum_by f (e ∷ es) + option_map_or (λ v. g (k, v)) (cond b (Some e.1) (at order k es)) 0
      go ih true is =
          let at_k : k ≡ e.0 = o.exact k e.0 (is_equal (order k e.0) is) in
          let others = sums-above es (subst (λ x. Below order x es) (sym at_k) sorted.0) in
          let a = sum_by-cons f e es in
          let b = sum_by-cons g e es in
          let fe : f (k, e.1) ≡ f e = ap (λ x. f (x, e.1)) at_k in
          let ge : g (k, e.1) ≡ g e = ap (λ x. g (x, e.1)) at_k in
          omega arith
      go ih false is =
          let first = same e (λ at_k. absurd (cc (is, ap is_eq (subst (λ x. order k x ≡ Equal) (sym at_k) (o.self k))))) in
          let a = sum_by-cons f e es in
          let b = sum_by-cons g e es in
          omega arith

-- ---- what is under way

module _ (version denom : Text) (theirs : Channel) where
  abbrev under_way : Map ℕ Commitment → ℕ
  under_way commitments = sum_by (amount_under_way version denom theirs) commitments

  -- a packet is sent
  pub under_way-sent : (n : ℕ) (c : Commitment) (commitments : Map ℕ Commitment) → Sorted nat_cmp commitments → at nat_cmp n commitments ≡ None
      → under_way (with nat_cmp n c commitments) ≡ under_way commitments + amount_under_way version denom theirs (n, c)
  under_way-sent n c commitments sorted none =
      let sum = sum-with nat_cmp_total by_number (amount_under_way version denom theirs) n c commitments sorted in
      let term = ap (λ x. option_map_or (λ v. amount_under_way version denom theirs (n, v)) x 0) none in
      omega arith

  -- a packet is settled
  pub under_way-settled : (n : ℕ) (c : Commitment) (commitments : Map ℕ Commitment) → at nat_cmp n commitments ≡ Some c
      → under_way (without nat_cmp n commitments) + amount_under_way version denom theirs (n, c) ≡ under_way commitments
  under_way-settled n c commitments there =
      let sum = sum-without nat_cmp_total by_number (amount_under_way version denom theirs) n commitments in
      let term = ap (λ x. option_map_or (λ v. amount_under_way version denom theirs (n, v)) x 0) there in
      omega arith

-- an acknowledgement is written
module _ (version denom : Text) (before after : Channel) (n : ℕ) (ack : Text) (acks : after.acks ≡ with nat_cmp n ack before.acks)
    (fresh : at nat_cmp n before.acks ≡ None) where
  same_elsewhere : (e : ℕ × Commitment) → (e.0 ≡ n → ⊥) → amount_under_way version denom after e ≡ amount_under_way version denom before e
  same_elsewhere e other = elim (at-with_split by_number n e.0 ack before.acks) [
    | inl here ↦ absurd (other here.0)
    | inr there ↦ ap (λ x. if option_map_or (λ a. same_text a success) x false then 0 else amount_of denom (tokens_of version e.1))
        (ap (λ m. at nat_cmp e.0 m) acks ∙ there.1)
  ]

  pub under_way-acknowledged : (c : Commitment) (commitments : Map ℕ Commitment) → Sorted nat_cmp commitments → at nat_cmp n commitments ≡ Some c
      → sum_by (amount_under_way version denom after) commitments + amount_of denom (tokens_of version c)
      ≡ sum_by (amount_under_way version denom before) commitments + (if same_text ack success then 0 else amount_of denom (tokens_of version c))
  under_way-acknowledged c commitments sorted there =
      let sum = sums-differ by_number (amount_under_way version denom before) (amount_under_way version denom after) n same_elsewhere commitments sorted in
      let old = ap (λ x. option_map_or (λ v. amount_under_way version denom before (n, v)) x 0) there in
      let new = ap (λ x. option_map_or (λ v. amount_under_way version denom after (n, v)) x 0) there in
      let was : amount_under_way version denom before (n, c) ≡ amount_of denom (tokens_of version c) =
      ap (λ x. if option_map_or (λ a. same_text a success) x false then 0 else amount_of denom (tokens_of version c)) fresh in
      let now : amount_under_way version denom after (n, c) ≡ (if same_text ack success then 0 else amount_of denom (tokens_of version c)) =
      ap (λ x. if option_map_or (λ a. same_text a success) x false then 0 else amount_of denom (tokens_of version c))
      (ap (λ m. at nat_cmp n m) acks ∙ at-with_same by_number n ack before.acks) in
      omega arith
