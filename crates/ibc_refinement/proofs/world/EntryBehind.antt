-- An entry behind a list: the chains of the blocks, how many a chain has, and what is before each entry.
use Rattle.std.proofs.Common.{◌≡◌, ℕ, ◌+◌, true, false, cond, ◌&&◌, eqb, List, [], ◌∷◌, ◌++◌, length, map, filter, refl, sym, ap, ◌∙◌, subst, arith, append-nil, append_assoc}
use Rattle.std.proofs.lemmas.List.{map-append}
use Rattle.std.proofs.lemmas.List.Elements.{filter-append}
use Rattle.std.proofs.lemmas.List.Sums.{sum_by-cons}
use Rattle.ibc_ids.specs.Publications.{height_of}
use Rattle.ibc_ids.specs.declared.publication.Publication.{Publication}
use Rattle.ibc_machine.specs.declared.entry.Entry.{Entry}
use Rattle.ibc_machine.specs.ledger.Ledgers.{chain_of, is_accepted_block}
use Rattle.ibc_machine.specs.ledger.Merge.{is_of_chain, blocks_of, EachWithEarlier}
use Rattle.ibc_refinement.specs.World.{block_chains}

-- how often a chain stands in a list
abbrev times_of : ℕ → List ℕ → ℕ
times_of c chains = length (filter (λ k. eqb k c) chains)

blocks_counted : (c : ℕ) (list : List Entry) → blocks_of c list ≡ times_of c (block_chains list)
blocks_counted c [] = refl
blocks_counted c (e ∷ list) =
    sum_by-cons (λ (entry : Entry). cond (is_of_chain c entry && is_accepted_block entry) 1 0) e list
    ∙ elim (is_accepted_block e) as (λ b. cond (is_of_chain c e && b) 1 0 + blocks_of c list ≡ times_of c (map (λ (e : Entry). chain_of e.event) (cond b (e ∷ filter is_accepted_block list) (filter is_accepted_block list)))) [
      | true ↦ elim (eqb (chain_of e.event) c) as (λ b. cond (b && true) 1 0 + blocks_of c list ≡ length (cond b (chain_of e.event ∷ filter (λ k. eqb k c) (block_chains list)) (filter (λ k. eqb k c) (block_chains list)))) [
        | true ↦ let rest = blocks_counted c list in omega arith
        | false ↦ let rest = blocks_counted c list in omega arith
      ]
      | false ↦ elim (is_of_chain c e) as (λ b. cond (b && false) 1 0 + blocks_of c list ≡ times_of c (block_chains list)) [
        | true ↦ let rest = blocks_counted c list in omega arith
        | false ↦ let rest = blocks_counted c list in omega arith
      ]
    ]

heights_counted : (c : ℕ) (publications : List Publication) → height_of c publications ≡ times_of c (map (λ (p : Publication). p.chain) publications)
heights_counted c [] = refl
heights_counted c (p ∷ publications) =
    elim (eqb p.chain c) as (λ b. length (cond b (p ∷ filter (λ (p : Publication). eqb p.chain c) publications) (filter (λ (p : Publication). eqb p.chain c) publications))
    ≡ length (cond b (p.chain ∷ filter (λ k. eqb k c) (map (λ (p : Publication). p.chain) publications)) (filter (λ k. eqb k c) (map (λ (p : Publication). p.chain) publications)))) [
      | true ↦ let rest = heights_counted c publications in omega arith
      | false ↦ heights_counted c publications
    ]

-- a chain has as many blocks as it published
pub as_many_blocks : (c : ℕ) (list : List Entry) (publications : List Publication) → block_chains list ≡ map (λ (p : Publication). p.chain) publications → blocks_of c list ≡ height_of c publications
as_many_blocks c list publications turns = blocks_counted c list ∙ ap (times_of c) turns ∙ sym (heights_counted c publications)

pub turns_last : (list : List Entry) (e : Entry) → block_chains (list ++ e ∷ []) ≡ block_chains list ++ cond (is_accepted_block e) (chain_of e.event ∷ []) []
turns_last list e =
    ap (map (λ (e : Entry). chain_of e.event)) (filter-append is_accepted_block list (e ∷ []))
    ∙ map-append (λ (e : Entry). chain_of e.event) (filter is_accepted_block list) (filter is_accepted_block (e ∷ []))
    ∙ ap (λ xs. block_chains list ++ xs) (elim (is_accepted_block e) as (λ b. map (λ (e : Entry). chain_of e.event) (cond b (e ∷ []) []) ≡ cond b (chain_of e.event ∷ []) []) [ true ↦ refl | false ↦ refl ])

pub each_last : (P : List Entry → Entry → Type 0) (before list : List Entry) (e : Entry) → EachWithEarlier P before list → P (before ++ list) e → EachWithEarlier P before (list ++ e ∷ [])
each_last P before [] e each here = (subst (λ b. P b e) (append-nil before) here, tt)
each_last P before (x ∷ list) e each here = (each.0, each_last P (before ++ x ∷ []) list e each.1 (subst (λ b. P b e) (sym (append_assoc before (x ∷ []) list)) here))
