-- What clients know of others is what those committed, after an update, a new client, or nothing of either.
use Rattle.std.proofs.Common.{◌≡◌, ℕ, true, false, ◌||◌, cond, eqb, List, [], ◌∷◌, refl, sym, ap, ap₂, ◌∙◌, Some, inl, inr, ◌⊎◌, Ordering, Less, Equal, Greater, is_eq, eqb-true, nat_cmp}
use Rattle.std.specs.List.{list_any}
use Rattle.std.specs.Option.{option_map_or, option_and_then}
use Rattle.std.specs.Ordering.{ordering_then, match_ordering}
use Rattle.std.specs.Cmp.{IsTotalOrder}
use Rattle.std.specs.FinMap.{nat_cmp-IsAntisymmetric}
use Rattle.std.proofs.lemmas.Cmp.{nat_cmp_total, then_total, on_total, tied_itself}
use Rattle.std.proofs.lemmas.Bool.{false≢true, or_cases, or_right}
use Rattle.ibc_ids.specs.Texts.{Text, text_cmp}
use Rattle.ibc_ids.specs.Maps.{Map, at, with}
use Rattle.ibc_machine.specs.chain.Records.{Core, Client, Block, is_one_of, with_number, client_at, with_client, is_known_height}
use Rattle.ibc_machine.specs.ics02.Clients.{new_client, with_known_height}
use Rattle.ibc_machine.specs.chain.Machine.{World, block_at, block_seen}
use Rattle.ibc_machine.specs.ledger.Replay.{Consensus, consensus_cmp}
use Rattle.ibc_ids.proofs.Texts.{text_cmp_total, text_tied}
use Rattle.ibc_machine.proofs.Images.{at-with}
use Rattle.ibc_refinement.proofs.LedgerSteps.{Knows, consensus_of}

consensus_cmp_total : IsTotalOrder consensus_cmp
consensus_cmp_total = then_total (on_total (λ (x : Text × ℕ). x.0) text_cmp_total) (on_total (λ (x : Text × ℕ). x.1) nat_cmp_total)

consensus_tied : (x y : Text × ℕ) → consensus_cmp x y ≡ Equal → x ≡ y
consensus_tied x y e =
    elim (text_cmp x.0 y.0) as (λ o. text_cmp x.0 y.0 ≡ o → ordering_then o (nat_cmp x.1 y.1) ≡ Equal → x ≡ y) [
      | Less ↦ λ p e. absurd (cc)
      | Equal ↦ λ p e. let a = text_tied x.0 y.0 p in let b = nat_cmp-IsAntisymmetric x.1 y.1 e in λ i. (a i, b i)
      | Greater ↦ λ p e. absurd (cc)
    ] refl e

-- a number that was added is one of the numbers or the one added
added_cases : (n m : ℕ) (ns : List ℕ) → is_one_of (with_number n ns) m ≡ true → (n ≡ m) ⊎ (is_one_of ns m ≡ true)
added_cases n m [] h = elim (or_cases (eqb n m) false h) [ inl e ↦ inl (eqb-true n m e) | inr e ↦ absurd (false≢true e) ]
added_cases n m (x ∷ ns) h =
    elim (nat_cmp n x) as (λ o. list_any (λ y. eqb y m) (match_ordering o (n ∷ x ∷ ns) (x ∷ ns) (x ∷ with_number n ns)) ≡ true → (n ≡ m) ⊎ (is_one_of (x ∷ ns) m ≡ true)) [
      | Less ↦ λ h. elim (or_cases (eqb n m) (is_one_of (x ∷ ns) m) h) [ inl e ↦ inl (eqb-true n m e) | inr e ↦ inr e ]
      | Equal ↦ λ h. inr h
      | Greater ↦ λ h. elim (or_cases (eqb x m) (is_one_of (with_number n ns) m) h) [
        | inl e ↦ inr (ap (λ b. b || is_one_of ns m) e)
        | inr e ↦ elim (added_cases n m ns e) [ inl s ↦ inl s | inr s ↦ inr (or_right (eqb x m) (is_one_of ns m) s) ]
      ]
    ] h

-- ---- an update

-- a client, its chain and whether it knows a height, after an update by another height
module _ (core : Core) (id : Text) (h : ℕ) (c : Client) (there : client_at core id ≡ Some c) where
  abbrev after : Core
  after = with_client id (with_known_height h c) core

  client_after : (client : Text) → client_at after client ≡ cond (is_eq (text_cmp client id)) (Some (with_known_height h c)) (client_at core client)
  client_after client = at-with text_cmp text_cmp_total client id (with_known_height h c) core.clients

  -- it tracks the same chain
  seen_after : (world : World) (client : Text) (height : ℕ) → block_seen world after client height ≡ block_seen world core client height
  seen_after world client height =
      ap (option_and_then (λ (x : Client). block_at world x.state.chain height)) (client_after client) ∙ by_tie (text_cmp client id) refl
    where
      by_tie : (o : Ordering) → text_cmp client id ≡ o
          → option_and_then (λ (x : Client). block_at world x.state.chain height) (cond (is_eq o) (Some (with_known_height h c)) (client_at core client)) ≡ block_seen world core client height
      by_tie Less is = refl
      by_tie Greater is = refl
      by_tie Equal is = sym (ap (option_and_then (λ (x : Client). block_at world x.state.chain height)) (ap (client_at core) (text_tied client id is) ∙ there))

  -- it knows what it knew, and the height
  known_after : (client : Text) (height : ℕ) → is_known_height after client height ≡ true → ((client ≡ id) × (h ≡ height)) ⊎ (is_known_height core client height ≡ true)
  known_after client height is =
      by_tie (text_cmp client id) refl (sym (ap (λ o. option_map_or (λ (x : Client). is_one_of x.known height) o false) (client_after client)) ∙ is)
    where
      by_tie : (o : Ordering) → text_cmp client id ≡ o
          → option_map_or (λ (x : Client). is_one_of x.known height) (cond (is_eq o) (Some (with_known_height h c)) (client_at core client)) false ≡ true
          → ((client ≡ id) × (h ≡ height)) ⊎ (is_known_height core client height ≡ true)
      by_tie Less tie k = inr k
      by_tie Greater tie k = inr k
      by_tie Equal tie k =
          elim (added_cases h height c.known k) [
            | inl e ↦ inl (text_tied client id tie, e)
            | inr e ↦ inr (ap (λ o. option_map_or (λ (x : Client). is_one_of x.known height) o false) (ap (client_at core) (text_tied client id tie) ∙ there) ∙ e)
          ]

pub update_knows : (world : World) (core : Core) (consensus : Map (Text × ℕ) Consensus) (id : Text) (h : ℕ) (c : Client) (block : Block)
    → client_at core id ≡ Some c → block_at world c.state.chain h ≡ Some block → Knows world core consensus
    → Knows world (with_client id (with_known_height h c) core) (with consensus_cmp (id, h) (consensus_of block) consensus)
update_knows world core consensus id h c block there stands known client height is =
    by_tie (consensus_cmp (client, height) (id, h)) refl
  where
    old : (consensus_cmp (client, height) (id, h) ≡ Equal → ⊥)
        → (b : Block) × (block_seen world (with_client id (with_known_height h c) core) client height ≡ Some b) × (at consensus_cmp (client, height) consensus ≡ Some (consensus_of b))
    old apart =
        elim (known_after core id h c there client height is) [
          | inl e ↦ absurd (apart (ap₂ (λ x y. consensus_cmp (x, y) (id, h)) e.0 (sym e.1) ∙ tied_itself consensus_cmp_total (id, h)))
          | inr k ↦ let w = known client height k in (w.0, seen_after core id h c there world client height ∙ w.1, w.2)
        ]

    found : (o : Ordering) → consensus_cmp (client, height) (id, h) ≡ o
        → at consensus_cmp (client, height) (with consensus_cmp (id, h) (consensus_of block) consensus) ≡ cond (is_eq o) (Some (consensus_of block)) (at consensus_cmp (client, height) consensus)
    found o tie =
        at-with consensus_cmp consensus_cmp_total (client, height) (id, h) (consensus_of block) consensus
        ∙ ap (λ o. cond (is_eq o) (Some (consensus_of block)) (at consensus_cmp (client, height) consensus)) tie

    by_tie : (o : Ordering) → consensus_cmp (client, height) (id, h) ≡ o
        → (b : Block) × (block_seen world (with_client id (with_known_height h c) core) client height ≡ Some b)
        × (at consensus_cmp (client, height) (with consensus_cmp (id, h) (consensus_of block) consensus) ≡ Some (consensus_of b))
    by_tie Less tie = let w = old (λ e. absurd (cc)) in (w.0, w.1, found Less tie ∙ w.2)
    by_tie Greater tie = let w = old (λ e. absurd (cc)) in (w.0, w.1, found Greater tie ∙ w.2)
    by_tie Equal tie =
        let same = consensus_tied (client, height) (id, h) tie in
        let clients = ap (λ (x : Text × ℕ). x.0) same in
        let heights = ap (λ (x : Text × ℕ). x.1) same in (
          block,
          seen_after core id h c there world client height
              ∙ ap₂ (λ x y. block_seen world core x y) clients heights ∙ ap (option_and_then (λ (x : Client). block_at world x.state.chain h)) there ∙ stands,
          found Equal tie,
        )

-- ---- other messages, and new clients

-- where the clients are the same, so is what they know
pub same_clients_know : (world : World) (old new : Core) (consensus : Map (Text × ℕ) Consensus) → new.clients ≡ old.clients → Knows world old consensus → Knows world new consensus
same_clients_know world old new consensus same known client height is =
    let w = known client height (ap (λ (clients : Map Text Client). option_map_or (λ (x : Client). is_one_of x.known height) (at text_cmp client clients) false) (sym same) ∙ is) in
    (w.0, ap (λ (clients : Map Text Client). option_and_then (λ (x : Client). block_at world x.state.chain height) (at text_cmp client clients)) same ∙ w.1, w.2)

-- a client that knows no height
pub created_knows : (world : World) (old new : Core) (consensus : Map (Text × ℕ) Consensus) (id : Text) (chain : ℕ) → new.clients ≡ with text_cmp id (new_client chain) old.clients
    → Knows world old consensus → Knows world new consensus
created_knows world old new consensus id chain same known client height is =
    by_tie (text_cmp client id) (ap (at text_cmp client) same ∙ at-with text_cmp text_cmp_total client id (new_client chain) old.clients)
  where
    stays : client_at new client ≡ client_at old client → (b : Block) × (block_seen world new client height ≡ Some b) × (at consensus_cmp (client, height) consensus ≡ Some (consensus_of b))
    stays e =
        let w = known client height (ap (λ o. option_map_or (λ (x : Client). is_one_of x.known height) o false) (sym e) ∙ is) in
        (w.0, ap (option_and_then (λ (x : Client). block_at world x.state.chain height)) e ∙ w.1, w.2)

    by_tie : (o : Ordering) → client_at new client ≡ cond (is_eq o) (Some (new_client chain)) (client_at old client)
        → (b : Block) × (block_seen world new client height ≡ Some b) × (at consensus_cmp (client, height) consensus ≡ Some (consensus_of b))
    by_tie Less e = stays e
    by_tie Greater e = stays e
    by_tie Equal e = absurd (false≢true (sym (ap (λ o. option_map_or (λ (x : Client). is_one_of x.known height) o false) e) ∙ is))
