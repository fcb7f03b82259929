-- A list whose entries publish what the ledgers published, in the order of the publications.
use Rattle.std.proofs.Common.{◌≡◌, ℕ, nat_lt, List, [], ◌∷◌, length, map, filter, refl, ◌∙◌, subst, eq-eqb, ltb-true}
use Rattle.std.specs.List.{list_all}
use Rattle.std.proofs.lemmas.Bool.{and_parts}
use Rattle.ibc_ids.specs.declared.publication.Publication.{Publication}
use Rattle.ibc_machine.specs.declared.entry.Entry.{Entry}
use Rattle.ibc_machine.specs.chain.Genesis.{GenesisState}
use Rattle.ibc_machine.specs.ledger.Replay.{StampedEntry}
use Rattle.ibc_machine.specs.ledger.Ledgers.{Ledger, chain_of}
use Rattle.ibc_machine.specs.ledger.Merge.{is_of_chain, published_along}
use Rattle.ibc_refinement.proofs.RunStates.{AreOfWorld, IsLedgerAt, ledger_at}
use Rattle.ibc_refinement.proofs.RunNext.{begins_with, own_first}
use Rattle.ibc_refinement.proofs.MergedRun.{AreWithin}
use Rattle.ibc_refinement.proofs.PublishedAlong.{Publishing, AllPublishing, published_here}
use Rattle.ibc_refinement.specs.World.{block_chains}

module _ (genesis : GenesisState) (ledgers : List Ledger) (publications : List Publication) (are : AreOfWorld genesis ledgers publications) where
  pub published_list : (rest : List Entry) (times : List ℕ) (ps : List Publication) → AllPublishing genesis ledgers publications are times ps rest → AreWithin (length ledgers) rest
      → block_chains rest ≡ map (λ (p : Publication). p.chain) ps → published_along times rest ≡ ps
  published_list [] times [] all within chains = refl
  published_list [] times (p ∷ ps) all within chains = absurd (cc)
  published_list (e ∷ rest) times ps all within chains =
      let parts = and_parts (nat_lt (chain_of e.event) (length ledgers)) (list_all (λ (entry : Entry). nat_lt (chain_of entry.event) (length ledgers)) rest) within in
      let at = ledger_at genesis ledgers are.of (chain_of e.event) (ltb-true (chain_of e.event) (length ledgers) parts.0) in
      let r = all (chain_of e.event) at.history at.seen at.there in
      let b = begins_with e (filter (is_of_chain (chain_of e.event)) rest) r.left (r.remaining ∙ own_first (chain_of e.event) e rest (eq-eqb (chain_of e.event) (chain_of e.event) refl)) in
      by_entry (λ after qs all chains. published_list rest after qs all parts.1 chains) b.first b.later e b.entry all at r b.whole b.remaining chains
    where
      by_entry : ((after : List ℕ) (qs : List Publication) → AllPublishing genesis ledgers publications are after qs rest → block_chains rest ≡ map (λ (p : Publication). p.chain) qs → published_along after rest ≡ qs)
          → (s : StampedEntry) (later : List StampedEntry) (e : Entry) → s.entry ≡ e → AllPublishing genesis ledgers publications are times ps (e ∷ rest)
          → (at : IsLedgerAt genesis ledgers (chain_of e.event)) (r : Publishing genesis times ps (e ∷ rest) (chain_of e.event) at.history at.seen) → r.left ≡ s ∷ later
          → map (λ (s : StampedEntry). s.entry) later ≡ filter (is_of_chain (chain_of e.event)) rest → block_chains (e ∷ rest) ≡ map (λ (p : Publication). p.chain) ps → published_along times (e ∷ rest) ≡ ps
      by_entry next s later e same =
          subst (λ (e : Entry). AllPublishing genesis ledgers publications are times ps (e ∷ rest)
          → (at : IsLedgerAt genesis ledgers (chain_of e.event)) (r : Publishing genesis times ps (e ∷ rest) (chain_of e.event) at.history at.seen) → r.left ≡ s ∷ later
          → map (λ (s : StampedEntry). s.entry) later ≡ filter (is_of_chain (chain_of e.event)) rest → block_chains (e ∷ rest) ≡ map (λ (p : Publication). p.chain) ps → published_along times (e ∷ rest) ≡ ps) same
          (λ all at r whole remaining chains. published_here genesis ledgers publications are times ps rest s later all at r whole remaining next chains)
