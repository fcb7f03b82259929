use Rattle.ibc_ledger.proofs.Common.{◌≡◌, subst, Err, ◌↔◌, IfOk, IsNone, IsSomeAnd, path, NoConsensus, written_proof, image, state_of, LedgerModel, genesis_of, ledger_of, provable_block}
use Rattle.ibc_ledger.proofs.Holding.{proof_of_block, no_consensus}
use Rattle.ibc_ledger.proofs.ledger.Ledger.query_proof.Goals as goal

pub returns-clause-ok : goal.returns-clause-ok
returns-clause-ok c =
    let l = c.self.inside in
    subst (λ (h : LedgerModel). IfOk c.prove.result (λ proof. IsSomeAnd (provable_block h.ledger.genesis.window (state_of h.ledger).chain.committed c.args.height) (λ block. proof ≡ written_proof (image block.records.core) (path c.args.key.now))))
    c.self.view_is
    (proof_of_block (genesis_of l).window (state_of (ledger_of l)).chain l.node.records.store c.self.invariant.stands.holds.keeps c.args.height c.prove.result (path c.args.key.now)
    c.prove.ensures.ok)

pub returns-clause-unknown : goal.returns-clause-unknown
returns-clause-unknown c =
    let l = c.self.inside in
    subst (λ (h : LedgerModel). (c.prove.result ≡ Err NoConsensus) ↔ IsNone (provable_block h.ledger.genesis.window (state_of h.ledger).chain.committed c.args.height))
    c.self.view_is
    (no_consensus (genesis_of l).window (state_of (ledger_of l)).chain l.node.records.store c.self.invariant.stands.holds.keeps c.args.height c.prove.result c.prove.ensures.unknown)
