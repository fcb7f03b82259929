-- Where the chain isn't there, or no bytes spell the event, nothing is asked.
use Rattle.std.proofs.Common.{◌≡◌, ℕ, ◌<◌, ◌≤◌, inl, length, Err, refl, ap, subst, arith}
use Rattle.ibc_machine.specs.ledger.Ledgers.{chain_of}
use Rattle.ibc_replay.proofs.StoredSteps.{past_all}
use Rattle.ibc_node.proofs.KeptEntries.{why_not_spelt}
use Rattle.ibc_node.proofs.keeping.ask.Goals as goal

pub ask_chain-requires : goal.ask_chain-requires
ask_chain-requires c = subst (λ k. k < length c.args.world.now.ledgers) c.chain_of-chain.ensures (c.has_chain.ensures.0 c.if-not-has_chain.false)

pub returns-then-not-has_chain-clause-asked : goal.returns-then-not-has_chain-clause-asked
returns-then-not-has_chain-clause-asked c =
    let chains = length c.args.world.now.ledgers in
    (refl, subst (λ k. chains ≤ k) c.chain_of-chain.ensures (past_all c.has_chain.result c.chain_of-chain.result chains c.has_chain.ensures c.if-not-has_chain.true), inl refl)

pub returns-in-Err-clause-asked : goal.returns-in-Err-clause-asked
returns-in-Err-clause-asked c = (refl, why_not_spelt c.args.world.now c.args.event c.in-Err.refusal c.in-Err.ensures.errors (λ is. c.in-Err.ensures.bad (ap Err is)), inl refl)

-- a chain that is there isn't behind the last one
is_there : (chains chain known : ℕ) → known ≡ chain → known < chains → chains ≤ chain → ⊥
is_there chains chain known is low past = omega (arith, is, low, past)

pub returns-in-Ok-clause-unknown : goal.returns-in-Ok-clause-unknown
returns-in-Ok-clause-unknown c past =
    absurd (is_there (length c.args.world.now.ledgers) (chain_of c.args.event) c.chain_of-chain.result c.chain_of-chain.ensures (c.has_chain.ensures.0 c.if-not-has_chain.false) past)

pub returns-in-Err-clause-unknown : goal.returns-in-Err-clause-unknown
returns-in-Err-clause-unknown c past =
    absurd (is_there (length c.args.world.now.ledgers) (chain_of c.args.event) c.chain_of-chain.result c.chain_of-chain.ensures (c.has_chain.ensures.0 c.if-not-has_chain.false) past)

pub returns-in-Ok-clause-unspelt : goal.returns-in-Ok-clause-unspelt
returns-in-Ok-clause-unspelt c unspelt = absurd (unspelt c.in-Ok.ensures.ok)
