-- The ledger has its chain's own pass, and the others stay with the publishers.
use Rattle.std.proofs.Common.{◌≡◌, ◌∙◌, true, length, ap, Some, Err, ⊎_elim, arith}
use Rattle.std.proofs.lemmas.Result.{err_from_is_err_and}
use Rattle.ibc_ids.specs.Publications.{published_by}
use Rattle.ibc_machine.specs.chain.Genesis.{genesis_state, is_allowed}
use Rattle.ibc_root_table.specs.Passes.{Sight, unused_pass}
use Rattle.ibc_ledger.specs.LedgerModel.{LedgerModel}
use Rattle.ibc_chain_replay.proofs.DealtPasses.{as_many, own_pass, others_own}
use Rattle.ibc_chain_replay.proofs.replaying.begin_at.Goals as goal

pub remove-pass-requires : goal.remove-pass-requires
remove-pass-requires c =
    let many = as_many (length c.args.genesis.now.chains.items) c.args.table.value c.args.passes.items c.requires.passes in
    omega (arith, many, c.requires.chain, c.from.ensures, c.args.passes.ok.0)

pub publishers_of-requires : goal.publishers_of-requires
publishers_of-requires c =
    others_own (length c.args.genesis.now.chains.items) c.args.table.value c.args.passes.items c.requires.passes c.from.result c.remove-pass.new.self.items c.remove-pass.ensures.by_index.2

pub new-requires-clause-pass : goal.new-requires-clause-pass
new-requires-clause-pass c =
    let is : c.remove-pass.result ≡ unused_pass c.args.table.value (Some c.from.result) =
    own_pass (length c.args.genesis.now.chains.items) c.args.table.value c.args.passes.items c.requires.passes c.from.result c.remove-pass.result (omega (arith, c.requires.chain, c.from.ensures)) c.remove-pass.ensures.value
    in
    (ap (λ (s : Sight). s.table) is, ap (λ (s : Sight). s.own) is ∙ ap Some c.from.ensures)

pub new-requires-clause-unpublished : goal.new-requires-clause-unpublished
new-requires-clause-unpublished c =
    let is : c.remove-pass.result ≡ unused_pass c.args.table.value (Some c.from.result) =
    own_pass (length c.args.genesis.now.chains.items) c.args.table.value c.args.passes.items c.requires.passes c.from.result c.remove-pass.result (omega (arith, c.requires.chain, c.from.ensures)) c.remove-pass.ensures.value
    in
    ap (λ (s : Sight). published_by c.args.chain s.seen) is

-- the genesis is allowed, so only memory can be wanting
pub returns-in_err-ledger-clause-err : goal.returns-in_err-ledger-clause-err
returns-in_err-ledger-clause-err c =
    let p = err_from_is_err_and c.from_residual-in_err-ledger.result c.from_residual-in_err-ledger.ensures.1 in
    let allowed : is_allowed (genesis_state c.args.genesis.now) ≡ true = c.requires.allowed in
    rw (p.1, p.2) (⊎_elim (λ bad. absurd (let refused = c.in_err-ledger.ensures.bad.0 (ap Err bad) in cc (allowed, refused))) (λ none. none) c.in_err-ledger.ensures.err)

pub returns-clause-ok : goal.returns-clause-ok
returns-clause-ok c =
    let is = c.in_ok-ledger.ensures.ok in
    record {
      of = ap (λ (l : LedgerModel). l.ledger.genesis) is;
      number = ap (λ (l : LedgerModel). l.ledger.chain) is;
      unasked = ap (λ (l : LedgerModel). l.ledger.history) is;
    }
