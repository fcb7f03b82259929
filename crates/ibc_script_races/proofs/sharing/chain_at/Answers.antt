use Rattle.std.proofs.Common.{◌≡◌, ◌∙◌, sym}
use Rattle.ibc_script_races.proofs.Receipts.{found_at}
use Rattle.ibc_script_races.proofs.sharing.chain_at.Goals as goal

pub returns-then-number : goal.returns-then-number
returns-then-number g c =
    let same : c.in_ok-chain.chain.now ≡ c.args.number = sym c.number.ensures ∙ c.if-number.true in
    (same, found_at c.args.chains.now c.from.result c.args.number c.in_ok-chain.chain c.in_ok-chain.ensures.lookup c.from.ensures same)
