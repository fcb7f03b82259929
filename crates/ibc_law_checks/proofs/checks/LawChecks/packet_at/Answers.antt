-- What the ledger of the end says, where both are there.
use Rattle.std.proofs.Common.{◌≡◌, ◌∙◌, sym, ap, Bor, option_map}
use Rattle.std.proofs.lemmas.Result.{IfOk-weaker}
use Rattle.ibc_ids.specs.Texts.{Text}
use Rattle.ibc_ledger.specs.SentPackets.{packet_on}
use Rattle.ibc_machine.specs.ledger.Ledgers.{Ledger}
use Rattle.ibc_ledger.specs.LedgerModel.{LedgerModel}
use Rattle.ibc_law_checks.specs.Peers.{packet_at}
use Rattle.ibc_law_checks.proofs.ReadEnds.{end_read, at_end_is, at_end_none}
use Rattle.ibc_law_checks.proofs.checks.LawChecks.packet_at.Goals as goal

pub returns-in-Some-ledger : goal.returns-in-Some-ledger
returns-in-Some-ledger c =
    let items = c.args.self.now.ends.items in
    let end = c.in-Some.end.now in
    let ledger = c.in-Some-ledger.ledger.now.ledger in
    let there = end_read items c.deref.result.now c.args.place c.in-Some.end c.deref.ensures.value c.in-Some.ensures.lookup in
    let of = sym (ap (option_map (λ (l : Bor LedgerModel). l.now.ledger)) c.in-Some-ledger.is) ∙ c.ledger.ensures in
    let is = at_end_is (λ (port channel : Text) (l : Ledger). packet_on l port channel c.args.sequence) c.args.world.now items c.args.place end ledger there of in
    IfOk-weaker c.packet.result (λ packet. packet ≡ packet_on ledger end.port end.channel c.args.sequence) (λ packet. packet ≡ packet_at c.args.world.now items c.args.place c.args.sequence)
    (λ packet e. e ∙ sym is) c.packet.ensures.ok

pub returns-in-None : goal.returns-in-None
returns-in-None c =
    let items = c.args.self.now.ends.items in
    let end = c.in-Some.end.now in
    let there = end_read items c.deref.result.now c.args.place c.in-Some.end c.deref.ensures.value c.in-Some.ensures.lookup in
    let none = sym (ap (option_map (λ (l : Bor LedgerModel). l.now.ledger)) c.in-None.is) ∙ c.ledger.ensures in
    sym (at_end_none (λ (port channel : Text) (l : Ledger). packet_on l port channel c.args.sequence) c.args.world.now items c.args.place end there none)
