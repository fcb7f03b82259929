-- What the ledger of the end says, where both are there.
use Rattle.std.proofs.Common.{◌≡◌, ◌∙◌, sym, ap, List, Bor, option_map}
use Rattle.std.proofs.lemmas.Result.{IfOk-weaker}
use Rattle.ibc_law_checks.specs.declared.ends.EndNotes.{EndNotes}
use Rattle.ibc_ledger.specs.LedgerModel.{LedgerModel}
use Rattle.ibc_law_checks.specs.Peers.{peer_of, peer_on}
use Rattle.ibc_law_checks.proofs.ReadEnds.{end_read, at_end_is, at_end_none}
use Rattle.ibc_law_checks.proofs.checks.LawChecks.peer_of.Goals as goal

pub returns-in-Some-ledger : goal.returns-in-Some-ledger
returns-in-Some-ledger c =
    let items = c.args.self.now.ends.items in
    let end = c.in-Some.end.now in
    let ledger = c.in-Some-ledger.ledger.now.ledger in
    let there = end_read items c.deref.result.now c.args.own c.in-Some.end c.deref.ensures.value c.in-Some.ensures.lookup in
    let of = sym (ap (option_map (λ (l : Bor LedgerModel). l.now.ledger)) c.in-Some-ledger.is) ∙ c.ledger.ensures in
    let is = at_end_is (peer_on items) c.args.world.now items c.args.own end ledger there of in
    IfOk-weaker c.peer_on.result (λ place. place ≡ peer_on c.as_slice.result.now end.port end.channel ledger) (λ place. place ≡ peer_of c.args.world.now items c.args.own)
    (λ place e. e ∙ ap (λ (l : List EndNotes). peer_on l end.port end.channel ledger) c.as_slice.ensures.value ∙ sym is) c.peer_on.ensures

pub returns-in-None : goal.returns-in-None
returns-in-None c =
    let items = c.args.self.now.ends.items in
    let end = c.in-Some.end.now in
    let there = end_read items c.deref.result.now c.args.own c.in-Some.end c.deref.ensures.value c.in-Some.ensures.lookup in
    let none = sym (ap (option_map (λ (l : Bor LedgerModel). l.now.ledger)) c.in-None.is) ∙ c.ledger.ensures in
    sym (at_end_none (peer_on items) c.args.world.now items c.args.own end there none)
