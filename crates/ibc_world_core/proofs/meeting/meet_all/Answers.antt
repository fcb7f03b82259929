-- The first ledger meets the others, and they take over what it has seen.
use Rattle.std.proofs.Common.{◌∷◌, length, sym, subst}
use Rattle.ibc_machine.specs.ledger.Ledgers.{IsLedger}
use Rattle.ibc_ledger.specs.LedgerModel.{LedgerModel}
use Rattle.ibc_refinement.specs.World.{AreOfFirstChains}
use Rattle.ibc_refinement.specs.Meetings.{HaveMet}
use Rattle.ibc_world_core.specs.WorldModel.{ledgers_alone}
use Rattle.ibc_world_core.proofs.Rounds.{at_the_first, have_met}
use Rattle.ibc_world_core.proofs.meeting.meet_all.Goals as goal

pub meet_each-requires : goal.meet_each-requires
meet_each-requires c = at_the_first c.args.ledgers.now c.in-Some.others.now c.in-Some.leader.now c.in-Some.ensures.cases.0 c.requires.tables

pub returns-in-Some-clause-met : goal.returns-in-Some-clause-met
returns-in-Some-clause-met c =
    let leader = c.meet_each.new.leader in
    let now = c.follow_each.new.others in
    let meets = c.meet_each.ensures in
    let follows = c.follow_each.ensures in
    let is = subst (λ (h : LedgerModel). IsLedger h.ledger) follows.leader c.lemma_is_its_history.ensures.is in
    let within = subst (λ (h : LedgerModel). AreOfFirstChains (length h.ledger.genesis.chains) h.ledger.seen) follows.leader c.lemma_is_its_history.ensures.within in
    subst (λ (h : LedgerModel). HaveMet (ledgers_alone c.args.ledgers.now) (h.ledger ∷ ledgers_alone now)) (sym follows.leader)
    (have_met c.in-Some.leader.now leader c.in-Some.others.now c.meet_each.new.others now meets.leader meets.others follows.others c.args.ledgers.now c.in-Some.ensures.cases.0 c.requires.chains is within follows.seen follows.are)
