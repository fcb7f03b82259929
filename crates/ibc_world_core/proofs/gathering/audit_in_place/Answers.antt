-- Whole ledgers of one world meet, and what they hold is told.
use Rattle.std.proofs.Common.{◌≡◌, true, rules}
use Rattle.ibc_world_core.specs.WorldAudits.{is_whole}
use Rattle.ibc_world_core.proofs.OneWorld.{chains_are, audited, stays_met, still_one_world}
use Rattle.ibc_world_core.proofs.gathering.audit_in_place.Goals as goal

pub meet_all-requires-clause-chains : goal.meet_all-requires-clause-chains
meet_all-requires-clause-chains c =
    let whole : is_whole c.args.ledgers.now ≡ true = search rules in
    chains_are c.args.ledgers.now whole c.requires c.lemma_know_all.ensures.are

pub returns-clause-audited : goal.returns-clause-audited
returns-clause-audited c =
    let whole : is_whole c.args.ledgers.now ≡ true = search rules in
    audited c.args.ledgers.now _ c.in_ok-audit.audit whole c.requires c.lemma_know_all.ensures.are c.lemma_know_all.ensures.allowed c.meet_all.ensures.met c.in_ok-audit.ensures.ok

pub returns-clause-stay : goal.returns-clause-stay
returns-clause-stay c =
    let whole : is_whole c.args.ledgers.now ≡ true = search rules in
    stays_met c.args.ledgers.now _ whole c.requires c.meet_all.ensures.met c.meet_all.ensures.tables

pub returns-clause-world : goal.returns-clause-world
returns-clause-world c =
    let whole : is_whole c.args.ledgers.now ≡ true = search rules in
    still_one_world c.args.ledgers.now _ c.requires (stays_met c.args.ledgers.now _ whole c.requires c.meet_all.ensures.met c.meet_all.ensures.tables)
