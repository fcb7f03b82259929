-- What is asked of the end is asked of the channel.
use Rattle.std.proofs.Common.{◌∙◌, sym, ap, option_copied}
use Rattle.std.specs.Option.{option_and_then}
use Rattle.ibc_machine.specs.chain.Records.{Channel}
use Rattle.ibc_law_checks.specs.Peers.{named_place}
use Rattle.ibc_law_checks.proofs.checks.reads.peer_on.Goals as goal

pub returns-in-Some : goal.returns-in-Some
returns-in-Some c =
    let ends = c.args.ends.now in
    let ledger = c.args.ledger.now.ledger in
    let found = sym c.in_ok-mine.ensures.ok ∙ ap option_copied c.in-Some.is in
    c.named_place.ensures ∙ ap (named_place ends ledger) c.end.ensures
    ∙ sym (ap (option_and_then (λ (mine : Channel). named_place ends ledger mine.end)) found)
