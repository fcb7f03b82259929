-- The test of two payloads is the definitions' own.
use Rattle.std.proofs.Common.{◌&&◌, eqb, ap, ◌∙◌}
use Rattle.std.specs.Str.{bytes_eq}
use Rattle.ibc_machine.specs.chain.Records.{Commitment, commitment_of}
use Rattle.ibc_records.proofs.OwnEnd.{same_payload}
use Rattle.ibc_records.proofs.ends.commits_to.Goals as goal

pub returns-then-eq : goal.returns-then-eq
returns-then-eq c =
    let payload = c.if-eq.ensures ∙ ap (λ (found : Commitment). bytes_eq found.payload c.args.packet.now.payload) c.found.view_is in
    c.has_timeouts.ensures
    ∙ ap (λ b. b && eqb c.args.found.now.timeout_height c.args.packet.now.timeout_height && eqb c.args.found.now.timeout_time c.args.packet.now.timeout_time) payload
    ∙ same_payload c.args.found.now (commitment_of c.args.packet.now)

pub returns-else-eq : goal.returns-else-eq
returns-else-eq c =
    let payload = c.if-eq.ensures ∙ ap (λ (found : Commitment). bytes_eq found.payload c.args.packet.now.payload) c.found.view_is in
    c.if-eq.false
    ∙ ap (λ b. b && eqb c.args.found.now.timeout_height c.args.packet.now.timeout_height && eqb c.args.found.now.timeout_time c.args.packet.now.timeout_time) payload
    ∙ same_payload c.args.found.now (commitment_of c.args.packet.now)
