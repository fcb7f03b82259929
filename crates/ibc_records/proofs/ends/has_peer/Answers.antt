-- The tests of two texts are the definitions' own.
use Rattle.std.proofs.Common.{◌&&◌, ap, ◌∙◌}
use Rattle.std.specs.Str.{bytes_eq}
use Rattle.ibc_records.proofs.OwnEnd.{peer_named}
use Rattle.ibc_records.proofs.ends.has_peer.Goals as goal

pub returns-then-eq : goal.returns-then-eq
returns-then-eq c =
    c.eq-then-eq.ensures ∙ ap (λ b. b && bytes_eq c.in-Some.peer c.args.channel.now) c.if-eq.ensures
    ∙ peer_named c.args.mine.now c.args.port.now c.args.channel.now c.end-end.result.now c.in-Some.peer c.end-end.ensures c.in-Some.is

pub returns-else-eq : goal.returns-else-eq
returns-else-eq c =
    c.if-eq.false ∙ ap (λ b. b && bytes_eq c.in-Some.peer c.args.channel.now) c.if-eq.ensures
    ∙ peer_named c.args.mine.now c.args.port.now c.args.channel.now c.end-end.result.now c.in-Some.peer c.end-end.ensures c.in-Some.is
