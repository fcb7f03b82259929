-- The tests of two texts are the definitions' own. The names of channels are compared first, since most ports are the same.
use Rattle.std.proofs.Common.{◌≡◌, ◌&&◌, Bool, true, false, refl, ap, ◌∙◌}
use Rattle.std.specs.Str.{bytes_eq}
use Rattle.ibc_records.proofs.OwnEnd.{peer_named}
use Rattle.ibc_relayer.proofs.due.has_peer.Goals as goal

and_true : (b : Bool) → b ≡ (b && true)
and_true true = refl
and_true false = refl

and_false : (b : Bool) → false ≡ (b && false)
and_false true = refl
and_false false = refl

pub returns-then-eq : goal.returns-then-eq
returns-then-eq c =
    let ports = bytes_eq c.args.port.now c.end-end.result.now.peer_port in
    c.eq-then-eq.ensures ∙ and_true ports ∙ ap (λ b. ports && b) c.if-eq.ensures
    ∙ peer_named c.args.mine.now c.args.port.now c.args.channel.now c.end-end.result.now c.in-Some.peer c.end-end.ensures c.in-Some.is

pub returns-else-eq : goal.returns-else-eq
returns-else-eq c =
    let ports = bytes_eq c.args.port.now c.end-end.result.now.peer_port in
    c.if-eq.false ∙ and_false ports ∙ ap (λ b. ports && b) c.if-eq.ensures
    ∙ peer_named c.args.mine.now c.args.port.now c.args.channel.now c.end-end.result.now c.in-Some.peer c.end-end.ensures c.in-Some.is
