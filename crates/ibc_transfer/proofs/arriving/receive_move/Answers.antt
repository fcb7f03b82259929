-- What is behind the hop comes home.
use Rattle.std.proofs.Common.{sym}
use Rattle.ibc_transfer.proofs.Receiving.{comes_home}
use Rattle.ibc_transfer.proofs.arriving.receive_move.Goals as goal

pub returns-in_ok-clone-in-Some-2-clause-ok : goal.returns-in_ok-clone-in-Some-2-clause-ok
returns-in_ok-clone-in-Some-2-clause-ok c =
    let home = comes_home c.args.packet.now c.args.user.now c.in-Some.denom c.args.token.now (rw c.in-Some.is at c.in_ok-home.ensures.ok) in
    rw (c.in_ok-clone-in-Some.ensures.cases, c.in_ok-clone-in-Some-2.ensures.cases) (sym home)
