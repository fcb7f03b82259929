use Rattle.ibc_ledger.proofs.Common.{refl}
use Rattle.ibc_ledger.proofs.HeldLedgers.{still_held}
use Rattle.ibc_ledger.proofs.ledger.Ledger.meet.Goals as goal

pub invariant_of-self : goal.invariant_of-self
invariant_of-self c =
    still_held c.self.inside c.self.invariant _ refl c.meet.ensures.passes.0 c.meet.ensures.first c.meet.ensures.own.0 refl refl c.self.invariant.flight refl refl

pub invariant_of-other : goal.invariant_of-other
invariant_of-other c =
    still_held c.other.inside c.other.invariant _ refl c.meet.ensures.passes.1 c.meet.ensures.second c.meet.ensures.own.1 refl refl c.other.invariant.flight refl refl
