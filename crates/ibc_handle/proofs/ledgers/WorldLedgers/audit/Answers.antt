-- The ledgers that stay are as many, and of one world.
use Rattle.std.proofs.Common.{◌≡◌, List, length, sym, ap, subst, arith}
use Rattle.std.proofs.lemmas.List.{with_items_is}
use Rattle.ibc_ledger.specs.LedgerModel.{LedgerModel}
use Rattle.ibc_world_core.specs.WorldAudits.{AreOfOneWorld}
use Rattle.ibc_handle.proofs.ledgers.WorldLedgers.audit.Goals as goal

pub invariant_of-self : goal.invariant_of-self
invariant_of-self c =
    let now = c.lawful_audit_in_place.new.ledgers in
    let same = c.lawful_audit_in_place.ensures.stay.as_many in
    let value = ap (λ (l : List LedgerModel). length l) c.as_mut_slice.ensures.value in
    let long : length now ≡ c.self.inside.ledgers.len = omega (arith, same, value, c.self.inside.ledgers.ok.0) in
    subst AreOfOneWorld (sym (with_items_is c.self.inside.ledgers now long)) c.lawful_audit_in_place.ensures.world
