use Rattle.std.proofs.Common.{[], ◌∷◌, ◌++◌, sym, ap, ◌∙◌, subst}
use Rattle.ibc_world_core.specs.WorldAudits.{AreOfOneWorld}
use Rattle.ibc_handle.specs.LedgersModel.{LedgersModel, Joins}
use Rattle.ibc_handle.proofs.OneWorld.{joined_are}
use Rattle.ibc_handle.proofs.ledgers.WorldLedgers.add.Goals as goal

pub invariant_of-self : goal.invariant_of-self
invariant_of-self c = subst AreOfOneWorld (sym c.reserve.ensures.items) c.self.invariant

pub invariant_of-self-2 : goal.invariant_of-self-2
invariant_of-self-2 c =
    let joins = subst (λ (all : LedgersModel). Joins c.args.ledger all.ledgers) (sym c.self.view_is) c.requires in
    let whole = joined_are c.self.inside.ledgers.items c.args.ledger joins c.self.invariant in
    subst AreOfOneWorld (sym (c.push_reserved.ensures.items ∙ ap (λ xs. xs ++ c.args.ledger ∷ []) c.reserve.ensures.items)) whole
