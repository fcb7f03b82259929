-- What the records keep of the last block is what the history says of it.
use Rattle.ibc_ledger.proofs.Common.{◌∙◌, ap, subst, TableName, state_of, LedgerModel, genesis_of, ledger_of, abstract_apps}
use Rattle.ibc_root_table.specs.Publications.{IsWithin}
use Rattle.ibc_machine.specs.ics18.Relay.{view_of}
use Rattle.ibc_ledger.proofs.Windows.{some_window}
use Rattle.ibc_ledger.proofs.LastBlocks.{is_kept, proved, height_is, view_is}
use Rattle.ibc_ledger.proofs.ledger.Ledger.view.Goals as goal

pub tree_at-requires : goal.tree_at-requires
tree_at-requires c =
    let l = c.self.inside in
    let height = height_is l c.self.invariant (subst (λ (t : TableName). IsWithin t.shape l.pass.seen) c.deref.ensures c.lemma_holds_what_is_seen.ensures) c.height-height.result c.height-height.ensures in
    record { kept = is_kept (ledger_of l) l.node.records (abstract_apps l.node.applications) c.self.invariant.stands (some_window (genesis_of l) c.self.invariant.allowed) c.height-height.result height }

pub new-requires : goal.new-requires
new-requires c =
    let l = c.self.inside in
    let height = height_is l c.self.invariant (subst (λ (t : TableName). IsWithin t.shape l.pass.seen) c.deref.ensures c.lemma_holds_what_is_seen.ensures) c.height-height.result c.height-height.ensures in
    proved (ledger_of l) l.node.records (abstract_apps l.node.applications) c.self.invariant.stands (some_window (genesis_of l) c.self.invariant.allowed) c.height-height.result height
    c.in_ok-plain.plain.value c.in_ok-plain.ensures.ok c.in_ok-tree.tree c.in_ok-tree.ensures.ok

pub returns-clause-ok : goal.returns-clause-ok
returns-clause-ok c =
    let l = c.self.inside in
    let height = height_is l c.self.invariant (subst (λ (t : TableName). IsWithin t.shape l.pass.seen) c.deref.ensures c.lemma_holds_what_is_seen.ensures) c.height-height.result c.height-height.ensures in
    c.new.ensures
    ∙ view_is (genesis_of l).window (some_window (genesis_of l) c.self.invariant.allowed) (state_of (ledger_of l)) l.node.records (abstract_apps l.node.applications) c.self.invariant.stands.holds
    l.node.number c.height-height.result c.last_time.result c.time.result c.in_ok-plain.plain.value height c.last_time.ensures c.time.ensures c.in_ok-plain.ensures.ok
    ∙ ap (λ (h : LedgerModel). view_of h.ledger.chain (state_of h.ledger).chain) c.self.view_is
