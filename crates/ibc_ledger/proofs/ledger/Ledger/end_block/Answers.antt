use Rattle.ibc_ledger.proofs.Common.{List, None, Err, ◌≡◌, ◌∷◌, [], ◌++◌, refl, sym, ap, ◌∙◌, subst, arith, is_ok, NoMemory, Reply, KeptEntry, Inside, AddsOrNot, result_effects, caller_reply, history_reply, entry_of, stamp_if, abstract_entry, ledger_of}
use Rattle.ibc_machine.specs.declared.event.Event.TheVariants as event
use Rattle.ibc_ledger.proofs.HeldLedgers.{held_with, adds}
use Rattle.ibc_ledger.proofs.Ending.{IsBlockEntry, block_of, ended_entry, block_told}
use Rattle.ibc_ledger.proofs.ledger.Ledger.end_block.Goals as goal

abbrev new_inside : goal.After-push_reserved → Inside
new_inside c = record c.self.inside { node = record c.self.inside.node { records = c.commit_block-ended.new.records }; pass = c.commit_block-ended.new.pass; history = c.push_reserved.new.self }

abbrev given : goal.After-push_reserved → Reply
given c = caller_reply (result_effects block_of c.commit_block-ended.result)

abbrev kept : goal.After-push_reserved → KeptEntry
kept c = record { entry = record { event = event.Block c.self.inside.node.number c.args.next_time; reply = c.in-Ok-replies.kept; reading = None }; seen = c.seen_if-seen.result }

has_room : (c : goal.After-push_reserved) → result_effects block_of c.commit_block-ended.result ≡ Err NoMemory → ⊥
has_room c = subst (λ r. r ≡ Err NoMemory → ⊥) c.of_block.ensures (c.in-Ok-replies.ensures.plenty refl)

replied : (c : goal.After-push_reserved) → c.in-Ok-replies.reply ≡ given c
replied c = c.in-Ok-replies.ensures.ok.0 ∙ ap caller_reply c.of_block.ensures

entry : (c : goal.After-push_reserved) → IsBlockEntry c.self.inside c.args.next_time (given c) (abstract_entry (kept c)) c.commit_block-ended.new.records c.commit_block-ended.new.pass
entry c =
    let kept_is : c.in-Ok-replies.kept ≡ given c = c.in-Ok-replies.ensures.ok.1 ∙ ap history_reply c.of_block.ensures ∙ block_told c.commit_block-ended.result in
    let stamp : stamp_if (is_ok c.commit_block-ended.result) c.commit_block-ended.new.pass.seen ≡ (abstract_entry (kept c)).stamp =
    ap (λ b. stamp_if b c.commit_block-ended.new.pass.seen) (sym c.is_ok.ensures.value) ∙ sym c.seen_if-seen.ensures in
    subst (λ e. IsBlockEntry c.self.inside c.args.next_time (given c) e c.commit_block-ended.new.records c.commit_block-ended.new.pass)
    (λ i. entry_of (event.Block c.self.inside.node.number c.args.next_time) (sym kept_is i) None (stamp i))
    (ended_entry c.self.inside c.self.invariant c.args.next_time (omega arith) c.commit_block-ended.result c.commit_block-ended.new.records c.commit_block-ended.new.pass c.commit_block-ended.ensures (has_room c))

items : (c : goal.After-push_reserved) → c.push_reserved.new.self.items ≡ c.self.inside.history.items ++ kept c ∷ []
items c = c.push_reserved.ensures.items ∙ ap (λ (xs : List KeptEntry). xs ++ kept c ∷ []) c.in-Ok.ensures.items

pub invariant_of-self-2 : goal.invariant_of-self-2
invariant_of-self-2 c = held_with c.self.inside c.self.invariant (λ k. event.Block k c.args.next_time) (given c) (kept c) (new_inside c) (entry c) refl (items c) refl

pub returns-clause-adds : goal.returns-clause-adds
returns-clause-adds c =
    subst (λ r. AddsOrNot c.args.self.now.ledger (event.Block c.args.self.now.ledger.chain c.args.next_time) r (ledger_of (new_inside c))) (sym (replied c))
    (adds c.self.inside c.self.invariant (λ k. event.Block k c.args.next_time) (given c) (kept c) (new_inside c) (entry c) refl (items c) c.args.self.now c.self.view_is)

pub returns-clause-nothing : goal.returns-clause-nothing
returns-clause-nothing c = λ none. absurd ((entry c).plenty (sym (replied c) ∙ none))
