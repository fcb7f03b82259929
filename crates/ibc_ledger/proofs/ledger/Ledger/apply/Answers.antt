use Rattle.ibc_ledger.proofs.Common.{List, ◌≡◌, is_some, length, ◌∷◌, [], ◌++◌, refl, sym, ap, ◌∙◌, subst, arith, published_by, Reply, KeptEntry, Inside, AddsOrNot, caller_reply, entry_of, stamp_if, abstract_entry, ledger_of, sender_of, name_if_sent}
use Rattle.ibc_ledger.proofs.Common.{with_first}
use Rattle.std.specs.Prelude.{option_map}
use Rattle.ibc_machine.specs.declared.event.Event.TheVariants as event
use Rattle.ibc_ledger.proofs.HeldLedgers.{still_held, IsEntry, held_with, adds, IsApplied, not_added, applied, others_publish, entry_applied, unchanged_applied}
use Rattle.ibc_ledger.proofs.ledger.Ledger.apply.Goals as goal

-- ---- memory ran out

pub invariant_of-self-in_default-replies : goal.invariant_of-self-in_default-replies
invariant_of-self-in_default-replies c =
    let passes = c.answer-outcome.ensures.pass in
    let others = others_publish c.self.inside c.self.invariant c.answer-outcome.new.pass passes.1 passes.2 in
    let says = applied c.self.inside c.self.invariant c.answer-outcome.new.pass passes.1 others c.answer-outcome.new.self c.args.message c.answer-outcome.result c.answer-outcome.ensures.answer in
    let left = unchanged_applied c.self.inside c.self.invariant c.answer-outcome.new.pass passes.1 others c.args.message c.answer-outcome.result c.answer-outcome.new.self says (c.in_default-replies.ensures.err refl) in
    let new : Inside = record c.self.inside { node = c.answer-outcome.new.self; pass = c.answer-outcome.new.pass; history = c.reserve.new.self; sent = c.make_room.new.self } in
    still_held c.self.inside c.self.invariant new (λ i. record new { node = says.same i })
    passes.0 passes.1 passes.2 left.0 left.1 says.flight c.in-Ok.ensures.items c.make_room.ensures.pairs

pub returns-in_default-replies-clause-adds : goal.returns-in_default-replies-clause-adds
returns-in_default-replies-clause-adds c =
    let passes = c.answer-outcome.ensures.pass in
    let others = others_publish c.self.inside c.self.invariant c.answer-outcome.new.pass passes.1 passes.2 in
    let says = applied c.self.inside c.self.invariant c.answer-outcome.new.pass passes.1 others c.answer-outcome.new.self c.args.message c.answer-outcome.result c.answer-outcome.ensures.answer in
    let new : Inside = record c.self.inside { node = c.answer-outcome.new.self; pass = c.answer-outcome.new.pass; history = c.reserve.new.self; sent = c.make_room.new.self } in
    not_added c.self.inside new (λ i. record new { node = says.same i }) passes.1 c.in-Ok.ensures.items (λ k. event.Message k c.args.message) c.args.self.now c.self.view_is

-- ---- there is one entry more

-- what the answer says
others : (c : goal.After-push_reserved) → published_by c.self.inside.node.number (c.self.inside.pass.seen ++ c.answer-outcome.ensures.pass.1.0) ≡ published_by c.self.inside.node.number c.self.inside.pass.seen
others c = others_publish c.self.inside c.self.invariant c.answer-outcome.new.pass c.answer-outcome.ensures.pass.1 c.answer-outcome.ensures.pass.2

says : (c : goal.After-push_reserved) → IsApplied c.self.inside c.answer-outcome.ensures.pass.1.0 c.self.invariant.stands (others c) c.args.message c.answer-outcome.result c.answer-outcome.new.self
says c = applied c.self.inside c.self.invariant c.answer-outcome.new.pass c.answer-outcome.ensures.pass.1 (others c) c.answer-outcome.new.self c.args.message c.answer-outcome.result c.answer-outcome.ensures.answer

abbrev new_inside : goal.After-push_reserved → Inside
new_inside c = record c.self.inside { node = c.answer-outcome.new.self; pass = c.answer-outcome.new.pass; history = c.push_reserved.new.self; sent = c.keep_first.new.self }

abbrev given : goal.After-push_reserved → Reply
given c = caller_reply c.answer-outcome.result.result

abbrev kept : goal.After-push_reserved → KeptEntry
kept c = record { entry = record { event = event.Message c.self.inside.node.number c.args.message; reply = c.in-Ok-replies.kept; reading = c.answer-outcome.result.reading }; seen = c.seen_if-seen.result }

told : (c : goal.After-push_reserved) → c.in-Ok-replies.kept ≡ given c
told c = c.in-Ok-replies.ensures.ok.1 ∙ (says c).kept

is_kept : (c : goal.After-push_reserved)
    → entry_of (event.Message c.self.inside.node.number c.args.message) (given c) c.answer-outcome.result.reading (stamp_if (is_some c.answer-outcome.result.reading) (c.self.inside.pass.seen ++ c.answer-outcome.ensures.pass.1.0)) ≡ abstract_entry (kept c)
is_kept c =
    let stamp : stamp_if (is_some c.answer-outcome.result.reading) (c.self.inside.pass.seen ++ c.answer-outcome.ensures.pass.1.0) ≡ option_map (λ s. length s.value.seen) c.seen_if-seen.result =
    ap (stamp_if (is_some c.answer-outcome.result.reading)) c.answer-outcome.ensures.pass.1.1 ∙ ap (λ b. stamp_if b c.answer-outcome.new.pass.seen) (sym c.is_some.ensures) ∙ sym c.seen_if-seen.ensures in
    λ i. entry_of (event.Message c.self.inside.node.number c.args.message) (sym (told c) i) c.answer-outcome.result.reading (stamp i)

items : (c : goal.After-push_reserved) → c.push_reserved.new.self.items ≡ c.self.inside.history.items ++ kept c ∷ []
items c = c.push_reserved.ensures.items ∙ ap (λ (xs : List KeptEntry). xs ++ kept c ∷ []) c.in-Ok.ensures.items

-- the place of the packet that was sent, if one was, is the entry's
sent : (c : goal.After-push_reserved) → c.keep_first.new.self.pairs ≡ with_first (name_if_sent (sender_of c.args.message) c.in-Ok-replies.kept) (length c.self.inside.history.items) c.self.inside.sent.pairs
sent c =
    let place : c.len.result ≡ length c.self.inside.history.items = omega (arith, c.len.ensures, ap length c.in-Ok.ensures.items) in
    c.keep_first.ensures ∙ (λ i. with_first (name_if_sent (c.in-Ok-make_room.ensures.sender i) c.in-Ok-replies.kept) (place i) (c.make_room.ensures.pairs i))

entry : (c : goal.After-push_reserved) → IsEntry c.self.inside (event.Message c.self.inside.node.number c.args.message) (given c) (abstract_entry (kept c)) c.answer-outcome.new.self c.answer-outcome.new.pass
entry c =
    let passes = c.answer-outcome.ensures.pass in
    subst (λ e. IsEntry c.self.inside (event.Message c.self.inside.node.number c.args.message) (given c) e c.answer-outcome.new.self c.answer-outcome.new.pass) (is_kept c)
    (entry_applied c.self.inside c.self.invariant c.answer-outcome.new.pass passes.1 (others c) c.args.message c.answer-outcome.result c.answer-outcome.new.self (says c) c.lemma_typed.ensures (c.in-Ok-replies.ensures.plenty refl) passes.0)

pub invariant_of-self-2 : goal.invariant_of-self-2
invariant_of-self-2 c = held_with c.self.inside c.self.invariant (λ k. event.Message k c.args.message) (given c) (kept c) (new_inside c) (entry c) refl (items c) (sent c)

pub returns-clause-adds : goal.returns-clause-adds
returns-clause-adds c =
    subst (λ r. AddsOrNot c.args.self.now.ledger (event.Message c.args.self.now.ledger.chain c.args.message) r (ledger_of (new_inside c))) (sym c.in-Ok-replies.ensures.ok.0)
    (adds c.self.inside c.self.invariant (λ k. event.Message k c.args.message) (given c) (kept c) (new_inside c) (entry c) refl (items c) c.args.self.now c.self.view_is)
