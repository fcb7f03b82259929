-- The messages that were added are those that are pending at the end, and they go over its client.
use Rattle.std.proofs.Common.{rules, ◌≡◌, ◌++◌, ◌&&◌, ◌∙◌, sym, ap, List, length, nat_lt}
use Rattle.ibc_ids.specs.Texts.{same_text}
use Rattle.ibc_wire.specs.declared.messages.Message.{Message}
use Rattle.ibc_relayer.specs.EndPackets.{end_messages}
use Rattle.ibc_relayer.specs.UsedClients.{has_any}
use Rattle.ibc_relayer.proofs.EndMessages.{messages_are, goes_over_client}
use Rattle.ibc_relayer.proofs.PlannedMessages.{is_longer}
use Rattle.ibc_relayer.proofs.planning.has_messages.Goals as goal

pub returns-clause-ok : goal.returns-clause-ok
returns-clause-ok c =
    let e = c.args.ends.now in
    c.in_ok-plan.ensures.ok
    ∙ ap (λ (ms : List Message). c.args.messages.now.items ++ ms)
    (sym (messages_are e.a.now e.b.now e.port.now e.channel.now e.mine.now e.theirs.now c.requires.there c.requires.ends.theirs_is c.lemma_in_order.ensures.mine c.lemma_in_order.ensures.theirs c.requires.ends.tracked))

pub returns-clause-over : goal.returns-clause-over
returns-clause-over c =
    let e = c.args.ends.now in
    let all = end_messages e.a.now e.b.now (e.port.now, e.channel.now) e.mine.now e.theirs.now in
    let before : c.len-before.result ≡ length c.args.messages.now.items = search rules in
    let after : c.len.result ≡ length c.plan.new.messages.items = search rules in
    let longer : has_any all ≡ nat_lt c.len-before.result c.len.result =
    sym (is_longer c.args.messages.now.items c.plan.new.messages.items all c.in_ok-plan.ensures.ok) ∙ (λ i. nat_lt (sym before i) (sym after i)) in
    λ id. goes_over_client e.a.now e.b.now e.port.now e.channel.now e.mine.now e.theirs.now c.requires.there c.requires.ends.theirs_is c.lemma_in_order.ensures.mine c.lemma_in_order.ensures.theirs c.requires.ends.tracked id
    ∙ λ i. longer i && same_text (c.requires.ends.client_is i) id
