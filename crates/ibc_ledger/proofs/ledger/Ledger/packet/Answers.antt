use Rattle.ibc_ledger.proofs.Common.{◌≡◌, sym, ap, ◌∙◌, subst, Some, Option, IfOk, slice_get, option_copied, option_map, arith, slice_get-get_or, LedgerModel, Packet, packet_on, packet_to, commitment_in}
use Rattle.ibc_wire.specs.declared.records.ChannelEnd.{ChannelEnd}
use Rattle.ibc_ledger.proofs.FoundPackets.{not_sent, within, was_sent}
use Rattle.ibc_ledger.proofs.ledger.Ledger.packet.Goals as goal

pub returns-in_default-2-clause-ok : goal.returns-in_default-2-clause-ok
returns-in_default-2-clause-ok c =
    let there = sym c.in_ok-mine.ensures.ok ∙ ap option_copied c.in-Some.is in
    let knows = ap (λ (e : ChannelEnd). e.peer_channel) (sym c.end-end.ensures) ∙ c.in-Some-peer_channel.is in
    sym (ap (λ (h : LedgerModel). packet_on h.ledger c.args.port.now c.args.channel.now c.args.sequence) (sym c.self.view_is)
    ∙ not_sent c.self.inside c.self.invariant c.args.port.now c.args.channel.now c.args.sequence c.in-Some.mine.now there c.in-Some-peer_channel.peer knows (sym c.in_ok-place.ensures ∙ c.in_default-2.is))

pub index-stamped-requires : goal.index-stamped-requires
index-stamped-requires c =
    let low = within c.self.inside c.self.invariant c.args.port.now c.args.channel.now c.args.sequence c.in-Some-2.place (sym c.in_ok-place.ensures ∙ c.in-Some-2.is) in
    omega (arith, low)

pub returns-clause-ok : goal.returns-clause-ok
returns-clause-ok c =
    let l = c.self.inside in
    let there = sym c.in_ok-mine.ensures.ok ∙ ap option_copied c.in-Some.is in
    let knows = ap (λ (e : ChannelEnd). e.peer_channel) (sym c.end-end.ensures) ∙ c.in-Some-peer_channel.is in
    let found = sym c.in_ok-place.ensures ∙ c.in-Some-2.is in
    let low = within l c.self.invariant c.args.port.now c.args.channel.now c.args.sequence c.in-Some-2.place found in
    let here : slice_get l.history.items c.in-Some-2.place ≡ Some c.index-stamped.result.now =
    slice_get-get_or l.history.items c.in-Some-2.place c.index-stamped.result.now low ∙ ap Some (sym c.index-stamped.ensures) in
    subst (λ (o : Option Packet). IfOk c.packet_in.result (λ packet. packet ≡ o))
    (ap (λ (e : ChannelEnd). option_map (λ commitment. packet_to c.args.port.now c.args.channel.now c.args.sequence e c.in-Some-peer_channel.peer commitment) (commitment_in c.index-stamped.result.now.entry.event)) c.end-end.ensures
    ∙ sym (ap (λ (h : LedgerModel). packet_on h.ledger c.args.port.now c.args.channel.now c.args.sequence) (sym c.self.view_is)
    ∙ was_sent l c.self.invariant c.args.port.now c.args.channel.now c.args.sequence c.in-Some-2.place found c.index-stamped.result.now here c.in-Some.mine.now there c.in-Some-peer_channel.peer knows))
    c.packet_in.ensures.ok
