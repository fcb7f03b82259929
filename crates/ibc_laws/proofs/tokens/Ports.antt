-- The port of an end fixes its order, so an end of port `transfer` has a peer of that port.
use Rattle.std.proofs.Common.{◌≡◌, Bool, true, false, refl, Ok, ◌⊎◌, inl, inr, ◌||◌, if◌then◌else◌}
use Rattle.ibc_ids.specs.Texts.{Text, same_text}
use Rattle.ibc_ids.specs.declared.refusal.Refusal.{Refusal}
use Rattle.ibc_ids.proofs.Texts.{text_same}
use Rattle.ibc_wire.specs.declared.records.Order.{Order}
use Rattle.ibc_wire.specs.declared.records.Order.TheVariants.{Unordered, Ordered}
use Rattle.ibc_wire.specs.declared.records.ChannelEnd.{ChannelEnd}
use Rattle.ibc_machine.specs.chain.Checks.{require}
use Rattle.ibc_machine.specs.ics24.Values.{same_order}
use Rattle.ibc_machine.specs.ics20.Transfers.{transfer_port, opens_for_transfers}
use Rattle.ibc_machine.specs.chain.Notes.{note_port, opens_for_notes}
use Rattle.ibc_machine.specs.chain.Machine.{World}
use Rattle.ibc_machine.specs.promises.Histories.{End}
use Rattle.ibc_machine.proofs.PassedRows.{require_passed}
use Rattle.ibc_machine.proofs.SameValues.{same_order_is}
use Rattle.ibc_laws.proofs.steps.CoreSteps.{IsTaken}
use Rattle.ibc_laws.proofs.tokens.ChainKinds.{Kinds}
use Rattle.ibc_laws.proofs.peers.Invariant.{Inv}
use Rattle.ibc_laws.proofs.peers.Peers.{Peers}
use Rattle.ibc_laws.proofs.packets.ThirdLaw.{same_order_as}

require_is : (b : Bool) (r : Refusal) → require b r ≡ Ok tt → b ≡ true
require_is true r e = refl
require_is false r e = absurd (cc e)

transfers_order : (order : Order) (version : Text) → opens_for_transfers order version ≡ Ok tt → order ≡ Unordered
transfers_order order version e = same_order_is order Unordered (require_passed (same_order order Unordered) _ _ e).0

notes_order : (order : Order) (version : Text) → opens_for_notes order version ≡ Ok tt → order ≡ Ordered
notes_order order version e = same_order_is order Ordered (require_passed (same_order order Ordered) _ _ e).0

-- the two ports, each with its order
abbrev pub IsTransferEnd : Text → ChannelEnd → Type 0
IsTransferEnd port end = (port ≡ transfer_port) × (end.order ≡ Unordered)

abbrev pub IsNoteEnd : Text → ChannelEnd → Type 0
IsNoteEnd port end = (port ≡ note_port) × (end.order ≡ Ordered)

pub of_port : (port : Text) (end : ChannelEnd) → IsTaken port end → IsTransferEnd port end ⊎ IsNoteEnd port end
of_port port end taken = go (same_text port transfer_port) refl (require_is _ _ taken.0) taken.1
  where
    go : (b : Bool) → same_text port transfer_port ≡ b → (b || same_text port note_port) ≡ true
        → (if b then opens_for_transfers end.order end.version else opens_for_notes end.order end.version) ≡ Ok tt
        → IsTransferEnd port end ⊎ IsNoteEnd port end
    go true is port_is opens = inl (text_same port transfer_port is, transfers_order end.order end.version opens)
    go false is port_is opens = inr (text_same port note_port port_is, notes_order end.order end.version opens)

pub transfer_peer : (w : World) → Inv w → Kinds w → (e f : End) → Peers w e f → e.port ≡ transfer_port → f.port ≡ transfer_port
transfer_peer w inv kinds e f p is =
    let mine = of_port e.port p.mine.end ((kinds.each e.chain p.here.chain p.here.there).ports e.port e.channel p.mine p.here.is) in
    let theirs = of_port f.port p.theirs.end ((kinds.each f.chain p.there.chain p.there.there).ports f.port f.channel p.theirs p.there.is) in
    let same = same_order_as w inv e f p in
    elim theirs [
      | inl transfer ↦ transfer.0
      | inr note ↦ elim mine [
        | inl ours ↦ absurd (cc (ours.1, note.1, same))
        | inr ours ↦ absurd (cc (is, ours.0))
      ]
    ]
