-- The notes of a chain change only where a packet is received on port `note`, and then by the note that it carries.
use Rattle.std.proofs.Common.{◌≡◌, ℕ, Bool, true, false, refl, ap, sym, ◌∙◌, subst, List, [], ◌∷◌, ◌++◌, length, Option, Some, None, Ok, ◌⊎◌, inl, inr, ◌&&◌, slice_get, slice_set, if◌then◌else◌, unwrap_or}
use Rattle.std.specs.Option.{option_map_or}
use Rattle.ibc_ids.specs.Texts.{Text, same_text, text_cmp}
use Rattle.ibc_ids.specs.Maps.{Map, at, with}
use Rattle.ibc_ids.proofs.Texts.{text_same}
use Rattle.ibc_wire.specs.declared.packet.Packet.{Packet}
use Rattle.ibc_wire.specs.declared.records.Order.TheVariants.{Ordered}
use Rattle.ibc_machine.specs.chain.Records.{Core, Apps, Records, MachineChain, Channel, channel_at}
use Rattle.ibc_machine.specs.chain.Checks.{Checked, ◌>>=◌}
use Rattle.ibc_machine.specs.chain.Genesis.{GenesisState, start}
use Rattle.ibc_machine.specs.chain.Handlers.{host_of}
use Rattle.ibc_machine.specs.chain.Machine.{World}
use Rattle.ibc_machine.specs.chain.Notes.{note_port, receive_note}
use Rattle.ibc_machine.specs.chain.Applications.{with_balances, on_recv}
use Rattle.ibc_machine.specs.ics04.Packets.{is_ordered}
use Rattle.ibc_machine.specs.ics20.Bank.{Balances}
use Rattle.ibc_machine.specs.ics20.Transfers.{transfer_port, refund_transfer, acknowledge_transfer}
use Rattle.ibc_machine.specs.ics24.Evidence.{Host}
use Rattle.ibc_machine.specs.ics24.Values.{same_order}
use Rattle.ibc_machine.specs.ledger.Ledgers.{chain_of}
use Rattle.ibc_machine.specs.promises.Histories.{Happened, End, is_destination, packet_if, received_by, received_packets}
use Rattle.ibc_machine.specs.promises.Laws.{IsPast}
use Rattle.ibc_machine.proofs.FiniteMaps.{by_text, at-with_split}
use Rattle.ibc_machine.proofs.PassedRows.{bind_passed, ok_same}
use Rattle.ibc_laws.specs.StoredNotes.{NotesAreReceived, NotesStay, NotesWereSent, notes_at, note_end, payloads}
use Rattle.ibc_laws.proofs.basics.PassedTests.{both}
use Rattle.ibc_laws.proofs.basics.ListPlaces.{same_or_not, get-set_same, get-set_other}
use Rattle.ibc_laws.proofs.steps.Told.{Told, Quiet, Received, told_of, is_told, received_in}
use Rattle.ibc_laws.proofs.steps.CoreSteps.{CoreStep, creates_client, updates_client, starts_connection, answers_connection, confirms_connection, opens_channel, changes_channel, ChannelStep, answers, follows, closes, sends, receives, acknowledges, times_out}
use Rattle.ibc_laws.proofs.steps.AppSteps.{AppsOf, AppsOfEnd}
use Rattle.ibc_laws.proofs.steps.WorldGrowth.{ChainStep, acts, ends}
use Rattle.ibc_laws.proofs.steps.MachineSteps.{Stepped, refused_quiet, rests, moves, stepped}
use Rattle.ibc_laws.proofs.steps.Happenings.{about-append, about-more, about-same, lemma_is_at_itself}
use Rattle.ibc_laws.proofs.steps.Induction.{past_has}
use Rattle.ibc_laws.proofs.peers.Invariant.{Inv, Inv-start, stepped_inv, starting}
use Rattle.ibc_laws.proofs.peers.Peers.{stands, stands_same, true_peers}
use Rattle.ibc_laws.proofs.packets.ThirdLaw.{in_order, same_order_as}
use Rattle.ibc_laws.proofs.tokens.ChainKinds.{Kinds, kinds_start, kinds_step}
use Rattle.ibc_laws.proofs.tokens.Ports.{of_port}

abbrev Notes : Type 0
Notes = Map Text (List Text)

abbrev kept : Text → Notes → List Text
kept channel notes = unwrap_or (at text_cmp channel notes) []

-- ---- what a step does to the notes of its chain

-- nothing is received on port `note`
abbrev NoneCome : Told → Type 0
NoneCome told = (e : End) → e.port ≡ note_port → received_in e told ≡ None

data NotesMoved (told : Told) (before after : Notes) : Type 0 where
  keep : NoneCome told → after ≡ before → NotesMoved told before after
  come : (p : Packet) (ack : Text) → told ≡ Received p (Some ack) → p.destination_port ≡ note_port
      → after ≡ with text_cmp p.destination_channel (kept p.destination_channel before ++ p.payload ∷ []) before → NotesMoved told before after

module _ (w : World) (host : Host) (records : Records) (apps : Apps) where
  abbrev Did : Told → Type 0
  Did told = NotesMoved told records.apps.notes apps.notes

  same_apps : (told : Told) → NoneCome told → apps ≡ records.apps → Did told
  same_apps told none same = keep none (ap (λ (a : Apps). a.notes) same)

  -- what balances do leaves the notes
  of_balances : (port : Text) (given : Checked Balances)
      → (if same_text port transfer_port then (given >>= λ balances. Ok (with_balances records.apps balances)) else Ok records.apps) ≡ Ok apps
      → apps.notes ≡ records.apps.notes
  of_balances port given e = go (same_text port transfer_port) e
    where
      go : (b : Bool) → (if b then (given >>= λ balances. Ok (with_balances records.apps balances)) else Ok records.apps) ≡ Ok apps → apps.notes ≡ records.apps.notes
      go true e = let step = bind_passed given _ e in sym (ap (λ (a : Apps). a.notes) (ok_same step.2))
      go false e = sym (ap (λ (a : Apps). a.notes) (ok_same e))

  -- a packet of tokens isn't received on port `note`
  no_note : (p : Packet) (ack : Option Text) → p.destination_port ≡ transfer_port → NoneCome (Received p ack)
  no_note p ack to e port =
      ap (λ (x : Text × Text). packet_if (same_text x.0 x.1 && same_text p.destination_channel e.channel) p) (λ i. (to i, port i))

  received : (port : Text) (version : Text) (p : Packet) (ack : Text) → (port ≡ transfer_port) ⊎ (port ≡ note_port) → p.destination_port ≡ port
      → on_recv records.core port records.apps version p ≡ (ack, apps) → Did (Received p (Some ack))
  unfolding receive_note
  received port version p ack (inl is) to e =
      keep (no_note p (Some ack) (to ∙ is)) (sym (ap (λ (x : Text × Apps). x.1.notes) (subst (λ q. on_recv records.core q records.apps version p ≡ (ack, apps)) is e)))
  received port version p ack (inr is) to e =
      come p ack refl (to ∙ is) (sym (ap (λ (x : Text × Apps). x.1.notes) (subst (λ q. on_recv records.core q records.apps version p ≡ (ack, apps)) is e)))

  end_did : (port id : Text) (m : Channel) (told : Told) (n : Channel) → (port ≡ transfer_port) ⊎ (port ≡ note_port)
      → (s : ChannelStep w host records.core port id m told n) → AppsOfEnd w host records apps port id m told n s → Did told
  end_did port id m told n ports (answers peer s) did = same_apps Quiet (λ e port. refl) did
  end_did port id m told n ports (follows state s) did = same_apps Quiet (λ e port. refl) did
  end_did port id m told n ports (closes s may) did = same_apps Quiet (λ e port. refl) did
  end_did port id m told n ports (sends c s) (inl note) = same_apps _ (λ e port. refl) note.1
  end_did port id m told n ports (sends c s) (inr tokens) = keep (λ e port. refl) (ap (λ (a : Apps). a.notes) tokens.after)
  end_did port id m told n ports (receives p ack s) did = received port m.end.version p ack ports s.to_port did
  end_did port id m told n ports (acknowledges p s) did = keep (λ e port. refl) (of_balances port (acknowledge_transfer records.apps.balances m.end.version p s.ack) did)
  end_did port id m told n ports (times_out p s) did = keep (λ e port. refl) (of_balances port (refund_transfer records.apps.balances m.end.version p) did)

  core_did : (told : Told) (after : Core) → ((port id : Text) (m : Channel) → channel_at records.core port id ≡ Some m → (port ≡ transfer_port) ⊎ (port ≡ note_port))
      → (s : CoreStep w host records.core told after) → AppsOf w host records apps told after s → Did told
  core_did told after ports (creates_client chain other free) did = same_apps Quiet (λ e port. refl) did
  core_did told after ports (updates_client id client height there) did = same_apps Quiet (λ e port. refl) did
  core_did told after ports (starts_connection end free s) did = same_apps Quiet (λ e port. refl) did
  core_did told after ports (answers_connection id mine peer s) did = same_apps Quiet (λ e port. refl) did
  core_did told after ports (confirms_connection id mine s) did = same_apps Quiet (λ e port. refl) did
  core_did told after ports (opens_channel port end free s) did = same_apps Quiet (λ e port. refl) did
  core_did _ after ports (changes_channel told port id mine now there s) did = end_did port id mine told now (ports port id mine there) s did

two_ports : (w : World) → Kinds w → (k : ℕ) (c : MachineChain) → slice_get w k ≡ Some c → (port id : Text) (m : Channel)
    → channel_at c.records.core port id ≡ Some m → (port ≡ transfer_port) ⊎ (port ≡ note_port)
two_ports w kinds k c there port id m is = elim (of_port port m.end ((kinds.each k c there).ports port id m is)) [
  | inl transfers ↦ inl transfers.0
  | inr notes ↦ inr notes.0
]

chain_did : (chains : ℕ) (w : World) → Kinds w → (k : ℕ) (c : MachineChain) → slice_get w k ≡ Some c → (told : Told) (d : MachineChain) → ChainStep chains w k c told d
    → NotesMoved told c.records.apps.notes d.records.apps.notes
chain_did chains w kinds k c there _ d (acts told records step did) =
    core_did w (host_of chains k c) c.records records.apps told records.core (two_ports w kinds k c there) step did
chain_did chains w kinds k c there told d (ends t later) = keep (λ e port. refl) refl

-- ---- what it adds under one channel

payloads-push : (ps : List Packet) (p : Packet) → payloads (ps ++ p ∷ []) ≡ payloads ps ++ p.payload ∷ []
payloads-push [] p = refl
payloads-push (q ∷ ps) p = ap (λ xs. q.payload ∷ xs) (payloads-push ps p)

module _ (hs : List Happened) (h : Happened) (k : ℕ) (channel : Text) where
  abbrev e : End
  e = note_end k channel

  abbrev Adds : List Text → List Text → Type 0
  Adds before after = before ≡ payloads (received_packets e hs) → after ≡ payloads (received_packets e (hs ++ h ∷ []))

  adds_none : (before after : List Text) → after ≡ before → (chain_of h.0 ≡ k → received_in e (told_of h) ≡ None) → Adds before after
  adds_none before after same none was =
      same ∙ was ∙ sym (ap payloads (about-same (received_by e) k hs h (λ chain. (is_told h).received e ∙ none chain)))

  adds_one : (before after : List Text) (p : Packet) → after ≡ before ++ p.payload ∷ [] → chain_of h.0 ≡ k → received_in e (told_of h) ≡ Some p → Adds before after
  adds_one before after p more chain is was =
      more ∙ ap (λ xs. xs ++ p.payload ∷ []) was ∙ sym (payloads-push (received_packets e hs) p)
      ∙ sym (ap payloads (about-more (received_by e) k hs h p chain ((is_told h).received e ∙ is)))

  adds : chain_of h.0 ≡ k → (before after : Notes) → NotesMoved (told_of h) before after → Adds (kept channel before) (kept channel after)
  adds chain before after (keep none same) = adds_none _ _ (ap (kept channel) same) (λ here. none e refl)
  adds chain before after (come p ack tells to is) =
      let id : Text = p.destination_channel in
      let v : List Text = kept id before ++ p.payload ∷ [] in
      let now : kept channel after ≡ kept channel (with text_cmp id v before) = ap (kept channel) is in
      elim (at-with_split by_text id channel v before) [
        | inl here ↦ adds_one _ _ p
            (now ∙ ap (λ o. unwrap_or o []) here.1 ∙ ap (λ c. kept c before ++ p.payload ∷ []) (sym here.0))
            chain
            (ap (received_in e) tells ∙ ap (λ b. packet_if b p) (lemma_is_at_itself e p.destination_port id to (sym here.0)))
        | inr other ↦ adds_none _ _ (now ∙ ap (λ o. unwrap_or o []) other.1)
            (λ same. ap (received_in e) tells ∙ elsewhere p (is_destination e p) refl other.0)
      ]
    where
      elsewhere : (p : Packet) (b : Bool) → is_destination e p ≡ b → (channel ≡ p.destination_channel → ⊥) → packet_if b p ≡ None
      elsewhere p true is apart =
          absurd (apart (sym (text_same p.destination_channel channel (both (same_text p.destination_port note_port) (same_text p.destination_channel channel) is).1)))
      elsewhere p false is apart = refl

-- ---- runs

record Noted (hs : List Happened) (w : World) : Type 0 where
  inv : Inv w
  kinds : Kinds w
  kept_all : (k : ℕ) (channel : Text) → notes_at w k channel ≡ payloads (received_packets (note_end k channel) hs)

module _ (chains : ℕ) (hs : List Happened) (w : World) (h : Happened) (v : World) (was : Noted hs w) (k : ℕ) (channel : Text) where
  abbrev under : Option MachineChain → List Text
  under o = option_map_or (λ (c : MachineChain). kept channel c.records.apps.notes) o []

  noted_after : Stepped chains w h v → notes_at v k channel ≡ payloads (received_packets (note_end k channel) (hs ++ h ∷ []))
  noted_after (rests refused same) =
      adds_none hs h k channel (notes_at w k channel) (notes_at v k channel) (ap (λ (x : World). notes_at x k channel) same)
      (λ here. ap (received_in (note_end k channel)) (refused_quiet h refused)) (was.kept_all k channel)
  noted_after (moves s) = elim (same_or_not k s.k) [
    | inl here ↦ (
        let old : notes_at w k channel ≡ kept channel s.before.records.apps.notes = ap (λ i. under (slice_get w i)) here ∙ ap under s.there in
        let new : notes_at v k channel ≡ kept channel s.now.records.apps.notes = ap (λ (x : World). under (slice_get x k)) s.after
        ∙ ap (λ i. under (slice_get (slice_set w s.k s.now) i)) here ∙ ap under (get-set_same w s.k s.before s.now s.there) in
        let moved = chain_did chains w was.kinds s.k s.before s.there (told_of h) s.now s.step in
        new ∙ adds hs h k channel (s.chain_is ∙ sym here) s.before.records.apps.notes s.now.records.apps.notes moved (sym old ∙ was.kept_all k channel)
        )
    | inr other ↦ adds_none hs h k channel (notes_at w k channel) (notes_at v k channel)
        (ap (λ (x : World). under (slice_get x k)) s.after ∙ ap under (get-set_other w s.k k s.now other))
        (λ here. absurd (other (sym here ∙ s.chain_is))) (was.kept_all k channel)
  ]

noted_start : (genesis : GenesisState) → Noted [] (start genesis)
noted_start genesis = record {
  inv = Inv-start genesis;
  kinds = kinds_start genesis;
  kept_all = λ k channel. none k channel (slice_get (start genesis) k) refl;
}
  where
    none : (k : ℕ) (channel : Text) (o : Option MachineChain) → slice_get (start genesis) k ≡ o
        → option_map_or (λ (c : MachineChain). kept channel c.records.apps.notes) o [] ≡ []
    none k channel (Some c) there = let s = starting genesis.chains k c there in ap (λ (d : MachineChain). kept channel d.records.apps.notes) (sym s.1)
    none k channel None there = refl

noted_of_past : (genesis : GenesisState) (happened : List Happened) (world : World) → IsPast genesis happened world → Noted happened world
noted_of_past genesis = past_has genesis Noted
    (λ happened old h new typed was step.
    let did = stepped genesis old h new step in record {
      inv = stepped_inv (length genesis.chains) old h new was.inv did;
      kinds = kinds_step (length genesis.chains) old h new was.inv was.kinds did;
      kept_all = λ k channel. noted_after (length genesis.chains) happened old h new was k channel did;
    })
    (noted_start genesis)

pub lemma_notes_are_received : NotesAreReceived
lemma_notes_are_received genesis happened world chain channel past = (noted_of_past genesis happened world past).kept_all chain channel

-- ---- a note stays

payloads-append : (ps qs : List Packet) → payloads (ps ++ qs) ≡ payloads ps ++ payloads qs
payloads-append [] qs = refl
payloads-append (p ∷ ps) qs = ap (λ xs. p.payload ∷ xs) (payloads-append ps qs)

pub lemma_notes_stay : NotesStay
lemma_notes_stay genesis happened world before h old new chain channel moment =
    let was = noted_of_past genesis before old moment.past in
    let is = noted_after (length genesis.chains) before old h new was chain channel (stepped genesis old h new moment.step) in
    let e : End = note_end chain channel in (
      payloads (received_packets e (h ∷ [])),
      (
          ap (λ xs. xs ++ payloads (received_packets e (h ∷ []))) (was.kept_all chain channel)
          ∙ sym (payloads-append (received_packets e before) (received_packets e (h ∷ [])))
          ∙ sym (ap payloads (about-append (received_by e) chain before h)) ∙ sym is
          ),
    )

-- ---- and was sent

pub lemma_notes_were_sent : NotesWereSent
lemma_notes_were_sent genesis happened world e f past peers mine port is =
    let all = noted_of_past genesis happened world past in
    let p = true_peers world e f peers in
    let same : p.mine ≡ mine = stands_same e p.mine mine p.here (stands world e mine is) in
    let theirs = of_port f.port p.theirs.end ((all.kinds.each f.chain p.there.chain p.there.there).ports f.port f.channel p.theirs p.there.is) in
    let ordered : p.theirs.end.order ≡ Ordered = elim theirs [
      | inl transfers ↦ absurd (cc (port, transfers.0))
      | inr notes ↦ notes.1
    ] in
    let mine_ordered : is_ordered mine ≡ true = ap (λ (c : Channel). is_ordered c) (sym same)
    ∙ ap (λ o. same_order o Ordered) (sym (same_order_as world all.inv e f p) ∙ ordered) in
    let begins = in_order genesis happened world e f past peers mine is mine_ordered in
    let there : f ≡ note_end f.chain f.channel = λ i. record { chain = f.chain; port = port i; channel = f.channel } in
    let are : notes_at world f.chain f.channel ≡ payloads (received_packets f happened) =
    all.kept_all f.chain f.channel ∙ ap (λ x. payloads (received_packets x happened)) (sym there) in (
      payloads begins.0,
      (
          ap (λ xs. xs ++ payloads begins.0) are ∙ sym (payloads-append (received_packets f happened) begins.0) ∙ ap payloads begins.1
          ),
    )
