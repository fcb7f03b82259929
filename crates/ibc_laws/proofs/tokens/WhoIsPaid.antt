-- A user's balance changes in a step by just what the user receives, gets back and sends: a measure of one key of the
-- balances, where tokens move between a user and an escrow, which is no user.
use Rattle.std.proofs.Common.{◌≡◌, ℕ, ◌+◌, Bool, true, false, refl, ap, sym, ◌∙◌, subst, List, [], ◌∷◌, ◌++◌, length, drop, Option, Some, inl, inr, arith, ◌==◌, ◌&&◌, not, slice_get, eqb-true, option_map, if◌then◌else◌}
use Rattle.std.specs.List.{sum_by}
use Rattle.std.specs.Option.{option_map_or, option_and_then}
use Rattle.std.proofs.lemmas.List.Sums.{sum_by-append}
use Rattle.ibc_ids.specs.Texts.{Text, same_text}
use Rattle.ibc_ids.specs.Names.{is_user, hop}
use Rattle.ibc_ids.specs.declared.refusal.Refusal.{Refusal}
use Rattle.ibc_ids.proofs.Texts.{text_same}
use Rattle.ibc_wire.specs.declared.packet.Packet.{Packet}
use Rattle.ibc_wire.specs.declared.token.Token.{Token}
use Rattle.ibc_wire.specs.declared.messages.Message.TheVariants as message
use Rattle.ibc_machine.specs.declared.event.Event.{Event}
use Rattle.ibc_machine.specs.declared.event.Event.TheVariants as event
use Rattle.ibc_machine.specs.declared.reply.Effect.TheVariants as effect
use Rattle.ibc_machine.specs.declared.reply.Reply.{Reply}
use Rattle.ibc_machine.specs.declared.reply.Reply.TheVariants as reply
use Rattle.ibc_machine.specs.chain.Records.{Core, Apps, Records, MachineChain, Channel, Commitment, channel_at}
use Rattle.ibc_machine.specs.chain.Handlers.{host_of}
use Rattle.ibc_machine.specs.chain.Genesis.{GenesisState, start}
use Rattle.ibc_machine.specs.chain.Machine.{World}
use Rattle.ibc_machine.specs.ics24.Evidence.{Host}
use Rattle.ibc_machine.specs.ics20.TokenData.{Data, data_of, success}
use Rattle.ibc_machine.specs.ics20.Bank.{Balances, balance, escrow}
use Rattle.ibc_machine.specs.ics20.Transfers.{transfer_port, came_over, without_hop, burnt_amount, transfer_data, transfer_many_data}
use Rattle.ibc_machine.specs.ledger.Ledgers.{chain_of, is_typed}
use Rattle.ibc_machine.specs.promises.Histories.{Happened}
use Rattle.ibc_machine.specs.promises.Laws.{IsPast}
use Rattle.ibc_machine.proofs.Measures.{IsSorted, Moved, weigh}
use Rattle.ibc_laws.specs.Tokens.{WhoPays, amount_paid_by, own_sending, balance_at}
use Rattle.ibc_laws.specs.Payments.{WhoIsPaid, EachBalance, data_at, denom_on_arrival, own_receiving, amount_received_by, amount_refunded_to}
use Rattle.ibc_laws.proofs.basics.PassedTests.{number-self}
use Rattle.ibc_laws.proofs.basics.ListPlaces.{same_or_not, get-set_same, get-set_other}
use Rattle.ibc_laws.proofs.steps.Told.{Told, Sent, Received, Acknowledged, TimedOut, told_of}
use Rattle.ibc_laws.proofs.steps.CoreSteps.{CoreStep, creates_client, updates_client, starts_connection, answers_connection, confirms_connection, opens_channel, changes_channel, ChannelStep, answers, follows, closes, sends, receives, acknowledges, times_out}
use Rattle.ibc_laws.proofs.steps.AppSteps.{AppsOf, AppsOfEnd}
use Rattle.ibc_laws.proofs.steps.Paid.{Pays, PaidOf}
use Rattle.ibc_laws.proofs.steps.WorldGrowth.{ChainStep, acts, ends, WorldGrows}
use Rattle.ibc_laws.proofs.steps.MachineSteps.{Stepped, IsRefusal, refused_quiet, rests, moves, stepped}
use Rattle.ibc_laws.proofs.steps.Induction.{past_has}
use Rattle.ibc_laws.proofs.peers.Invariant.{stepped_grows}
use Rattle.ibc_laws.proofs.tokens.BalanceSteps.{Taking, takes, refuses, Refunding, no_data, refunds, Acknowledging, succeeds, fails, ByPort, received_balances, acknowledged_balances, timed_out_balances}
use Rattle.ibc_laws.proofs.tokens.Hops.{escrow_is_no_user}
use Rattle.ibc_laws.proofs.tokens.HeldAndIssued.{at_key, balance_is, differ, if_of, sum-same, sum-zero, sum-plus}
use Rattle.ibc_laws.proofs.tokens.TokenMoves.{receive_out, receive_gain, hopped_token, sent_tokens, refunded_tokens, received_tokens}
use Rattle.ibc_laws.proofs.tokens.TokenShifts.{nothing_kept}
use Rattle.ibc_laws.proofs.tokens.FourthLaw.{Conserving, conserving_start, conserving_step, conserving_of_past}

-- how the data of packets is read at the ends of port `transfer`
abbrev pub Reading : Type 0
Reading = Text → Text → Option Data

-- so by the channels of this core
abbrev ReadsAs : Core → Reading → Type 0
ReadsAs core reads = (id : Text) (m : Channel) → channel_at core transfer_port id ≡ Some m → (payload : Text) → reads id payload ≡ data_of m.end.version payload

-- ---- a world that has the channels of another, with their versions

abbrev Keeps : World → World → Type 0
Keeps w x = (k : ℕ) (id : Text) (c : MachineChain) (m : Channel) → slice_get w k ≡ Some c → channel_at c.records.core transfer_port id ≡ Some m
    → (d : MachineChain) × (n : Channel) × (slice_get x k ≡ Some d) × (channel_at d.records.core transfer_port id ≡ Some n) × (n.end.version ≡ m.end.version)

Keeps-refl : (w : World) → Keeps w w
Keeps-refl w k id c m there is = (c, m, there, is, refl)

Keeps-trans : (w v x : World) → Keeps w v → Keeps v x → Keeps w x
Keeps-trans w v x f g k id c m there is =
    let y = f k id c m there is in
    let z = g k id y.0 y.1 y.2 y.3 in
    (z.0, z.1, z.2, z.3, z.4 ∙ y.4)

Keeps-grows : (w x : World) → WorldGrows w x → Keeps w x
Keeps-grows w x grows k id c m there is =
    let d = grows.each k c there in
    let n = d.2.core.channels transfer_port id m is in
    (d.0, n.0, d.1, n.1, n.2.end.version)

reads_in : (w x : World) (k : ℕ) (c : MachineChain) → slice_get w k ≡ Some c → Keeps w x → ReadsAs c.records.core (data_at x k)
reads_in w x k c there keeps id m is payload =
    let y = keeps k id c m there is in
    ap (λ (o : Option MachineChain). option_and_then (λ (mine : Channel). data_of mine.end.version payload)
    (option_and_then (λ (records : Records). channel_at records.core transfer_port id) (option_map (λ (c : MachineChain). c.records) o))) y.2
    ∙ ap (λ (o : Option Channel). option_and_then (λ (mine : Channel). data_of mine.end.version payload) o) y.3
    ∙ ap (λ version. data_of version payload) y.4

module _ (user denom : Text) (is : is_user user ≡ true) where
  -- what a step of tokens changes of the user's balance
  lemma_changed : (b after : Balances) (out gain : ℕ) → IsSorted b → Moved (at_key user denom) b after out gain
      → balance after user denom + out ≡ balance b user denom + gain
  lemma_changed b after out gain sorted m =
      let old = balance_is b sorted user denom in
      let new = balance_is after m.sorted user denom in
      let x = m.measured in
      omega arith

  -- ---- an escrow is no user

  lemma_of_escrow : (channel : Text) (token : Token) → weigh (at_key user denom) (escrow channel) token ≡ 0
  lemma_of_escrow channel token =
      ap (λ t. if t && same_text token.denom denom then token.amount else 0) (differ (escrow channel) user (escrow_is_no_user channel user is))

  lemma_out_of_escrow : (p : Packet) (token : Token) → receive_out (at_key user denom) p token ≡ 0
  lemma_out_of_escrow p token = go (came_over p.source_port p.source_channel token.denom)
    where
      go : (q : Bool) → (if q then weigh (at_key user denom) (escrow p.destination_channel) (without_hop p token) else 0) ≡ 0
      go true = lemma_of_escrow p.destination_channel (without_hop p token)
      go false = refl

  -- ---- what a holder has of tokens is the user's own, or not

  pub lemma_own_part : (holder : Text) (tokens : List Token) → sum_by (weigh (at_key user denom) holder) tokens ≡ own_sending (same_text holder user) denom tokens
  lemma_own_part holder tokens = go (same_text holder user) refl
    where
      go : (b : Bool) → same_text holder user ≡ b → sum_by (weigh (at_key user denom) holder) tokens ≡ own_sending b denom tokens
      go true same = sum-same (weigh (at_key user denom) holder) (if_of denom) tokens (λ token. ap (λ t. if t && same_text token.denom denom then token.amount else 0) same)
      go false other = sum-zero (weigh (at_key user denom) holder) tokens (λ token. ap (λ t. if t && same_text token.denom denom then token.amount else 0) other)

  abbrev pub of_arrival : Packet → Token → ℕ
  of_arrival p token = if same_text (denom_on_arrival p token.denom) denom then token.amount else 0

  lemma_gain_is : (p : Packet) (holder : Text) (token : Token)
      → receive_gain (at_key user denom) p holder token ≡ (if same_text holder user && same_text (denom_on_arrival p token.denom) denom then token.amount else 0)
  lemma_gain_is p holder token = go (came_over p.source_port p.source_channel token.denom)
    where
      go : (q : Bool) → (if q then weigh (at_key user denom) holder (without_hop p token) else weigh (at_key user denom) holder (hopped_token p token))
          ≡ (if same_text holder user && same_text (if q then drop (length (hop p.source_port p.source_channel)) token.denom else hop p.destination_port p.destination_channel ++ token.denom) denom
          then token.amount else 0)
      go true = refl
      go false = refl

  lemma_own_arrival : (p : Packet) (holder : Text) (tokens : List Token)
      → sum_by (receive_gain (at_key user denom) p holder) tokens ≡ own_receiving (same_text holder user) p denom tokens
  lemma_own_arrival p holder tokens = go (same_text holder user) refl
    where
      go : (b : Bool) → same_text holder user ≡ b → sum_by (receive_gain (at_key user denom) p holder) tokens ≡ own_receiving b p denom tokens
      go true same = sum-same (receive_gain (at_key user denom) p holder) (of_arrival p) tokens
          (λ token. lemma_gain_is p holder token ∙ ap (λ t. if t && same_text (denom_on_arrival p token.denom) denom then token.amount else 0) same)
      go false other = sum-zero (receive_gain (at_key user denom) p holder) tokens
          (λ token. lemma_gain_is p holder token ∙ ap (λ t. if t && same_text (denom_on_arrival p token.denom) denom then token.amount else 0) other)

  -- ---- what a step gives the user, by what it tells

  abbrev pub refunded : Option Data → ℕ
  refunded o = option_map_or (λ (d : Data). own_sending (same_text d.sender user) denom d.tokens) o 0

  abbrev pub arrived : Packet → Option Data → ℕ
  arrived p o = option_map_or (λ (d : Data). own_receiving (same_text d.receiver user) p denom d.tokens) o 0

  abbrev pub gained : Reading → Told → ℕ
  gained reads (Received p (Some ack)) =
      if same_text p.destination_port transfer_port && same_text ack success then arrived p (reads p.destination_channel p.payload) else 0
  gained reads (Acknowledged p ack) =
      if same_text p.source_port transfer_port && not (same_text ack success) then refunded (reads p.source_channel p.payload) else 0
  gained reads (TimedOut p) = if same_text p.source_port transfer_port then refunded (reads p.source_channel p.payload) else 0
  gained reads _ = 0

  abbrev Gained : Balances → Balances → ℕ → Type 0
  Gained b after n = balance after user denom ≡ balance b user denom + n

  lemma_same : (b after : Balances) → after ≡ b → Gained b after 0
  lemma_same b after same = let e = ap (λ x. balance x user denom) same in omega arith

  lemma_refunded : (b after : Balances) (version : Text) (p : Packet) (o : Option Data) → IsSorted b → o ≡ data_of version p.payload
      → Refunding b version p after → Gained b after (refunded o)
  lemma_refunded b _ version p o sorted read (no_data none) =
      let e : refunded o ≡ 0 = ap refunded (read ∙ none) in
      omega arith
  lemma_refunded b _ version p o sorted read (refunds d after has moved) =
      let changed = lemma_changed b after _ _ sorted (refunded_tokens (at_key user denom) p.source_channel d.sender d.tokens b after sorted moved) in
      let out = sum-zero _ d.tokens (λ token. nothing_kept transfer_port p.source_channel token _ (lemma_of_escrow p.source_channel token)) in
      let own = lemma_own_part d.sender d.tokens in
      let e : refunded o ≡ own_sending (same_text d.sender user) denom d.tokens = ap refunded (read ∙ has) in
      omega arith

  module _ (core : Core) (reads : Reading) (alike : ReadsAs core reads) (b : Balances) (sorted : IsSorted b) where
    lemma_timed_out : (after : Balances) (m : Channel) (p : Packet) → channel_at core p.source_port p.source_channel ≡ Some m
        → ByPort p.source_port b after (Refunding b m.end.version p) → Gained b after (gained reads (TimedOut p))
    lemma_timed_out after m p there (inl h) =
        let port = text_same p.source_port transfer_port h.0 in
        let read = alike p.source_channel m (subst (λ q. channel_at core q p.source_channel ≡ Some m) port there) p.payload in
        subst (Gained b after) (sym (ap (λ t. if t then refunded (reads p.source_channel p.payload) else 0) h.0))
        (lemma_refunded b after m.end.version p (reads p.source_channel p.payload) sorted read h.1)
    lemma_timed_out after m p there (inr h) =
        subst (Gained b after) (sym (ap (λ t. if t then refunded (reads p.source_channel p.payload) else 0) h.0)) (lemma_same b after h.1)

    lemma_acknowledged : (after : Balances) (m : Channel) (p : Packet) (ack : Text) → channel_at core p.source_port p.source_channel ≡ Some m
        → ByPort p.source_port b after (Acknowledging b m.end.version p ack) → Gained b after (gained reads (Acknowledged p ack))
    lemma_acknowledged after m p ack there (inl h) =
        let port = text_same p.source_port transfer_port h.0 in
        let read = alike p.source_channel m (subst (λ q. channel_at core q p.source_channel ≡ Some m) port there) p.payload in
        subst (Gained b after) (sym (ap (λ t. if t && not (same_text ack success) then refunded (reads p.source_channel p.payload) else 0) h.0))
        (go after read h.1)
      where
        go : (after : Balances) → reads p.source_channel p.payload ≡ data_of m.end.version p.payload → Acknowledging b m.end.version p ack after
            → Gained b after (if not (same_text ack success) then refunded (reads p.source_channel p.payload) else 0)
        go _ read (succeeds good) =
            subst (Gained b b) (sym (ap (λ t. if not t then refunded (reads p.source_channel p.payload) else 0) good)) (lemma_same b b refl)
        go _ read (fails after bad refund) =
            subst (Gained b after) (sym (ap (λ t. if not t then refunded (reads p.source_channel p.payload) else 0) bad))
            (lemma_refunded b after m.end.version p (reads p.source_channel p.payload) sorted read refund)
    lemma_acknowledged after m p ack there (inr h) =
        subst (Gained b after) (sym (ap (λ t. if t && not (same_text ack success) then refunded (reads p.source_channel p.payload) else 0) h.0)) (lemma_same b after h.1)

    lemma_taken : (after : Balances) (in_flight : Text → ℕ) (version : Text) (p : Packet) (ack : Text) → reads p.destination_channel p.payload ≡ data_of version p.payload
        → Taking b in_flight version p ack after → Gained b after (if same_text ack success then arrived p (reads p.destination_channel p.payload) else 0)
    lemma_taken _ in_flight version p _ read (takes d after has a_user moved) =
        let changed = lemma_changed b after _ _ sorted (received_tokens (at_key user denom) in_flight p d.receiver d.tokens b after sorted moved) in
        let out = sum-zero (receive_out (at_key user denom) p) d.tokens (lemma_out_of_escrow p) in
        let own = lemma_own_arrival p d.receiver d.tokens in
        let e : arrived p (reads p.destination_channel p.payload) ≡ own_receiving (same_text d.receiver user) p denom d.tokens = ap (arrived p) (read ∙ has) in
        let all : Gained b after (arrived p (reads p.destination_channel p.payload)) = omega arith in
        all
    lemma_taken _ in_flight version p _ read (refuses words) = lemma_same b b refl

    lemma_received : (after : Balances) (in_flight : Text → ℕ) (m : Channel) (p : Packet) (ack : Text) → channel_at core p.destination_port p.destination_channel ≡ Some m
        → ByPort p.destination_port b after (Taking b in_flight m.end.version p ack) → Gained b after (gained reads (Received p (Some ack)))
    lemma_received after in_flight m p ack there (inl h) =
        let port = text_same p.destination_port transfer_port h.0 in
        let read = alike p.destination_channel m (subst (λ q. channel_at core q p.destination_channel ≡ Some m) port there) p.payload in
        subst (Gained b after) (sym (ap (λ t. if t && same_text ack success then arrived p (reads p.destination_channel p.payload) else 0) h.0))
        (lemma_taken after in_flight m.end.version p ack read h.1)
    lemma_received after in_flight m p ack there (inr h) =
        subst (Gained b after) (sym (ap (λ t. if t && same_text ack success then arrived p (reads p.destination_channel p.payload) else 0) h.0)) (lemma_same b after h.1)

  -- ---- by the label

  -- no tokens leave by what is told
  abbrev NoneLeave : Told → Type 0
  NoneLeave told = (channel : Text) (n : ℕ) (c : Commitment) → told ≡ Sent transfer_port channel n c → ⊥

  module _ (w : World) (host : Host) (records : Records) (apps : Apps) (reads : Reading) (alike : ReadsAs records.core reads) (sorted : IsSorted records.apps.balances) where
    abbrev Did : Told → Type 0
    Did told = Gained records.apps.balances apps.balances (gained reads told)

    lemma_same_apps : apps ≡ records.apps → Gained records.apps.balances apps.balances 0
    lemma_same_apps same = lemma_same records.apps.balances apps.balances (ap (λ (a : Apps). a.balances) same)

    -- the end under the port and name that a packet tells
    lemma_there : (port id p q : Text) (m : Channel) → channel_at records.core port id ≡ Some m → p ≡ port → q ≡ id → channel_at records.core p q ≡ Some m
    lemma_there port id p q m there port_is id_is = subst (λ (x : Text × Text). channel_at records.core x.0 x.1 ≡ Some m) (λ i. (sym port_is i, sym id_is i)) there

    lemma_end_did : (port id : Text) (m : Channel) (told : Told) (n : Channel) → channel_at records.core port id ≡ Some m → NoneLeave told
        → (s : ChannelStep w host records.core port id m told n) → AppsOfEnd w host records apps port id m told n s → Did told
    lemma_end_did port id m told n there none (answers peer s) did = lemma_same_apps did
    lemma_end_did port id m told n there none (follows state s) did = lemma_same_apps did
    lemma_end_did port id m told n there none (closes s may) did = lemma_same_apps did
    lemma_end_did port id m told n there none (sends c s) (inl note) = lemma_same_apps note.1
    lemma_end_did port id m told n there none (sends c s) (inr tokens) = absurd (none id m.next_send c (ap (λ q. Sent q id m.next_send c) tokens.port_is))
    lemma_end_did port id m told n there none (receives p ack s) did =
        lemma_received records.core reads alike records.apps.balances sorted apps.balances (burnt_amount records.core) m p ack
        (lemma_there port id p.destination_port p.destination_channel m there s.to_port s.to_channel)
        (subst (λ q. ByPort q records.apps.balances apps.balances (Taking records.apps.balances (burnt_amount records.core) m.end.version p ack)) (sym s.to_port)
        (received_balances records port m.end.version p ack apps did))
    lemma_end_did port id m told n there none (acknowledges p s) did =
        lemma_acknowledged records.core reads alike records.apps.balances sorted apps.balances m p s.ack
        (lemma_there port id p.source_port p.source_channel m there s.settles.from_port s.settles.from_channel)
        (subst (λ q. ByPort q records.apps.balances apps.balances (Acknowledging records.apps.balances m.end.version p s.ack)) (sym s.settles.from_port)
        (acknowledged_balances records.apps port m.end.version p s.ack apps did))
    lemma_end_did port id m told n there none (times_out p s) did =
        lemma_timed_out records.core reads alike records.apps.balances sorted apps.balances m p
        (lemma_there port id p.source_port p.source_channel m there s.settles.from_port s.settles.from_channel)
        (subst (λ q. ByPort q records.apps.balances apps.balances (Refunding records.apps.balances m.end.version p)) (sym s.settles.from_port)
        (timed_out_balances records.apps port m.end.version p apps did))

    lemma_core_did : (told : Told) (after : Core) → NoneLeave told → (s : CoreStep w host records.core told after) → AppsOf w host records apps told after s → Did told
    lemma_core_did told after none (creates_client chain other free) did = lemma_same_apps did
    lemma_core_did told after none (updates_client id client height there) did = lemma_same_apps did
    lemma_core_did told after none (starts_connection end free s) did = lemma_same_apps did
    lemma_core_did told after none (answers_connection id mine peer s) did = lemma_same_apps did
    lemma_core_did told after none (confirms_connection id mine s) did = lemma_same_apps did
    lemma_core_did told after none (opens_channel port end free s) did = lemma_same_apps did
    lemma_core_did _ after none (changes_channel told port id mine now there s) did = lemma_end_did port id mine told now there none s did

  lemma_gained : (chains : ℕ) (w : World) (k : ℕ) (c : MachineChain) (reads : Reading) → ReadsAs c.records.core reads → IsSorted c.records.apps.balances
      → (told : Told) (d : MachineChain) → NoneLeave told → ChainStep chains w k c told d
      → Gained c.records.apps.balances d.records.apps.balances (gained reads told)
  lemma_gained chains w k c reads alike sorted _ d none (acts told records step did) =
      lemma_core_did w (host_of chains k c) c.records records.apps reads alike sorted told records.core none step did
  lemma_gained chains w k c reads alike sorted told d none (ends t later) = lemma_same c.records.apps.balances c.records.apps.balances refl

  -- ---- by the event

  -- a sender pays just what is sent
  lemma_paid_own : (channel : Text) (d : Data) (b after : Balances) → IsSorted b → Pays channel d b after
      → balance after user denom + own_sending (same_text d.sender user) denom d.tokens ≡ balance b user denom
  lemma_paid_own channel d b after sorted paid =
      let changed = lemma_changed b after _ _ sorted (sent_tokens (at_key user denom) channel d.sender d.tokens b after sorted paid) in
      let kept = sum-zero _ d.tokens (λ token. nothing_kept transfer_port channel token _ (lemma_of_escrow channel token)) in
      let own = lemma_own_part d.sender d.tokens in
      omega arith

  -- what the event takes from the user, and what it gives
  abbrev Change : Balances → Balances → ℕ → ℕ → Type 0
  Change b after out gain = balance after user denom + out ≡ balance b user denom + gain

  lemma_only_gained : (b after : Balances) (n : ℕ) → Gained b after n → Change b after 0 n
  lemma_only_gained b after n e = omega arith

  lemma_only_paid : (b after : Balances) (n : ℕ) → balance after user denom + n ≡ balance b user denom → Change b after n 0
  lemma_only_paid b after n e = omega arith

  lemma_on_chain : (j k : ℕ) (own : Bool) (tokens : List Token) → j ≡ k → own_sending own denom tokens ≡ own_sending ((j == k) && own) denom tokens
  lemma_on_chain j k own tokens same =
      let here : (j == k) ≡ true = subst (λ i. (j == i) ≡ true) same (number-self j) in
      sym (ap (λ b. own_sending (b && own) denom tokens) here)

  changed_by : (h : Happened) (k : ℕ) (chains : ℕ) (w : World) (c d : MachineChain) (reads : Reading) → ReadsAs c.records.core reads → chain_of h.0 ≡ k → IsSorted c.records.apps.balances
      → PaidOf h c d → ChainStep chains w k c (told_of h) d
      → Change c.records.apps.balances d.records.apps.balances (amount_paid_by k user denom h) (gained reads (told_of h))
  changed_by (event.Message j (message.Transfer m), reply.Ok (effect.Sent n)) k chains w c d reads alike chain sorted paid step =
      subst (λ n. Change c.records.apps.balances d.records.apps.balances n 0) (lemma_on_chain j k (same_text m.user user) (transfer_data m).tokens chain)
      (lemma_only_paid _ _ _ (lemma_paid_own m.channel (transfer_data m) c.records.apps.balances d.records.apps.balances sorted paid))
  changed_by (event.Message j (message.Transfer m), reply.Ok _) k chains w c d reads alike chain sorted paid step =
      subst (λ n. Change c.records.apps.balances d.records.apps.balances n 0) (lemma_on_chain j k (same_text m.user user) (transfer_data m).tokens chain)
      (lemma_only_paid _ _ _ (lemma_paid_own m.channel (transfer_data m) c.records.apps.balances d.records.apps.balances sorted paid))
  changed_by (event.Message j (message.TransferMany m), reply.Ok (effect.Sent n)) k chains w c d reads alike chain sorted paid step =
      subst (λ n. Change c.records.apps.balances d.records.apps.balances n 0) (lemma_on_chain j k (same_text m.user user) (transfer_many_data m).tokens chain)
      (lemma_only_paid _ _ _ (lemma_paid_own m.channel (transfer_many_data m) c.records.apps.balances d.records.apps.balances sorted paid))
  changed_by (event.Message j (message.TransferMany m), reply.Ok _) k chains w c d reads alike chain sorted paid step =
      subst (λ n. Change c.records.apps.balances d.records.apps.balances n 0) (lemma_on_chain j k (same_text m.user user) (transfer_many_data m).tokens chain)
      (lemma_only_paid _ _ _ (lemma_paid_own m.channel (transfer_many_data m) c.records.apps.balances d.records.apps.balances sorted paid))
  changed_by (event.Message j (message.SendNote m), reply.Ok (effect.Sent n)) k chains w c d reads alike chain sorted paid step =
      lemma_only_gained _ _ _ (lemma_gained chains w k c reads alike sorted _ d (λ channel i x e. absurd (cc e)) step)
  changed_by (event.Message j (message.SendNote m), reply.Ok _) k chains w c d reads alike chain sorted paid step =
      lemma_only_gained _ _ _ (lemma_gained chains w k c reads alike sorted _ d (λ channel i x e. absurd (cc e)) step)
  changed_by (event.Message j _, reply.Ok given) k chains w c d reads alike chain sorted paid step =
      lemma_only_gained _ _ _ (lemma_gained chains w k c reads alike sorted _ d (λ channel i x e. absurd (cc e)) step)
  changed_by (event.Message j (message.Transfer m), reply.No why) k chains w c d reads alike chain sorted paid step =
      lemma_only_gained _ _ _ (lemma_gained chains w k c reads alike sorted _ d (λ channel i x e. absurd (cc e)) step)
  changed_by (event.Message j (message.TransferMany m), reply.No why) k chains w c d reads alike chain sorted paid step =
      lemma_only_gained _ _ _ (lemma_gained chains w k c reads alike sorted _ d (λ channel i x e. absurd (cc e)) step)
  changed_by (event.Message j _, reply.No why) k chains w c d reads alike chain sorted paid step =
      lemma_only_gained _ _ _ (lemma_gained chains w k c reads alike sorted _ d (λ channel i x e. absurd (cc e)) step)
  changed_by (event.Block j t, given) k chains w c d reads alike chain sorted paid step =
      lemma_only_gained _ _ _ (lemma_gained chains w k c reads alike sorted _ d (λ channel i x e. absurd (cc e)) step)

  -- ---- by the chain: what the laws say that the user gets is what is told

  abbrev pub received_and_refunded : World → ℕ → Happened → ℕ
  received_and_refunded world k h = amount_received_by world k user denom h + amount_refunded_to world k user denom h

  abbrev pub gained_on : World → ℕ → Happened → ℕ
  gained_on world k h = if chain_of h.0 == k then gained (data_at world k) (told_of h) else 0

  lemma_and_none : (n : ℕ) → n + 0 ≡ n
  lemma_and_none n = omega arith

  lemma_none_and : (n : ℕ) → 0 + n ≡ n
  lemma_none_and n = omega arith

  lemma_choose_first : (b p q : Bool) (n : ℕ) → (if b && p && q then n else 0) + 0 ≡ (if b then (if p && q then n else 0) else 0)
  lemma_choose_first true p q n = lemma_and_none (if p && q then n else 0)
  lemma_choose_first false p q n = refl

  lemma_choose_second : (b p q : Bool) (n : ℕ) → 0 + (if b && p && q then n else 0) ≡ (if b then (if p && q then n else 0) else 0)
  lemma_choose_second true p q n = lemma_none_and (if p && q then n else 0)
  lemma_choose_second false p q n = refl

  lemma_choose_third : (b p : Bool) (n : ℕ) → 0 + (if b && p then n else 0) ≡ (if b then (if p then n else 0) else 0)
  lemma_choose_third true p n = lemma_none_and (if p then n else 0)
  lemma_choose_third false p n = refl

  lemma_nothing : (b : Bool) → ◌≡◌ {A = ℕ} (0 + 0) (if b then 0 else 0)
  lemma_nothing true = refl
  lemma_nothing false = refl

  pub by_event : (world : World) (k : ℕ) (h : Happened) → received_and_refunded world k h ≡ gained_on world k h
  by_event world k (event.Message j (message.RecvPacket m), reply.Ok (effect.Ack ack)) =
      lemma_choose_first (j == k) (same_text m.packet.destination_port transfer_port) (same_text ack success) (arrived m.packet (data_at world k m.packet.destination_channel m.packet.payload))
  by_event world k (event.Message j (message.RecvPacket m), reply.Ok _) = lemma_nothing (j == k)
  by_event world k (event.Message j (message.AckPacket m), reply.Ok given) =
      lemma_choose_second (j == k) (same_text m.packet.source_port transfer_port) (not (same_text m.ack success)) (refunded (data_at world k m.packet.source_channel m.packet.payload))
  by_event world k (event.Message j (message.Timeout m), reply.Ok given) =
      lemma_choose_third (j == k) (same_text m.packet.source_port transfer_port) (refunded (data_at world k m.packet.source_channel m.packet.payload))
  by_event world k (event.Message j (message.TimeoutOnClose m), reply.Ok given) =
      lemma_choose_third (j == k) (same_text m.packet.source_port transfer_port) (refunded (data_at world k m.packet.source_channel m.packet.payload))
  by_event world k (event.Message j (message.Transfer m), reply.Ok (effect.Sent n)) = lemma_nothing (j == k)
  by_event world k (event.Message j (message.TransferMany m), reply.Ok (effect.Sent n)) = lemma_nothing (j == k)
  by_event world k (event.Message j (message.SendNote m), reply.Ok (effect.Sent n)) = lemma_nothing (j == k)
  by_event world k (event.Message j (message.Transfer m), reply.Ok _) = lemma_nothing (j == k)
  by_event world k (event.Message j (message.TransferMany m), reply.Ok _) = lemma_nothing (j == k)
  by_event world k (event.Message j (message.SendNote m), reply.Ok _) = lemma_nothing (j == k)
  by_event world k (event.Message j _, reply.Ok given) = lemma_nothing (j == k)
  by_event world k (event.Message j (message.RecvPacket m), reply.No why) = lemma_nothing (j == k)
  by_event world k (event.Message j (message.AckPacket m), reply.No why) = lemma_nothing (j == k)
  by_event world k (event.Message j (message.Timeout m), reply.No why) = lemma_nothing (j == k)
  by_event world k (event.Message j (message.TimeoutOnClose m), reply.No why) = lemma_nothing (j == k)
  by_event world k (event.Message j _, reply.No why) = lemma_nothing (j == k)
  by_event world k (event.Block j t, given) = lemma_nothing (j == k)

  -- ---- nothing elsewhere, and nothing where the event was refused

  pub paid_elsewhere : (h : Happened) (k : ℕ) → (chain_of h.0 == k) ≡ false → amount_paid_by k user denom h ≡ 0
  paid_elsewhere (event.Message j (message.Transfer m), reply.Ok given) k other = ap (λ b. own_sending (b && same_text m.user user) denom (transfer_data m).tokens) other
  paid_elsewhere (event.Message j (message.TransferMany m), reply.Ok given) k other = ap (λ b. own_sending (b && same_text m.user user) denom (transfer_many_data m).tokens) other
  paid_elsewhere (event.Message j _, reply.Ok given) k other = refl
  paid_elsewhere (event.Message j (message.Transfer m), reply.No why) k other = refl
  paid_elsewhere (event.Message j (message.TransferMany m), reply.No why) k other = refl
  paid_elsewhere (event.Message j _, reply.No why) k other = refl
  paid_elsewhere (event.Block j t, given) k other = refl

  paid_refused : (e : Event) (why : Refusal) (k : ℕ) → amount_paid_by k user denom (e, reply.No why) ≡ 0
  paid_refused (event.Message j (message.Transfer m)) why k = refl
  paid_refused (event.Message j (message.TransferMany m)) why k = refl
  paid_refused (event.Message j _) why k = refl
  paid_refused (event.Block j t) why k = refl

  gained_refused : (x : World) (h : Happened) (k : ℕ) → IsRefusal h → gained_on x k h ≡ 0
  gained_refused x h k refused = ap (λ t. if chain_of h.0 == k then gained (data_at x k) t else 0) (refused_quiet h refused) ∙ sym (lemma_nothing (chain_of h.0 == k))

  -- ---- a step, with the data read in any world that has its channels

  abbrev held : Option MachineChain → ℕ
  held o = balance (option_map_or (λ (c : MachineChain). c.records.apps.balances) o []) user denom

  abbrev BalanceChanges : World → World → World → ℕ → Happened → Type 0
  BalanceChanges x w v k h = balance_at v k user denom + amount_paid_by k user denom h ≡ balance_at w k user denom + gained_on x k h

  lemma_of_step : (chains : ℕ) (w : World) (h : Happened) (v x : World) (k : ℕ) → Keeps w x → ((y : ℕ) (c : MachineChain) → slice_get w y ≡ Some c → IsSorted c.records.apps.balances)
      → Stepped chains w h v → BalanceChanges x w v k h
  lemma_of_step chains w h v x k keeps sorted (rests refused same) =
      let e = ap (λ (y : World). balance_at y k user denom) same in
      let paid : amount_paid_by k user denom h ≡ 0 = ap (λ (r : Reply). amount_paid_by k user denom (h.0, r)) refused.1 ∙ paid_refused h.0 refused.0 k in
      let none : gained_on x k h ≡ 0 = gained_refused x h k refused in
      omega arith
  lemma_of_step chains w h v x k keeps sorted (moves s) = elim (same_or_not k s.k) [
    | inl here ↦ subst (λ j. BalanceChanges x w v j h) (sym here) there
    | inr other ↦ (
        let apart = differs (chain_of h.0) k (λ e. other (sym e ∙ s.chain_is)) in
        let same : balance_at v k user denom ≡ balance_at w k user denom = ap (λ (y : World). held (slice_get y k)) s.after ∙ ap held (get-set_other w s.k k s.now other) in
        let paid = paid_elsewhere h k apart in
        let none : gained_on x k h ≡ 0 = ap (λ b. if b then gained (data_at x k) (told_of h) else 0) apart in
        omega arith
        )
  ]
    where
      differs : (i j : ℕ) → (i ≡ j → ⊥) → (i == j) ≡ false
      differs i j other = go (i == j) refl
        where
          go : (b : Bool) → (i == j) ≡ b → (i == j) ≡ false
          go true is = absurd (other (eqb-true i j is))
          go false is = is

      there : BalanceChanges x w v s.k h
      there =
          let old : balance_at w s.k user denom ≡ balance s.before.records.apps.balances user denom = ap held s.there in
          let new : balance_at v s.k user denom ≡ balance s.now.records.apps.balances user denom = ap (λ (y : World). held (slice_get y s.k)) s.after
          ∙ ap held (get-set_same w s.k s.before s.now s.there) in
          let changed = changed_by h s.k chains w s.before s.now (data_at x s.k) (reads_in w x s.k s.before s.there keeps) s.chain_is (sorted s.k s.before s.there) s.paid s.step in
          let on : gained_on x s.k h ≡ gained (data_at x s.k) (told_of h) =
          ap (λ b. if b then gained (data_at x s.k) (told_of h) else 0) (subst (λ i. (chain_of h.0 == i) ≡ true) s.chain_is (number-self (chain_of h.0))) in
          omega arith

  -- ---- runs

  record BalancesTold (genesis : GenesisState) (hs : List Happened) (w : World) : Type 0 where
    conserving : Conserving hs w
    total : (x : World) → Keeps w x → (k : ℕ) → balance_at w k user denom + sum_by (amount_paid_by k user denom) hs
        ≡ balance_at (start genesis) k user denom + sum_by (received_and_refunded x k) hs

  lemma_told_step : (genesis : GenesisState) (hs : List Happened) (w : World) (h : Happened) (v : World) → is_typed h.0 ≡ true → BalancesTold genesis hs w
      → Stepped (length genesis.chains) w h v → BalancesTold genesis (hs ++ h ∷ []) v
  lemma_told_step genesis hs w h v typed was step = record {
    conserving = conserving_step (length genesis.chains) hs w h v was.conserving typed step;
    total = λ x keeps k.
        let kept = Keeps-trans w v x (Keeps-grows w v (stepped_grows (length genesis.chains) w h v was.conserving.known.once.inv step)) keeps in
        let so_far = was.total x kept k in
        let now = lemma_of_step (length genesis.chains) w h v x k kept (λ y c there. (was.conserving.known.kinds.each y c there).sorted) step in
        let paid = sum_by-append (amount_paid_by k user denom) hs (h ∷ []) in
        let got = sum_by-append (received_and_refunded x k) hs (h ∷ []) in
        let paid_one : sum_by (amount_paid_by k user denom) (h ∷ []) ≡ 0 + amount_paid_by k user denom h = refl in
        let got_one : sum_by (received_and_refunded x k) (h ∷ []) ≡ 0 + received_and_refunded x k h = refl in
        let told = by_event x k h in
        omega arith;
  }

  lemma_told_so : (genesis : GenesisState) (happened : List Happened) (world : World) → IsPast genesis happened world → BalancesTold genesis happened world
  lemma_told_so genesis happened world past = past_has genesis (BalancesTold genesis)
      (λ happened old h new typed was step. lemma_told_step genesis happened old h new typed was (stepped genesis old h new step))
      (record { conserving = conserving_start genesis past.allowed; total = λ x keeps k. refl }) happened world past

pub lemma_who_is_paid : WhoIsPaid
lemma_who_is_paid genesis happened world before h old new chain user denom moment is =
    let all = conserving_of_past genesis before old moment.past in
    let now = lemma_of_step user denom is (length genesis.chains) old h new old chain (Keeps-refl old) (λ x c there. (all.known.kinds.each x c there).sorted)
    (stepped genesis old h new moment.step) in
    let told = by_event user denom is old chain h in
    omega arith

-- so it falls by no more than the user sends
pub lemma_who_pays : WhoPays
lemma_who_pays genesis happened world before h old new chain user denom moment is =
    let changed = lemma_who_is_paid genesis happened world before h old new chain user denom moment is in
    omega arith

pub lemma_each_balance : EachBalance
lemma_each_balance genesis happened world chain user denom past is =
    let total = (lemma_told_so user denom is genesis happened world past).total world (Keeps-refl world) chain in
    let parts = sum-plus (received_and_refunded user denom is world chain) (amount_received_by world chain user denom) (amount_refunded_to world chain user denom) happened (λ h. refl) in
    omega arith
