-- What became of a packet is what its checks and the application say.
use Rattle.std.proofs.Common.{◌≡◌, ◌⊎◌, ◌&&◌, ℕ, Bool, true, false, is_some, Option, Some, None, List, Ok, Err, inl, inr, refl, sym, ap, subst, ◌∙◌}
use Rattle.std.specs.Prelude.{⊤, [], Result, IsErrAnd, IfOk, IfErr, OnOk, OnErr, IfSome}
use Rattle.std.specs.Option.{option_map_or}
use Rattle.std.proofs.lemmas.Result.{err_from_is_err_and}
use Rattle.ibc_ids.specs.Texts.{Text}
use Rattle.ibc_ids.specs.declared.publication.Publication.{Publication}
use Rattle.ibc_ids.specs.declared.refusal.Refusal.{Refusal}
use Rattle.ibc_ids.specs.declared.refusal.Refusal.TheVariants.{NoMemory, BadMessage}
use Rattle.ibc_merkle.specs.declared.proof.Proof.{Proof}
use Rattle.ibc_wire.specs.Reading.{proof_of}
use Rattle.ibc_wire.specs.declared.records.ConnectionEnd.{ConnectionEnd}
use Rattle.ibc_wire.specs.declared.packet.Packet.{Packet}
use Rattle.ibc_wire.specs.declared.messages.RecvPacket.{RecvPacket}
use Rattle.ibc_wire.specs.declared.messages.AckPacket.{AckPacket}
use Rattle.ibc_wire.specs.declared.messages.Timeout.{Timeout}
use Rattle.ibc_wire.specs.declared.messages.TimeoutOnClose.{TimeoutOnClose}
use Rattle.ibc_machine.specs.declared.reply.Effect.{Effect}
use Rattle.ibc_machine.specs.declared.reply.Effect.TheVariants as effect
use Rattle.ibc_machine.specs.chain.Records.{Core, Channel, connection_at, channel_at, with_channel}
use Rattle.ibc_machine.specs.ics24.Values.{Claim}
use Rattle.ibc_machine.specs.chain.Checks.{Checked, require, ◌>>=◌}
use Rattle.ibc_machine.specs.ics24.Evidence.{Host, Evidence, require_proof}
use Rattle.ibc_machine.specs.ics04.Channels.{client_of}
use Rattle.ibc_machine.specs.ics04.Packets.{with_received, after_receive, after_ack, after_timeout, with_timed_out, recv_checked, recv_packet, ack_checked, ack_packet, timeout_checked, timeout, timeout_on_close_checked, timeout_on_close}
use Rattle.ibc_machine.specs.ledger.Replay.{LedgerState, proof_evidence}
use Rattle.ibc_machine.proofs.PassedChecks.{find, miss}
use Rattle.ibc_records.specs.RecordsModel.{RecordsModel, core_of, IsUnchanged}
use Rattle.ibc_records.specs.Knowledge.{Knows}
use Rattle.ibc_records.specs.HandlerContract.{IsTakenWith}
use Rattle.ibc_records.specs.Packets.{ReceivesPacket, AcknowledgesPacket, TimesOutPacket}
use Rattle.ibc_records.specs.ProofVerdicts.{IsUnlessMemory, IsShown, IsEvident, IsPassed}
use Rattle.ibc_records.specs.TimeoutChecks.{require_timed_out}
use Rattle.ibc_records.proofs.Judging.{IsRefusedBy, failed, passed, stops_at, refuses}

-- ---- the client under a connection that is there

module _ (held : RecordsModel) (seen : List Publication) (state : LedgerState) (id : Text) (connection : ConnectionEnd) (there : connection_at (core_of held) id ≡ Some connection) where
  client_is : connection.client ≡ client_of (core_of held) id
  client_is = sym (ap (λ (o : Option ConnectionEnd). option_map_or (λ (c : ConnectionEnd). c.client) o []) there)

  module _ (knowledge : Knows held state) (height : ℕ) where
    module _ (claim : Claim) (bytes : Text) (proof : Proof) (reads : proof_of bytes ≡ Some proof) where
      shown_over : (result : Result ⊤ Refusal) → IsShown held connection.client height claim proof result
          → IsUnlessMemory (require_proof (proof_evidence seen None state) (client_of (core_of held) id) height claim bytes) result
      shown_over result shown = subst (λ client. IsShown held client height claim proof result) client_is shown seen state bytes knowledge reads

      pub not_shown : {r : Refusal} → IsShown held connection.client height claim proof (Err r)
          → IsRefusedBy (require_proof (proof_evidence seen None state) (client_of (core_of held) id) height claim bytes) r
      not_shown {r} shown = failed (shown_over (Err r) shown)

      pub was_shown : IsShown held connection.client height claim proof (Ok tt)
          → require_proof (proof_evidence seen None state) (client_of (core_of held) id) height claim bytes ≡ Ok tt
      was_shown shown = passed (shown_over (Ok tt) shown)

    -- what the evidence says of the connection's client, of a packet that times out
    pub timed_out_over : (packet : Packet) (result : Result ⊤ Refusal) → IsEvident held (require_timed_out connection.client height packet) result
        → require_timed_out (client_of (core_of held) id) height packet (proof_evidence seen None state) ≡ result
    timed_out_over packet result evident = sym (subst (λ client. IsEvident held (require_timed_out client height packet) result) client_is evident seen state knowledge)

-- ---- refusals

-- bytes that are no proof, of a message in its form or not
pub unread_in_form : {form test : Bool} {bytes text : Text} {r : Refusal} → test ≡ form → bytes ≡ text
    → IsRefusedBy (require (test && is_some (proof_of bytes)) BadMessage) r → IsRefusedBy (require (form && is_some (proof_of text)) BadMessage) r
unread_in_form {form} {test} {bytes} {text} {r} same read why =
    subst (λ (t : Bool × Text). IsRefusedBy (require (t.0 && is_some (proof_of t.1)) BadMessage) r) (λ i. (same i, read i)) why

-- the first of two conditions fails, or the second where the first holds
pub refused_before : (a b : Bool) {r : Refusal} → IsRefusedBy (require a BadMessage) r → IsRefusedBy (require (a && b) BadMessage) r
refused_before a b (inr memory) = inr memory
refused_before true b (inl e) = absurd cc
refused_before false b (inl e) = inl e

pub refused_behind : {a : Bool} (b : Bool) {r : Refusal} → a ≡ true → IsRefusedBy (require b BadMessage) r → IsRefusedBy (require (a && b) BadMessage) r
refused_behind {a} b {r} holds why = subst (λ t. IsRefusedBy (require (t && b) BadMessage) r) (sym holds) why

-- the result of checks of which one refused
pub refused : {A B : Type 0} {checked : Checked B} (given : A → B) (result : Result A Refusal) {r : Refusal} → IsErrAnd result (λ e. e ≡ r) → IsRefusedBy checked r → IsPassed checked given result
refused {checked = checked} given result is why = let p = err_from_is_err_and result is in refuses checked given result p.1 p.2 why

pub untaken_with : {A App : Type 0} (effect_of : A → Effect) (checked : Checked (Effect × Core × App)) (old : RecordsModel) (app : App) (result : Result A Refusal) (new : RecordsModel) (after : App) {e r : Refusal}
    → result ≡ Err e → e ≡ r → IsRefusedBy checked r → IsUnchanged old new → after ≡ app → IsTakenWith effect_of checked old app result new after
untaken_with effect_of checked old app result new after is same why unchanged kept =
    subst (λ r. IsTakenWith effect_of checked old app r new after) (sym is) (subst (IsRefusedBy checked) (sym same) why, unchanged, kept)

-- the answer to a message that a check refused, which leaves the records and the application
pub refused_message : {A App : Type 0} (effect_of : A → Effect) {checked : Checked (Effect × Core × App)} (old : RecordsModel) (app : App) (result : Result A Refusal) {r : Refusal}
    → IsErrAnd result (λ e. e ≡ r) → IsRefusedBy checked r → IsTakenWith effect_of checked old app result old app
refused_message effect_of {checked = checked} old app result is why =
    let p = err_from_is_err_and result is in
    untaken_with effect_of checked old app result old app p.1 p.2 why refl refl

-- ---- receiving

module _ {A : Type 0} (receives : A → Text → Packet → Text × A) (old : RecordsModel) (app : A) (evidence : Evidence) (host : Host) (m : RecvPacket) where
  abbrev received : Checked (Effect × Core × A)
  received = recv_packet receives m evidence host (core_of old) app

  pub recv_refused : {r : Refusal} → IsRefusedBy (recv_checked m evidence host (core_of old)) r → IsRefusedBy received r
  unfolding recv_packet
  recv_refused why = stops_at _ why refl

  recv_given : (mine : Channel) → recv_checked m evidence host (core_of old) ≡ Ok mine → received ≡ Ok (with_received m.packet mine (core_of old) (receives app mine.end.version m.packet))
  unfolding recv_packet
  recv_given mine is = find _ is refl

  pub recv_taken : (mine : Channel) → recv_checked m evidence host (core_of old) ≡ Ok mine
      → channel_at (core_of old) m.packet.destination_port m.packet.destination_channel ≡ Some mine
      → (result : Result (Text × Text) Refusal) (new : RecordsModel) (after : A)
      → IfOk result (λ acks. ReceivesPacket receives old app m.packet acks.0 new after)
      → IfErr result (λ refusal. refusal ≡ NoMemory)
      → OnErr result (IsUnchanged old new × (after ≡ app))
      → IsTakenWith (λ acks. effect.Ack acks.0) received old app result new after
  recv_taken mine is there (Ok acks) new after receipt err unchanged =
      let stood : Some mine ≡ Some receipt.mine = sym there ∙ receipt.stood in
      let same : mine ≡ receipt.mine = cc (stood) in
      let answer : receives app mine.end.version m.packet ≡ (acks.0, after) = ap (λ (c : Channel). receives app c.end.version m.packet) same ∙ sym receipt.answer in (
        with_channel m.packet.destination_port m.packet.destination_channel (after_receive m.packet.sequence acks.0 receipt.mine) (core_of old),
        recv_given mine is ∙ (λ i. Ok (with_received m.packet (same i) (core_of old) (answer i))),
        receipt.written,
      )
  recv_taken mine is there (Err refusal) new after receipt err unchanged = (inr err, unchanged.0, unchanged.1)

-- ---- what an application is told

-- the application refused, or memory ran out
module _ {A : Type 0} (checked : Checked (Effect × Core × A)) (told : Channel → Checked A) (given : Channel → A → Effect × Core × A) (mine : Channel) (stood : Option Channel) (there : stood ≡ Some mine) where
  pub told_taken : checked ≡ (told mine >>= λ (app : A). Ok (given mine app)) → (refusal : Refusal)
      → (refusal ≡ NoMemory) ⊎ IfSome stood (λ c. told c ≡ Err refusal) → IsRefusedBy checked refusal
  told_taken is refusal (inl memory) = inr memory
  told_taken is refusal (inr refused) = inl (miss _ (subst (λ o. IfSome o (λ c. told c ≡ Err refusal)) there refused) is)

module _ {A : Type 0} (told : A → Text → Packet → Text → Checked A) (old : RecordsModel) (app : A) (evidence : Evidence) (host : Host) (m : AckPacket) where
  abbrev acknowledged : Checked (Effect × Core × A)
  acknowledged = ack_packet told m evidence host (core_of old) app

  abbrev acknowledged_on : Channel → A → Effect × Core × A
  acknowledged_on mine after = (effect.None, with_channel m.packet.source_port m.packet.source_channel (after_ack m.packet.sequence mine) (core_of old), after)

  pub ack_refused : {r : Refusal} → IsRefusedBy (ack_checked m evidence host (core_of old)) r → IsRefusedBy acknowledged r
  unfolding ack_packet
  ack_refused why = stops_at _ why refl

  ack_given : (mine : Channel) → ack_checked m evidence host (core_of old) ≡ Ok mine → acknowledged ≡ (told app mine.end.version m.packet m.ack >>= λ (after : A). Ok (acknowledged_on mine after))
  unfolding ack_packet
  ack_given mine is = find _ is refl

  pub ack_taken : (mine : Channel) → ack_checked m evidence host (core_of old) ≡ Ok mine
      → channel_at (core_of old) m.packet.source_port m.packet.source_channel ≡ Some mine
      → (result : Result ⊤ Refusal) (new : RecordsModel) (after : A)
      → OnOk result (AcknowledgesPacket told old app m.packet m.ack new after)
      → IfErr result (λ refusal. (refusal ≡ NoMemory) ⊎ IfSome (channel_at (core_of old) m.packet.source_port m.packet.source_channel) (λ c. told app c.end.version m.packet m.ack ≡ Err refusal))
      → OnErr result (IsUnchanged old new × (after ≡ app))
      → IsTakenWith (λ _. effect.None) acknowledged old app result new after
  ack_taken mine is there (Ok x) new after settled err unchanged =
      let stood : Some mine ≡ Some settled.mine = sym there ∙ settled.stood in
      let same : mine ≡ settled.mine = cc (stood) in (
        with_channel m.packet.source_port m.packet.source_channel (after_ack m.packet.sequence settled.mine) (core_of old),
        find _ (ap (λ (c : Channel). told app c.end.version m.packet m.ack) same ∙ settled.answer) (ack_given mine is) ∙ ap (λ (c : Channel). Ok (acknowledged_on c after)) same,
        settled.written,
      )
  ack_taken mine is there (Err refusal) new after settled err unchanged =
      (told_taken acknowledged (λ c. told app c.end.version m.packet m.ack) acknowledged_on mine _ there (ack_given mine is) refusal err, unchanged.0, unchanged.1)

-- ---- timeouts

module _ {A : Type 0} (told : A → Text → Packet → Checked A) (old : RecordsModel) (app : A) (p : Packet) (checked : Checked (Effect × Core × A)) (mine : Channel) where
  pub time_out_taken : checked ≡ (told app mine.end.version p >>= λ (after : A). Ok (with_timed_out p mine (core_of old) after))
      → channel_at (core_of old) p.source_port p.source_channel ≡ Some mine
      → (result : Result ⊤ Refusal) (new : RecordsModel) (after : A)
      → OnOk result (TimesOutPacket told old app p new after)
      → IfErr result (λ refusal. (refusal ≡ NoMemory) ⊎ IfSome (channel_at (core_of old) p.source_port p.source_channel) (λ c. told app c.end.version p ≡ Err refusal))
      → OnErr result (IsUnchanged old new × (after ≡ app))
      → IsTakenWith (λ _. effect.None) checked old app result new after
  time_out_taken is there (Ok x) new after settled err unchanged =
      let stood : Some mine ≡ Some settled.mine = sym there ∙ settled.stood in
      let same : mine ≡ settled.mine = cc (stood) in (
        with_channel p.source_port p.source_channel (after_timeout p.sequence settled.mine) (core_of old),
        find _ (ap (λ (c : Channel). told app c.end.version p) same ∙ settled.answer) is ∙ ap (λ (c : Channel). Ok (with_timed_out p c (core_of old) after)) same,
        settled.written,
      )
  time_out_taken is there (Err refusal) new after settled err unchanged =
      (told_taken checked (λ c. told app c.end.version p) (λ c. with_timed_out p c (core_of old)) mine _ there is refusal err, unchanged.0, unchanged.1)

module _ {A : Type 0} (told : A → Text → Packet → Checked A) (evidence : Evidence) (host : Host) (core : Core) (app : A) where
  pub timeout_refused : (m : Timeout) {r : Refusal} → IsRefusedBy (timeout_checked m evidence host core) r → IsRefusedBy (timeout told m evidence host core app) r
  unfolding timeout
  timeout_refused m why = stops_at _ why refl

  pub timeout_given : (m : Timeout) (mine : Channel) → timeout_checked m evidence host core ≡ Ok mine
      → timeout told m evidence host core app ≡ (told app mine.end.version m.packet >>= λ (after : A). Ok (with_timed_out m.packet mine core after))
  unfolding timeout
  timeout_given m mine is = find _ is refl

  pub close_refused : (m : TimeoutOnClose) {r : Refusal} → IsRefusedBy (timeout_on_close_checked m evidence host core) r → IsRefusedBy (timeout_on_close told m evidence host core app) r
  unfolding timeout_on_close
  close_refused m why = stops_at _ why refl

  pub close_given : (m : TimeoutOnClose) (mine : Channel) → timeout_on_close_checked m evidence host core ≡ Ok mine
      → timeout_on_close told m evidence host core app ≡ (told app mine.end.version m.packet >>= λ (after : A). Ok (with_timed_out m.packet mine core after))
  unfolding timeout_on_close
  close_given m mine is = find _ is refl
