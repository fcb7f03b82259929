-- A message that reads nothing is answered as its handler's call says, also where what its application keeps is a part of
-- something more.
use Rattle.ibc_ledger.proofs.Common.{IsErrAnd, ◌∙◌, ◌≡◌, ℕ, false, [], refl, sym, ap, subst, Result, Ok, Err, None, inl, inr, ⊎_elim, Refusal, NoMemory, Text, Message, Packet, RecvPacket, Effect, Core, Apps, Checked, go_on, Host, ◌>>=◌}
use Rattle.ibc_ledger.proofs.Common.{Evidence, CoreHandler, Handler, core_handler, handle, is_block_reply, LedgerState, proof_evidence, Channel, recv_packet, recv_checked, with_received, RecordsModel, core_of, IsTakenMessage, IsTakenWith, IsHandled}
use Rattle.ibc_ledger.proofs.Common.{IsHandledWith, host_with, IsInFlight, same_flight, Applications, HostState, EffectTwice, abstract_apps, result_effects, IsReady, IsAnswered}
use Rattle.std.proofs.lemmas.Result.{err_from_is_err_and}
use Rattle.ibc_machine.specs.chain.CoreFlight.{IsOfCore}
use Rattle.ibc_machine.proofs.flight.CoreMessages.{core_message_burns_nothing}
use Rattle.ibc_records.proofs.KnownStates.{knowing}
use Rattle.ibc_machine.specs.declared.reply.Reply.TheVariants as reply
use Rattle.ibc_machine.specs.declared.reply.Effect.TheVariants as effect

-- what a settled packet leaves, by what was checked and by what its application answers
abbrev pub settling : {A : Type 0} → Checked Channel → (Channel → Core) → (Channel → Checked A) → Checked (Effect × Core × A)
settling checked next on_answer = checked >>= λ mine. on_answer mine >>= λ app. Ok (effect.None, next mine, app)

module _ {A B : Type 0} (put : A → B) where
  -- put into its place, where nothing was refused
  abbrev pub put_in : Checked A → Checked B
  put_in checked = checked >>= λ app. Ok (put app)

  -- the same beside an acknowledgement, and behind the effect and the core
  abbrev pub put_beside : Text × A → Text × B
  put_beside (ack, app) = (ack, put app)

  abbrev pub put_last : Checked (Effect × Core × A) → Checked (Effect × Core × B)
  put_last checked = checked >>= λ ((effect, core, app) : Effect × Core × A). Ok (effect, core, put app)

  pub put_taken : {X : Type 0} (effect_of : X → Effect) (checked : Checked (Effect × Core × A)) (old new : RecordsModel) (app left : A) (result : Result X Refusal)
      → IsTakenWith effect_of checked old app result new left → IsTakenWith effect_of (put_last checked) old (put app) result new (put left)
  unfolding go_on
  put_taken effect_of checked old new app left (Ok x) taken = (taken.0, ap put_last taken.1, taken.2)
  put_taken effect_of checked old new app left (Err refusal) taken = (⊎_elim (λ e. inl (ap put_last e)) (λ none. inr none) taken.0, taken.1, ap put taken.2)

  received : (p : Packet) (core : Core) (on_recv : Text → Packet → Text × A) (whole : Text → Packet → Text × B) (checked : Checked Channel)
      → ((version : Text) → whole version p ≡ put_beside (on_recv version p))
      → (checked >>= λ mine. Ok (with_received p mine core (whole mine.end.version p))) ≡ put_last (checked >>= λ mine. Ok (with_received p mine core (on_recv mine.end.version p)))
  unfolding go_on
  received p core on_recv whole (Ok mine) same = ap (λ w. Ok (with_received p mine core w)) (same mine.end.version)
  received p core on_recv whole (Err refusal) same = refl

  put_answered : (on_answer : Checked A) (next : Core) → (put_in on_answer >>= λ app. Ok (effect.None, next, app)) ≡ put_last (on_answer >>= λ app. Ok (effect.None, next, app))
  unfolding go_on
  put_answered (Ok app) next = refl
  put_answered (Err refusal) next = refl

  -- where the application may also answer by what was checked
  pub settled : (on_answer : Channel → Checked A) (whole : Channel → Checked B) (next : Channel → Core) (checked : Checked Channel) → ((mine : Channel) → checked ≡ Ok mine → whole mine ≡ put_in (on_answer mine))
      → settling checked next whole ≡ put_last (settling checked next on_answer)
  unfolding go_on
  settled on_answer whole next (Ok mine) same =
      ap (λ (x : Checked B). x >>= λ app. Ok (effect.None, next mine, app)) (same mine refl) ∙ put_answered (on_answer mine) (next mine)
  settled on_answer whole next (Err refusal) same = refl

  module _ (evidence : Evidence) (host : Host) (core : Core) (app : A) where
    pub recv_put : (on_recv : A → Text → Packet → Text × A) (whole : B → Text → Packet → Text × B) (m : RecvPacket)
        → ((version : Text) → whole (put app) version m.packet ≡ put_beside (on_recv app version m.packet))
        → recv_packet whole m evidence host core (put app) ≡ put_last (recv_packet on_recv m evidence host core app)
    unfolding recv_packet
    recv_put on_recv whole m same = received m.packet core (on_recv app) (whole (put app)) (recv_checked m evidence host core) same

-- a call's effect is no block's
abbrev pub IsNoBlock : {X : Type 0} → (X → Effect) → Type 0
IsNoBlock effect_of = (x : _) → is_block_reply (reply.Ok (effect_of x)) ≡ false

-- what applications keep stays, where the core alone is handled
core_taken : {X : Type 0} (effect_of : X → Effect) (checked : Checked (Effect × Core)) (apps : Apps) (old new : RecordsModel) (result : Result X Refusal)
    → IsTakenMessage effect_of checked old result new → IsTakenWith effect_of (checked >>= λ ((effect, after) : Effect × Core). Ok (effect, after, apps)) old apps result new apps
unfolding go_on
core_taken effect_of checked apps old new (Ok x) taken =
    (taken.0, ap (λ (c : Checked (Effect × Core)). c >>= λ ((effect, after) : Effect × Core). Ok (effect, after, apps)) taken.1, taken.2)
core_taken effect_of checked apps old new (Err refusal) taken =
    (⊎_elim (λ e. inl (ap (λ (c : Checked (Effect × Core)). c >>= λ ((effect, after) : Effect × Core). Ok (effect, after, apps)) e)) (λ none. inr none) taken.0, taken.1, refl)

-- what is kept after a handler's call, if it is so after each effect and before the call
pub after_call : {X P : Type 0} (Q : Core → P → Type 0) (effect_of : X → Effect) (handler : Handler P) (chain chains : ℕ) (old new : RecordsModel) (app left : P) (result : Result X Refusal)
    → ((evidence : Evidence) (host : Host) (effect : Effect) (after : Core) → handler evidence host (core_of old) app ≡ Ok (effect, after, left) → Q after left)
    → Q (core_of old) app → IsHandledWith effect_of handler chain chains old app result new left → Q (core_of new) left
after_call {X = X} {P = P} Q effect_of handler chain chains old new app left result keeps before handled =
    let some = knowing old in by_result some.0 result (handled [] some.0 some.1)
  where
    by_result : (state : LedgerState) (r : Result X Refusal) → IsTakenWith effect_of (handler (proof_evidence [] None state) (host_with chain chains old) (core_of old) app) old app r new left → Q (core_of new) left
    by_result state (Ok x) taken = subst (λ core. Q core left) (sym taken.2.core_is) (keeps _ _ (effect_of x) taken.0 taken.1)
    by_result state (Err refusal) taken = subst (λ (w : Core × P). Q w.0 w.1) (λ i. (sym (ap core_of taken.1) i, sym taken.2 i)) before

module _ (m : Message) (old new : HostState) (same : new ≡ record old { records = new.records; applications = new.applications }) {X : Type 0} (effect_of : X → Effect) (none : IsNoBlock effect_of) where
  -- the answer is that of a call which is handled as the message is
  pub answered : (given : Result X Refusal) → IsHandledWith effect_of (handle m) old.number old.chains old.records (abstract_apps old.applications) given new.records (abstract_apps new.applications)
      → IsInFlight new.applications.transfers (core_of new.records) → (result : Result EffectTwice Refusal) → result ≡ result_effects effect_of given → IsAnswered m old result new
  answered (Ok x) handled flight result is =
      subst (λ r. IsAnswered m old r new) (sym is) (record { same = same; handled = handled; flight = flight; kept = refl; no_block = none x })
  answered (Err refusal) handled flight result is =
      subst (λ r. IsAnswered m old r new) (sym is) (record { same = same; handled = handled; flight = flight; kept = tt; no_block = tt })

-- A message is a handler's of what one application keeps, in its place among what all keep, and the bank knows afterwards what is
-- burnt in flight.
pub record IsPart {P : Type 0} (m : Message) (old : HostState) (put : P → Applications) (handler : Handler P) (app : P) : Type 0 where
  pub here : put app ≡ old.applications
  pub part : (evidence : Evidence) (host : Host) → handle m evidence host (core_of old.records) (abstract_apps (put app))
      ≡ put_last (λ p. abstract_apps (put p)) (handler evidence host (core_of old.records) app)
  pub flight : (evidence : Evidence) (host : Host) (effect : Effect) (after : Core) (left : P) → handler evidence host (core_of old.records) app ≡ Ok (effect, after, left)
      → IsInFlight (put left).transfers after

-- the answer is that of a call to the application
pub part_answered : {P X : Type 0} (m : Message) (old : HostState) → IsReady m old → (put : P → Applications) (handler : Handler P) (app left : P) → IsPart m old put handler app
    → (effect_of : X → Effect) (new : RecordsModel) (given : Result X Refusal) → IsHandledWith effect_of handler old.number old.chains old.records app given new left → IsNoBlock effect_of
    → (result : Result EffectTwice Refusal) → result ≡ result_effects effect_of given → IsAnswered m old result (record old { records = new; applications = put left })
part_answered m old ready put handler app left is_part effect_of new given handled none result is =
    answered m old (record old { records = new; applications = put left }) refl effect_of none given
    (λ seen state knows.
    let evidence = proof_evidence seen None state in
    let host = host_with old.number old.chains old.records in
    subst (λ (apps : Applications). IsTakenWith effect_of (handle m evidence host (core_of old.records) (abstract_apps apps)) old.records (abstract_apps apps) given new (abstract_apps (put left))) is_part.here
    (subst (λ checked. IsTakenWith effect_of checked old.records (abstract_apps (put app)) given new (abstract_apps (put left))) (sym (is_part.part evidence host))
    (put_taken (λ p. abstract_apps (put p)) effect_of (handler evidence host (core_of old.records) app) old.records new app left given (handled seen state knows))))
    (after_call (λ core p. IsInFlight (put p).transfers core) effect_of handler old.number old.chains old.records new app left given
    (λ evidence host effect after e. is_part.flight evidence host effect after left e)
    (subst (λ (apps : Applications). IsInFlight apps.transfers (core_of old.records)) (sym is_part.here) ready.flight) handled)
    result is

-- the answer is that of a call which changes the core alone
pub core_answered : (m : Message) (old : HostState) → IsReady m old → IsOfCore m → {X : Type 0} (effect_of : X → Effect) (handler : CoreHandler) → handle m ≡ core_handler handler
    → (new : RecordsModel) (given : Result X Refusal) → IsHandled effect_of handler old.number old.chains old.records given new → IsNoBlock effect_of
    → (result : Result EffectTwice Refusal) → result ≡ result_effects effect_of given → IsAnswered m old result (record old { records = new })
core_answered m old ready of_core effect_of handler is_handler new given handled none result is =
    answered m old (record old { records = new }) refl effect_of none given whole flight result is
  where
    whole : IsHandledWith effect_of (handle m) old.number old.chains old.records (abstract_apps old.applications) given new (abstract_apps old.applications)
    whole seen state knows =
        subst (λ (h : Handler Apps). IsTakenWith effect_of (h (proof_evidence seen None state) (host_with old.number old.chains old.records) (core_of old.records) (abstract_apps old.applications)) old.records (abstract_apps old.applications) given new (abstract_apps old.applications)) (sym is_handler)
        (core_taken effect_of (handler (proof_evidence seen None state) (host_with old.number old.chains old.records) (core_of old.records)) (abstract_apps old.applications) old.records new given (handled seen state knows))

    flight : IsInFlight old.applications.transfers (core_of new)
    flight =
        after_call (λ core apps. IsInFlight old.applications.transfers core) effect_of (handle m) old.number old.chains old.records new (abstract_apps old.applications) (abstract_apps old.applications) given
        (λ evidence host effect after e.
        same_flight old.applications.transfers old.applications.transfers (core_of old.records) after ready.flight refl
        ((core_message_burns_nothing evidence host (core_of old.records) ready.orderly (abstract_apps old.applications) m of_core).gives (effect, after, abstract_apps old.applications) e).0)
        ready.flight whole

-- a refusal that is passed on
pub passed_on : {result : Result EffectTwice Refusal} {refusal : Refusal} → IsErrAnd result (λ y. y ≡ refusal) → result ≡ Err refusal
passed_on passed = let p = err_from_is_err_and _ passed in p.1 ∙ ap Err p.2

-- memory ran out before the call
pub no_memory : (m : Message) (old : HostState) → IsReady m old → (refusal : Refusal) {result : Result EffectTwice Refusal} → result ≡ Err refusal → refusal ≡ NoMemory → IsAnswered m old result old
no_memory m old ready refusal passed is = subst (λ r. IsAnswered m old r old) (sym passed) (record {
  same = refl;
  handled = λ seen state knows. (inr is, refl, refl);
  flight = ready.flight;
  kept = tt;
  no_block = tt;
})
