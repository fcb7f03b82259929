-- Entries that are kept as bytes.
use Rattle.std.proofs.Common.{◌≡◌, ℕ, [], ◌∷◌, refl, sym, ◌∙◌}
use Rattle.ibc_ids.specs.Texts.{Text}
use Rattle.ibc_wire.specs.Fields.{be64, Spells}
use Rattle.ibc_wire.specs.Lawful.{IsReader}
use Rattle.ibc_wire.proofs.FieldReaders.{first, done, reader_of}
use Rattle.ibc_wire.proofs.Readers.{n8_reader}
use Rattle.ibc_wire.proofs.Whole.{one_value}
use Rattle.ibc_message_codec.proofs.MessageReader.{message_reader}
use Rattle.ibc_machine.specs.declared.event.Event.{Event}
use Rattle.ibc_machine.specs.declared.event.Event.TheVariants as event
use Rattle.ibc_machine.specs.ledger.Ledgers.{chain_of}
use Rattle.ibc_entry_codec.specs.Times.{time_at_front}
use Rattle.ibc_entry_codec.specs.Stored.{event_fields, event_kind, answer_to, IsOfOneEntry}
use Rattle.ibc_entry_codec.specs.declared.stored.NextTime.{NextTime}
use Rattle.ibc_entry_codec.proofs.AnswerReaders.{answer_reader}

pub time_reader : IsReader (λ (t : NextTime). be64 t.next_time ∷ []) time_at_front
unfolding time_at_front
time_reader =
    reader_of (
    first _ (λ t. t.next_time) n8_reader λ time.
    done _ (tt, refl) (λ t p. λ i. record { next_time = p.1 i })
    )

-- bytes that spell no time are of no block
pub no_block : (kind : ℕ) (bytes : Text) → kind ≡ 0 → ((t : NextTime) → ¬ Spells (be64 t.next_time ∷ []) bytes) → (e : Event) → kind ≡ event_kind e → ¬ Spells (event_fields e) bytes
no_block kind bytes is_zero none (event.Block c n) same spelled = none (record { next_time = n }) spelled
no_block kind bytes is_zero none (event.Message c m) same spelled = absurd cc

same_event : (a b : Event) (text : _) → chain_of a ≡ chain_of b → event_kind a ≡ event_kind b → Spells (event_fields a) text → Spells (event_fields b) text → a ≡ b
same_event (event.Message c m) (event.Message d n) text chains kinds s t = λ i. event.Message (chains i) (one_value message_reader m n text s t i)
same_event (event.Block c m) (event.Block d n) text chains kinds s t =
    let same : m ≡ n = one_value n8_reader m n text s t in
    λ i. event.Block (chains i) (same i)
same_event (event.Message c m) (event.Block d n) text chains kinds s t = absurd cc
same_event (event.Block c m) (event.Message d n) text chains kinds s t = absurd cc

pub of_one_entry : IsOfOneEntry
of_one_entry a b stored s t =
    let events = same_event a.event b.event stored.event (sym s.chain ∙ t.chain) (sym s.kind ∙ t.kind) s.event t.event in
    let answers : answer_to a ≡ answer_to b = one_value answer_reader (answer_to a) (answer_to b) stored.answer s.answer t.answer in
    λ i. record { event = events i; reply = (answers i).reply; reading = (answers i).reading }
