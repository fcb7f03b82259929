-- Laws of notes in a computed run, by tests that compute. A key is a chain with a channel: where a note is kept, or came.
use Rattle.std.proofs.Common.{◌≡◌, ℕ, Bool, true, refl, ap, sym, ◌∙◌, subst, List, [], ◌∷◌, ◌++◌, map, Option, Some, None, inl, arith, ◌&&◌, ◌||◌, not, slice_get, Contains, unwrap_or}
use Rattle.std.specs.List.{list_all}
use Rattle.std.specs.Option.{option_map_or}
use Rattle.ibc_ids.specs.Texts.{Text, same_text, text_cmp}
use Rattle.ibc_ids.specs.Maps.{at}
use Rattle.ibc_ids.proofs.Texts.{text_same, same_text_from}
use Rattle.ibc_wire.specs.declared.packet.Packet.{Packet}
use Rattle.ibc_machine.specs.chain.Records.{MachineChain, Channel}
use Rattle.ibc_machine.specs.chain.Machine.{World}
use Rattle.ibc_machine.specs.chain.Notes.{note_port}
use Rattle.ibc_machine.specs.promises.Histories.{Happened, End, sent_packets, received_packets}
use Rattle.ibc_machine.proofs.FiniteMaps.{by_text}
use Rattle.ibc_machine.proofs.Members.{Is_in, in_left, in_right, in_map, at_in, contains_in}
use Rattle.ibc_laws.specs.StoredNotes.{IsFront, notes_at, note_end, payloads}
use Rattle.ibc_laws.specs.Runs.{WorldStep, KeepsNotes, all_of}
use Rattle.ibc_laws.proofs.basics.PassedTests.{both, implied}
use Rattle.ibc_laws.proofs.basics.ListTests.{lemma_passes, lemma_passes_in, is_front, lemma_is_front, are_same, lemma_are_same}
use Rattle.ibc_laws.proofs.wrong.EachEnd.{entries_from, lemma_entry_in, each_pair, lemma_at_own}
use Rattle.ibc_laws.proofs.wrong.TakenAt.{all_received, lemma_received_in}

abbrev pub NoteKey : Type 0
NoteKey = ℕ × Text

-- ---- where notes are kept

abbrev pub kept_notes : MachineChain → List (Text × List Text)
kept_notes c = c.records.apps.notes

abbrev pub note_named : ℕ → Text × List Text → NoteKey
note_named k entry = (k, entry.0)

abbrev pub kept_keys : World → List NoteKey
kept_keys world = entries_from kept_notes note_named 0 world

-- a note that is kept is kept under a key
lemma_kept_key : (world : World) (chain : ℕ) (channel x : Text) (xs : List Text) → notes_at world chain channel ≡ x ∷ xs → Is_in (chain, channel) (kept_keys world)
lemma_kept_key world chain channel x xs some = on_chain (slice_get world chain) refl some
  where
    under : (c : MachineChain) → slice_get world chain ≡ Some c → (o : Option (List Text)) → at text_cmp channel c.records.apps.notes ≡ o
        → unwrap_or o [] ≡ x ∷ xs → Is_in (chain, channel) (kept_keys world)
    under c there (Some texts) found some =
        lemma_entry_in kept_notes note_named world 0 chain chain c (channel, texts) (omega arith) there
        (at_in text_cmp by_text.exact channel texts c.records.apps.notes found)
    under c there None found some = absurd (cc some)

    on_chain : (o : Option MachineChain) → slice_get world chain ≡ o
        → option_map_or (λ (c : MachineChain). unwrap_or (at text_cmp channel c.records.apps.notes) []) o [] ≡ x ∷ xs → Is_in (chain, channel) (kept_keys world)
    on_chain (Some c) there some = under c there (at text_cmp channel c.records.apps.notes) refl some
    on_chain None there some = absurd (cc some)

-- ---- where packets came

abbrev pub key_of_end : End × Packet → NoteKey
key_of_end x = (x.0.chain, x.0.channel)

abbrev pub received_keys : List Happened → List NoteKey
received_keys hs = map key_of_end (all_received hs)

lemma_received_key : (hs : List Happened) (chain : ℕ) (channel : Text) (p : Packet) (ps : List Packet) → received_packets (note_end chain channel) hs ≡ p ∷ ps
    → Is_in (chain, channel) (received_keys hs)
lemma_received_key hs chain channel p ps came =
    let first : Contains (p ∷ ps) p = contains_in p (p ∷ ps) (inl refl) in
    in_map key_of_end (note_end chain channel, p) (all_received hs)
    (lemma_received_in (note_end chain channel) p hs (subst (λ (qs : List Packet). Contains qs p) (sym came) first))

-- ---- the notes are those that were received

abbrev pub is_as_received : World → List Happened → NoteKey → Bool
is_as_received world hs key = are_same same_text (notes_at world key.0 key.1) (payloads (received_packets (note_end key.0 key.1) hs))

abbrev pub are_as_received : World → List Happened → Bool
are_as_received world hs = list_all (is_as_received world hs) (kept_keys world ++ received_keys hs)

lemma_as_received : (world : World) (hs : List Happened) → are_as_received world hs ≡ true → (chain : ℕ) (channel : Text)
    → notes_at world chain channel ≡ payloads (received_packets (note_end chain channel) hs)
lemma_as_received world hs all chain channel = go (notes_at world chain channel) refl (received_packets (note_end chain channel) hs) refl
  where
    by_key : Is_in (chain, channel) (kept_keys world ++ received_keys hs) → notes_at world chain channel ≡ payloads (received_packets (note_end chain channel) hs)
    by_key has = lemma_are_same same_text text_same (notes_at world chain channel) (payloads (received_packets (note_end chain channel) hs))
        (lemma_passes_in (is_as_received world hs) (kept_keys world ++ received_keys hs) (chain, channel) all has)

    go : (notes : List Text) → notes_at world chain channel ≡ notes → (ps : List Packet) → received_packets (note_end chain channel) hs ≡ ps
        → notes_at world chain channel ≡ payloads (received_packets (note_end chain channel) hs)
    go (x ∷ xs) kept ps came = by_key (in_left (chain, channel) (kept_keys world) (received_keys hs) (lemma_kept_key world chain channel x xs kept))
    go [] none (p ∷ ps) came = by_key (in_right (chain, channel) (kept_keys world) (received_keys hs) (lemma_received_key hs chain channel p ps came))
    go [] none [] nothing = none ∙ sym (ap (λ (ps : List Packet). payloads ps) nothing)

-- ---- they stay

abbrev pub stays_in : WorldStep → NoteKey → Bool
stays_in step key = is_front same_text (notes_at step.0 key.0 key.1) (notes_at step.2 key.0 key.1)

abbrev pub notes_stay : WorldStep → Bool
notes_stay step = list_all (stays_in step) (kept_keys step.0)

lemma_stay : (step : WorldStep) → notes_stay step ≡ true → (chain : ℕ) (channel : Text) → IsFront (notes_at step.0 chain channel) (notes_at step.2 chain channel)
lemma_stay step all chain channel = go (notes_at step.0 chain channel) refl
  where
    go : (notes : List Text) → notes_at step.0 chain channel ≡ notes → IsFront (notes_at step.0 chain channel) (notes_at step.2 chain channel)
    go (x ∷ xs) kept = lemma_is_front same_text text_same (notes_at step.0 chain channel) (notes_at step.2 chain channel)
        (lemma_passes_in (stays_in step) (kept_keys step.0) (chain, channel) all (lemma_kept_key step.0 chain channel x xs kept))
    go [] none = (notes_at step.2 chain channel, ap (λ (xs : List Text). xs ++ notes_at step.2 chain channel) none)

-- ---- they were sent

abbrev pub were_sent : World → List Happened → End → Channel → End → Channel → Bool
were_sent world hs e m f n =
    not (same_text f.port note_port) || is_front same_text (notes_at world f.chain f.channel) (payloads (sent_packets e m hs))

-- ---- all of it

abbrev pub keeps_notes : List WorldStep → World → Bool
keeps_notes steps world =
    are_as_received world (all_of steps) && (list_all notes_stay steps && each_pair world (were_sent world (all_of steps)))

pub lemma_keeps_notes : (steps : List WorldStep) (world : World) → keeps_notes steps world ≡ true → KeepsNotes steps world
lemma_keeps_notes steps world passed =
    let first = both (are_as_received world (all_of steps)) _ passed in
    let second = both (list_all notes_stay steps) (each_pair world (were_sent world (all_of steps))) first.1 in
    record {
      are_received = lemma_as_received world (all_of steps) first.0;
      stay = λ step chain channel among. lemma_stay step (lemma_passes notes_stay steps step second.0 among) chain channel;
      were_sent = λ e f m peers port own. lemma_is_front same_text text_same (notes_at world f.chain f.channel) (payloads (sent_packets e m (all_of steps)))
          (implied (same_text f.port note_port) _ (same_text_from f.port note_port port)
          (lemma_at_own world (were_sent world (all_of steps)) second.1 e f m peers own).1);
    }
