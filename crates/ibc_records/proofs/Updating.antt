-- What "updateClient" gives, by the check that decides it.
use Rattle.std.proofs.Common.{◌≡◌, ◌<◌, Bool, true, false, not, eqb, is_ok, nat_le, refl, sym, ap, ◌∙◌, subst, Option, Some, None, Ok, Err, inl, inr, List, arith, eq-eqb, ne_eqb}
use Rattle.std.proofs.lemmas.Bool.{and_from, and_parts, and_left, and_right, eqb-false, not-true}
use Rattle.std.specs.Prelude.{⊤, IsSome}
use Rattle.std.specs.Option.{option_map, option_map_or}
use Rattle.ibc_ids.specs.Texts.{Text, text_cmp}
use Rattle.ibc_ids.specs.Maps.{at}
use Rattle.ibc_ids.proofs.Maps.{at-map_values}
use Rattle.ibc_ids.specs.declared.publication.Publication.{Publication}
use Rattle.ibc_ids.specs.declared.refusal.Refusal.{Refusal}
use Rattle.ibc_ids.specs.declared.refusal.Refusal.TheVariants.{UnknownClient, WrongHeader, NotPublished}
use Rattle.ibc_wire.specs.declared.messages.UpdateClient.{UpdateClient}
use Rattle.ibc_machine.specs.declared.entry.Reading.{Reading}
use Rattle.ibc_machine.specs.declared.reply.Effect.TheVariants as effect
use Rattle.ibc_machine.specs.chain.Records.{Core, Client, client_at, with_client}
use Rattle.ibc_machine.specs.chain.Checks.{Checked, require, expect, go_on, and_then, ◌>>=◌, ◌>>◌}
use Rattle.ibc_machine.specs.ics24.Evidence.{Host, Evidence, require_row}
use Rattle.ibc_machine.proofs.PassedChecks.{grouped}
use Rattle.ibc_machine.specs.ics02.Clients.{update_client, with_known_height, is_of_client}
use Rattle.ibc_machine.specs.ledger.Replay.{LedgerState, proof_evidence, row_read}
use Rattle.ibc_records.specs.ClientModels.{ClientModel, abstract_client}
use Rattle.ibc_records.specs.RecordsModel.{RecordsModel, core_of}
use Rattle.ibc_records.specs.HeaderChecks.{require_tracked, require_published, is_reading_update}
use Rattle.ibc_records.specs.ClientReplies.{IsUpdated, IsLearned}

-- a client of the core is a client that is held, in plain
pub client_at-held : (held : RecordsModel) (id : Text) → client_at (core_of held) id ≡ option_map abstract_client (at text_cmp id held.clients)
client_at-held held id = at-map_values text_cmp abstract_client id held.clients

-- ---- checks in a row

refused_first : {B : Type 0} (x : Checked ⊤) (rest : Checked B) (r : Refusal) → x ≡ Err r → (x >> rest) ≡ Err r
unfolding and_then
refused_first (Ok t) rest r e = absurd cc
refused_first (Err s) rest r e = let same : s ≡ r = cc in ap (λ s. Err s) same

passed_first : {B : Type 0} (x : Checked ⊤) (rest : Checked B) {t : ⊤} → x ≡ Ok t → (x >> rest) ≡ rest
unfolding and_then
passed_first (Ok t) rest e = refl
passed_first (Err s) rest e = absurd cc

untracked : {A : Type 0} (o : Option Client) (test : Client → Bool) (rest : Client → Checked A) (r : Refusal)
    → (expect o UnknownClient >>= λ (c : Client). require (test c) WrongHeader) ≡ Err r → (expect o UnknownClient >>= λ (c : Client). (require (test c) WrongHeader >> rest c)) ≡ Err r
unfolding go_on
untracked None test rest r e = let same : UnknownClient ≡ r = cc in ap (λ s. Err s) same
untracked (Some c) test rest r e = refused_first (require (test c) WrongHeader) (rest c) r e

tracked : {A : Type 0} (o : Option Client) (test : Client → Bool) (rest : Client → Checked A) (t : ⊤)
    → (expect o UnknownClient >>= λ (c : Client). require (test c) WrongHeader) ≡ Ok t
    → (c : Client) × (o ≡ Some c) × ((expect o UnknownClient >>= λ (c : Client). (require (test c) WrongHeader >> rest c)) ≡ rest c)
unfolding go_on
tracked None test rest t e = absurd cc
tracked (Some c) test rest t e = (c, refl, passed_first (require (test c) WrongHeader) (rest c) e)

tracked_test : (o : Option Client) (test : Client → Bool) (t : ⊤) → (expect o UnknownClient >>= λ (c : Client). require (test c) WrongHeader) ≡ Ok t → (c : Client) × (o ≡ Some c) × (test c ≡ true)
unfolding go_on
tracked_test None test t e = absurd cc
tracked_test (Some c) test t e =
    elim (test c) as (λ b. test c ≡ b → require b WrongHeader ≡ Ok t → (d : Client) × (Some c ≡ Some d) × (test d ≡ true)) [
      | true ↦ λ is f. (c, refl, is)
      | false ↦ λ is f. absurd cc
    ] refl e

tests : (o : Option Client) (test : Client → Bool) (x : Checked ⊤) → (expect o UnknownClient >>= λ (c : Client). require (test c) WrongHeader) ≡ x → option_map_or test o false ≡ is_ok x
unfolding go_on
tests None test x e = ap is_ok e
tests (Some c) test x e =
    elim (test c) as (λ b. require b WrongHeader ≡ x → b ≡ is_ok x) [
      | true ↦ λ f. ap is_ok f
      | false ↦ λ f. ap is_ok f
    ] e

-- an update looks just where its client is tracked
pub looks_up-tracked : (core : Core) (m : UpdateClient) (x : Checked ⊤) → require_tracked core m ≡ x → is_reading_update core m ≡ is_ok x
looks_up-tracked core m x e = tests (client_at core m.client) (λ c. is_of_client c m.header) x e

-- ---- the message

module _ (core : Core) (m : UpdateClient) where
  -- a client that isn't tracked is refused, whatever is published
  update-untracked : (evidence : Evidence) (host : Host) (r : Refusal) → require_tracked core m ≡ Err r → update_client m evidence host core ≡ Err r
  unfolding update_client
  update-untracked evidence host r e = untracked (client_at core m.client) (λ c. is_of_client c m.header) _ r e

  -- the client is tracked: what was read decides
  update-tracked : (host : Host) (seen : List Publication) (reading : Reading) (state : LedgerState) (t : ⊤) → require_tracked core m ≡ Ok t
      → (c : Client) × (client_at core m.client ≡ Some c)
      × (update_client m (proof_evidence seen (Some reading) state) host core ≡ (require_published seen reading m.header >> Ok (effect.None, with_client m.client (with_known_height m.header.height c) core)))
  unfolding update_client
  update-tracked host seen reading state t e =
      let w = tracked (client_at core m.client) (λ c. is_of_client c m.header)
      (λ c. require (nat_le m.header.height reading.published) NotPublished >> (require_row (row_read seen reading.row_was_there m.header) >> Ok (effect.None, with_client m.client (with_known_height m.header.height c) core))) t e
      in
      (w.0, w.1, w.2 ∙ grouped (require (nat_le m.header.height reading.published) NotPublished) (require_row (row_read seen reading.row_was_there m.header)) _)

module _ (held : RecordsModel) (m : UpdateClient) where
  -- whether the client is tracked, by what is held
  pub tracked-none : None ≡ at text_cmp m.client held.clients → Err UnknownClient ≡ require_tracked (core_of held) m
  unfolding go_on
  tracked-none none = ap (λ o. expect o UnknownClient >>= λ (c : Client). require (is_of_client c m.header) WrongHeader) (sym (client_at-held held m.client ∙ ap (λ o. option_map abstract_client o) (sym none)))

  module _ (client : ClientModel) (some : Some client ≡ at text_cmp m.client held.clients) where
    tracked-some : (b : Bool) → is_of_client (abstract_client client) m.header ≡ b → require b WrongHeader ≡ require_tracked (core_of held) m
    unfolding go_on
    tracked-some b e =
        ap (λ b. require b WrongHeader) (sym e)
        ∙ ap (λ o. expect o UnknownClient >>= λ (c : Client). require (is_of_client c m.header) WrongHeader) (sym (client_at-held held m.client ∙ ap (λ o. option_map abstract_client o) (sym some)))

    pub tracks : m.header.chain ≡ client.state.chain → (m.header.height ≡ 0 → ⊥) → Ok tt ≡ require_tracked (core_of held) m
    tracks same high = tracked-some true (and_from (eqb m.header.chain client.state.chain) (not (eqb m.header.height 0)) (eq-eqb m.header.chain client.state.chain same) (ap not (ne_eqb m.header.height 0 high)))

    pub tracks_another : (m.header.chain ≡ client.state.chain → ⊥) → Err WrongHeader ≡ require_tracked (core_of held) m
    tracks_another other = tracked-some false (and_left (eqb m.header.chain client.state.chain) (not (eqb m.header.height 0)) (ne_eqb m.header.chain client.state.chain other))

    pub at_none : m.header.height ≡ 0 → Err WrongHeader ≡ require_tracked (core_of held) m
    at_none low = tracked-some false (and_right (eqb m.header.chain client.state.chain) (not (eqb m.header.height 0)) (ap not (eq-eqb m.header.height 0 low)))

  pub refused_untracked : (host : Host) (seen : List Publication) (state : LedgerState) (r : Refusal) → require_tracked (core_of held) m ≡ Err r
      → IsUpdated (update_client m (proof_evidence seen None state) host (core_of held)) m held (Err r) held
  refused_untracked host seen state r e = (inl (update-untracked (core_of held) m (proof_evidence seen None state) host r e), refl)

  module _ (t : ⊤) (tracks : require_tracked (core_of held) m ≡ Ok t) where
    -- a client that is tracked is held, and the header's height isn't 0
    found_client : (c : Client) × (client_at (core_of held) m.client ≡ Some c) × (is_of_client c m.header ≡ true)
    found_client = tracked_test (client_at (core_of held) m.client) (λ c. is_of_client c m.header) t tracks

    pub held_client : IsSome (at text_cmp m.client held.clients)
    held_client = of_map (at text_cmp m.client held.clients) found_client.0 (sym (client_at-held held m.client) ∙ found_client.1)
      where
        of_map : (o : Option ClientModel) (c : Client) → option_map abstract_client o ≡ Some c → IsSome o
        of_map (Some x) c e = refl
        of_map None c e = absurd cc

    pub tracked_height : 0 < m.header.height
    tracked_height =
        let parts = and_parts (eqb m.header.chain found_client.0.state.chain) (not (eqb m.header.height 0)) found_client.2 in
        let other = eqb-false m.header.height 0 (not-true (eqb m.header.height 0) parts.1) in
        omega arith

    -- what was learned once the header was checked is what the message gives
    pub learned : (host : Host) (seen : List Publication) (reading : Reading) (state : LedgerState) (checked : Checked ⊤) (result : Checked ⊤) (new : RecordsModel) → checked ≡ require_published seen reading m.header
        → IsLearned checked m held result new → IsUpdated (update_client m (proof_evidence seen (Some reading) state) host (core_of held)) m held result new
    learned host seen reading state (Err r) result new is (given, same) =
        let w = update-tracked (core_of held) m host seen reading state t tracks in
        subst (λ (p : Checked ⊤ × RecordsModel). IsUpdated (update_client m (proof_evidence seen (Some reading) state) host (core_of held)) m held p.0 p.1) (λ i. (sym given i, sym same i))
        (inl (w.2 ∙ refused_first (require_published seen reading m.header) _ r (sym is)), refl)
    learned host seen reading state (Ok u) (Err r) new is (memory, same) =
        let w = update-tracked (core_of held) m host seen reading state t tracks in
        (inr (memory, ap is_ok (w.2 ∙ passed_first (require_published seen reading m.header) _ (sym is))), same)
    learned host seen reading state (Ok u) (Ok v) new is updates =
        let w = update-tracked (core_of held) m host seen reading state t tracks in
        let found : Some w.0 ≡ Some (abstract_client updates.client) = sym w.1 ∙ client_at-held held m.client ∙ ap (λ o. option_map abstract_client o) updates.stood in
        let same : w.0 ≡ abstract_client updates.client = cc (found) in (
          w.2 ∙ passed_first (require_published seen reading m.header) _ (sym is)
              ∙ ap (λ c. Ok (effect.None, with_client m.client (with_known_height m.header.height c) (core_of held))) same
              ∙ ap (λ core. Ok (effect.None, core)) (sym updates.core),
          updates,
        )
