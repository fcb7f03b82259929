-- Timeouts as the code compares them.
use Rattle.std.proofs.Common.{[], ◌≡◌, ◌&&◌, ◌||◌, ◌-◌, ◌^◌, ◌<◌, ℕ, Bool, true, false, min, nat_le, not, ◌==◌, is_some, refl, sym, ap, ◌∙◌, List, Option, Some, None, Ok, Err, eqb, option_map, arith}
use Rattle.std.specs.Option.{option_map_or}
use Rattle.ibc_ids.specs.Texts.{Text, text_cmp}
use Rattle.ibc_ids.specs.Maps.{at}
use Rattle.ibc_ids.specs.declared.publication.Publication.{Publication}
use Rattle.ibc_wire.specs.declared.records.ConnectionEnd.{ConnectionEnd}
use Rattle.ibc_ids.specs.declared.refusal.Refusal.TheVariants.{NoTimeout, TimeoutPassed}
use Rattle.ibc_machine.specs.chain.Checks.{require, and_then, ◌>>◌}
use Rattle.ibc_machine.specs.ics24.Evidence.{Evidence}
use Rattle.ibc_machine.specs.chain.Records.{Core, Client, Channel, Commitment, client_at, connection_at, is_known_height}
use Rattle.ibc_machine.specs.ledger.Replay.{LedgerState, proof_evidence}
use Rattle.ibc_machine.specs.ics04.Packets.{is_reached, has_passed, require_timeouts}
use Rattle.ibc_machine.specs.ics24.Image.{IsKeyed}
use Rattle.ibc_records.specs.declared.client.ConsensusState.{ConsensusState}
use Rattle.ibc_records.specs.ClientModels.{ClientModel, abstract_client}
use Rattle.ibc_records.specs.RecordsModel.{RecordsModel, core_of, consensus_in}
use Rattle.ibc_records.specs.Knowledge.{Knows}
use Rattle.ibc_records.proofs.Knowing.{knows-held}
use Rattle.ibc_records.proofs.FoundConnections.{client_nowhere}
use Rattle.ibc_records.proofs.KnownTimes.{time_is}
use Rattle.ibc_records.proofs.Updating.{client_at-held}
use Rattle.ibc_records.specs.TimeoutChecks.{is_timeout_reached}

-- ---- the working height

-- a limit is reached at a height that counts no further than 2^64 - 1 just where it is reached at all
pub reached_next : (limit height : ℕ) → limit < 2 ^ 64 → is_reached limit (min height (2 ^ 64 - 1)) ≡ is_reached limit height
reached_next limit height small = ap (λ b. not (limit == 0) && b) (same_below (nat_le limit height) refl)
  where
    same_below : (b : Bool) → nat_le limit height ≡ b → nat_le limit (min height (2 ^ 64 - 1)) ≡ b
    same_below b is = grind arith

-- ---- what a client knows

module _ (held : RecordsModel) (state : LedgerState) (seen : List Publication) (knowledge : Knows held state) (client : Text) (height : ℕ) where
  pub reached_known : (limit time : ℕ) → Some time ≡ option_map (λ (known : ConsensusState). known.time) (consensus_in held client height)
      → is_reached limit time ≡ (is_known_height (core_of held) client height && is_reached limit ((proof_evidence seen None state).time_at client height))
  reached_known limit time there =
      let known : is_known_height (core_of held) client height ≡ true = knows-held held client height ∙ go (consensus_in held client height) there in
      ap (is_reached limit) (sym (time_is held state seen client height time knowledge (sym there)))
      ∙ ap (λ b. b && is_reached limit ((proof_evidence seen None state).time_at client height)) (sym known)
    where
      go : (o : Option ConsensusState) → Some time ≡ option_map (λ (known : ConsensusState). known.time) o → is_some o ≡ true
      go (Some known) e = refl
      go None e = absurd cc

  pub reached_unknown : (limit : ℕ) → None ≡ option_map (λ (known : ConsensusState). known.time) (consensus_in held client height)
      → false ≡ (is_known_height (core_of held) client height && is_reached limit ((proof_evidence seen None state).time_at client height))
  reached_unknown limit gone =
      ap (λ b. b && is_reached limit ((proof_evidence seen None state).time_at client height)) (sym (knows-held held client height ∙ go (consensus_in held client height) gone))
    where
      go : (o : Option ConsensusState) → None ≡ option_map (λ (known : ConsensusState). known.time) o → is_some o ≡ false
      go None e = refl
      go (Some known) e = absurd cc

-- a height that is known has a time
pub time_there : (held : RecordsModel) (client : Text) (height : ℕ) → is_known_height (core_of held) client height ≡ true
    → None ≡ option_map (λ (known : ConsensusState). known.time) (consensus_in held client height) → ⊥
time_there held client height is gone = go (consensus_in held client height) (sym (knows-held held client height) ∙ is) gone
  where
    go : (o : Option ConsensusState) → is_some o ≡ true → None ≡ option_map (λ (known : ConsensusState). known.time) o → ⊥
    go None e gone = absurd cc
    go (Some known) e gone = absurd cc

-- ---- the latest height that the end's client knows

module _ (held : RecordsModel) (state : LedgerState) (seen : List Publication) (mine : Channel) (c : Commitment) where
  abbrev passed_by : Text → Option Client → Bool
  passed_by id o = option_map_or (has_passed (proof_evidence seen None state) (core_of held) id c) o false

  abbrev over : Option ConnectionEnd → Text
  over o = option_map_or (λ (end : ConnectionEnd). end.client) o []

  pub no_connection : IsKeyed (core_of held) → None ≡ connection_at (core_of held) mine.end.connection → false ≡ is_timeout_reached (core_of held) mine c (proof_evidence seen None state)
  no_connection keyed gone =
      sym (ap (λ (o : Option Client). passed_by (over (connection_at (core_of held) mine.end.connection)) o) (client_nowhere (core_of held) mine.end.connection keyed (sym gone)))

  module _ (connection : ConnectionEnd) (there : Some connection ≡ connection_at (core_of held) mine.end.connection) where
    pub no_client : None ≡ at text_cmp connection.client held.clients → false ≡ is_timeout_reached (core_of held) mine c (proof_evidence seen None state)
    no_client gone =
        ap (λ (o : Option ClientModel). passed_by connection.client (option_map abstract_client o)) gone
        ∙ ap (passed_by connection.client) (sym (client_at-held held connection.client))
        ∙ ap (λ (o : Option ConnectionEnd). passed_by (over o) (client_at (core_of held) (over o))) there

    -- the latest height decides
    pub passed_over : (found : ClientModel) (latest : ℕ) → Some found ≡ at text_cmp connection.client held.clients → latest ≡ found.state.latest
        → (is_reached c.timeout_height latest || (is_known_height (core_of held) connection.client latest && is_reached c.timeout_time ((proof_evidence seen None state).time_at connection.client latest)))
        ≡ is_timeout_reached (core_of held) mine c (proof_evidence seen None state)
    passed_over found latest some same =
        ap (λ n. is_reached c.timeout_height n || (is_known_height (core_of held) connection.client n && is_reached c.timeout_time ((proof_evidence seen None state).time_at connection.client n))) same
        ∙ ap (λ (o : Option ClientModel). passed_by connection.client (option_map abstract_client o)) some
        ∙ ap (passed_by connection.client) (sym (client_at-held held connection.client))
        ∙ ap (λ (o : Option ConnectionEnd). passed_by (over o) (client_at (core_of held) (over o))) there

-- ---- timeouts that are none

module _ (evidence : Evidence) (core : Core) (mine : Channel) (c : Commitment) where
  pub no_timeout : true ≡ (eqb c.timeout_height 0 && eqb c.timeout_time 0) → Err NoTimeout ≡ require_timeouts evidence core mine c
  unfolding require_timeouts and_then
  no_timeout none = λ i. require (not (none i)) NoTimeout >> (require (not (is_timeout_reached core mine c evidence)) TimeoutPassed >> Ok tt)

  pub too_late : false ≡ (eqb c.timeout_height 0 && eqb c.timeout_time 0) → true ≡ is_timeout_reached core mine c evidence → Err TimeoutPassed ≡ require_timeouts evidence core mine c
  unfolding require_timeouts and_then
  too_late some late = λ i. require (not (some i)) NoTimeout >> (require (not (late i)) TimeoutPassed >> Ok tt)

  pub in_time : false ≡ (eqb c.timeout_height 0 && eqb c.timeout_time 0) → false ≡ is_timeout_reached core mine c evidence → Ok tt ≡ require_timeouts evidence core mine c
  unfolding require_timeouts and_then
  in_time some early = λ i. require (not (some i)) NoTimeout >> (require (not (early i)) TimeoutPassed >> Ok tt)
