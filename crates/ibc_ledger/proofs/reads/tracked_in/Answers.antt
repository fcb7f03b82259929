-- The client under the connection, where both are there.
use Rattle.ibc_ledger.proofs.Common.{sym, ap, ◌∙◌, Some, option_map, option_copied, core_of}
use Rattle.ibc_wire.specs.declared.records.ClientState.{ClientState}
use Rattle.ibc_machine.specs.chain.Records.{Client}
use Rattle.ibc_records.proofs.FoundConnections.{client_nowhere}
use Rattle.ibc_ledger.proofs.NamedEnds.{tracks, tracks_none}
use Rattle.ibc_ledger.proofs.reads.tracked_in.Goals as goal

pub returns-in_default : goal.returns-in_default
returns-in_default c =
    sym (ap (option_map (λ (client : Client). client.state.chain)) (client_nowhere (core_of c.args.records.now) c.args.connection.now c.lemma_names_have_form.ensures (sym c.connection.ensures ∙ ap option_copied c.in_default.is)))

pub returns-in-Some-client : goal.returns-in-Some-client
returns-in-Some-client c =
    ap (λ (s : ClientState). Some s.chain) c.state.ensures
    ∙ tracks c.args.records.now c.args.connection.now c.in-Some.end.now (sym c.connection.ensures ∙ ap option_copied c.in-Some.is) c.in-Some-client.client.now (sym c.client.ensures ∙ ap option_copied c.in-Some-client.is)

pub returns-in-None : goal.returns-in-None
returns-in-None c =
    tracks_none c.args.records.now c.args.connection.now c.in-Some.end.now (sym c.connection.ensures ∙ ap option_copied c.in-Some.is) (sym c.client.ensures ∙ ap option_copied c.in-None.is)
