-- The store is again the image of the core, in which the channel has the new end.
use Rattle.std.proofs.Common.{sym, ◌∙◌, subst}
use Rattle.ibc_records.specs.RecordsModel.{RecordsModel, SetsChannelEnd}
use Rattle.ibc_records.specs.RecordsFields.{records_model}
use Rattle.ibc_records.proofs.Channels.{roomy, sets_there, is_not_missing}
use Rattle.ibc_records.proofs.records.Records.set_channel_end.Goals as goal

pub returns-in-Err-clause-unknown : goal.returns-in-Err-clause-unknown
returns-in-Err-clause-unknown c =
    λ none. absurd (is_not_missing _ c.args.self.now (c.args.port, c.args.id) (sym c.contains.ensures ∙ c.if-not-contains.false) c.self.view_is none)

pub set_end-requires : goal.set_end-requires
set_end-requires c = sym c.contains.ensures ∙ c.if-not-contains.false

pub returns-in_err-set_end-clause-unknown : goal.returns-in_err-set_end-clause-unknown
returns-in_err-set_end-clause-unknown c =
    λ none. absurd (is_not_missing _ c.args.self.now (c.args.port, c.args.id) (sym c.contains.ensures ∙ c.if-not-contains.false) c.self.view_is none)

pub invariant_of-self-in_err-set_end : goal.invariant_of-self-in_err-set_end
invariant_of-self-in_err-set_end c =
    let old : RecordsModel = records_model c.self.inside in
    roomy old c.set_end.new.channels.pairs c.reserve_end.new.store c.self.invariant c.in_err-set_end.ensures.unchanged c.reserve_end.ensures.same

pub invariant_of-self-2 : goal.invariant_of-self-2
invariant_of-self-2 c =
    let old : RecordsModel = records_model c.self.inside in
    (sets_there old c.args.port c.args.id c.args.end c.set_end.new.channels.pairs c.self.invariant c.in-Ok.ensures.named
    c.reserve_end.new.store c.set_reserved.new.store (sym c.contains.ensures ∙ c.if-not-contains.false) c.in_ok-set_end.ensures.ok c.in-Ok.ensures.path c.in-Ok.ensures.value c.reserve_end.ensures.same c.set_reserved.ensures.set).0

pub returns-clause-ok : goal.returns-clause-ok
returns-clause-ok c =
    let old : RecordsModel = records_model c.self.inside in
    subst (λ (before : RecordsModel). SetsChannelEnd before c.args.port c.args.id c.args.end (record old { channels = c.set_end.new.channels.pairs; store = c.set_reserved.new.store })) c.self.view_is
    (sets_there old c.args.port c.args.id c.args.end c.set_end.new.channels.pairs c.self.invariant c.in-Ok.ensures.named
    c.reserve_end.new.store c.set_reserved.new.store (sym c.contains.ensures ∙ c.if-not-contains.false) c.in_ok-set_end.ensures.ok c.in-Ok.ensures.path c.in-Ok.ensures.value c.reserve_end.ensures.same c.set_reserved.ensures.set).1
