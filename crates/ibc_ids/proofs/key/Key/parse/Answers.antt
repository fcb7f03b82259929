use Rattle.std.proofs.Common.{Err, codes, List, ap, ◌∷◌, [], ◌∙◌}
use Rattle.std.specs.List.{slice_split}
use Rattle.ibc_ids.specs.Names.{is_slash}
use Rattle.ibc_ids.specs.Texts.{Text}
use Rattle.ibc_ids.proofs.KeyParts.{parsed, ports_second, other_text, this_text}
use Rattle.ibc_ids.specs.declared.refusal.Refusal.TheVariants.{BadName}
use Rattle.ibc_ids.proofs.key.Key.parse.Goals as goal

pub returns-in_default : goal.returns-in_default
returns-in_default c =
    let all = parsed c.args.text.now (c.args.text.now ∷ []) c.counter.result c.in_default.ensures c.counter.ensures in
    record { ok = all.ok; bad = all.bad; memory = all.memory; errors = all.errors }

pub returns-in_default-split_at_slash : goal.returns-in_default-split_at_slash
returns-in_default-split_at_slash c =
    let kind = c.in-Some.kind.now in
    let two = c.in-Some.ensures ∙ ap (λ (t : List Text). kind ∷ t) c.in_default-split_at_slash.ensures in
    let all = parsed c.args.text.now (kind ∷ c.in-Some.rest.now ∷ []) c.connection.result two c.connection.ensures in
    record { ok = all.ok; bad = all.bad; memory = all.memory; errors = all.errors }

pub returns-in_default-split_at_slash-2 : goal.returns-in_default-split_at_slash-2
returns-in_default-split_at_slash-2 c =
    let kind = c.in-Some.kind.now in
    let second = c.in-Some-split_at_slash.second.now in
    let rest = c.in-Some-split_at_slash.ensures ∙ ap (λ (t : List Text). second ∷ t) c.in_default-split_at_slash-2.ensures in
    let three = c.in-Some.ensures ∙ ap (λ (t : List Text). kind ∷ t) rest in
    let all = parsed c.args.text.now (kind ∷ second ∷ c.in-Some-split_at_slash.rest.now ∷ []) c.client_state.result three c.client_state.ensures in
    record { ok = all.ok; bad = all.bad; memory = all.memory; errors = all.errors }

-- no key has four parts or more without `ports` as the second
pub returns-then-ne : goal.returns-then-ne
returns-then-ne c =
    let kind = c.in-Some.kind.now in
    let second = c.in-Some-split_at_slash.second.now in
    let third = c.in-Some-split_at_slash-2.third.now in
    let last = c.in-Some-split_at_slash-2.rest.now in
    let behind = c.in-Some-split_at_slash.ensures ∙ ap (λ (t : List Text). second ∷ t) c.in-Some-split_at_slash-2.ensures in
    let whole = c.in-Some.ensures ∙ ap (λ (t : List Text). kind ∷ t) behind in
    let all = parsed c.args.text.now (kind ∷ second ∷ third ∷ slice_split is_slash last) (Err BadName) whole
    (λ k h. other_text second (codes "ports") c.if-ne.ensures (ports_second k kind second third last h.0)) in
    record { ok = all.ok; bad = all.bad; memory = all.memory; errors = all.errors }

pub returns : goal.returns
returns c =
    let kind = c.in-Some.kind.now in
    let third = c.in-Some-split_at_slash-2.third.now in
    let last = c.in-Some-split_at_slash-2.rest.now in
    let ports = this_text c.in-Some-split_at_slash.second.now (codes "ports") c.if-ne.ensures in
    let behind = c.in-Some-split_at_slash-2.ensures in
    let whole = c.in-Some.ensures ∙ ap (λ (t : List Text). kind ∷ t) (c.in-Some-split_at_slash.ensures ∙ (λ i. ports i ∷ behind i)) in
    let all = parsed c.args.text.now (kind ∷ codes "ports" ∷ third ∷ slice_split is_slash last) c.channel_record.result whole c.channel_record.ensures in
    record { ok = all.ok; bad = all.bad; memory = all.memory; errors = all.errors }
