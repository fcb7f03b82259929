-- A user's text and an escrow account's differ before the channel.
use Rattle.std.proofs.Common.{◌≡◌, ap, sym, ◌∙◌}
use Rattle.ibc_ids.specs.Texts.{text_cmp}
use Rattle.ibc_bank.specs.Parties.{party_text}
use Rattle.ibc_bank.proofs.Parties.{user_then_escrow, escrow_then_user, front}
use Rattle.ibc_bank.proofs.holder.AccountKey.compare.Goals as goal

pub returns-in-User-Escrow : goal.returns-in-User-Escrow
returns-in-User-Escrow c =
    let arm = c.in-User-Escrow in
    let me : c.args.self.now ≡ arm.mine.now = sym c.party.ensures ∙ ap party_text arm.is-0 in
    let step = user_then_escrow arm.mine.now arm.field-0-1.now c.as_str.ensures.form in
    c.cmp-in-User-Escrow.ensures ∙ ap (λ t. text_cmp t front) c.as_str.ensures.text ∙ sym step
    ∙ ap (λ t. text_cmp arm.mine.now (party_text t)) (sym arm.is-1) ∙ ap (λ t. text_cmp t (party_text c.args.other)) (sym me)

pub returns-in-Escrow-User : goal.returns-in-Escrow-User
returns-in-Escrow-User c =
    let arm = c.in-Escrow-User in
    let me : c.args.self.now ≡ party_text c.party.result = sym c.party.ensures in
    let step = escrow_then_user arm.theirs.now arm.field-0-0.now c.as_str-in-Escrow-User.ensures.form in
    c.cmp-in-Escrow-User.ensures ∙ ap (λ t. text_cmp front t) c.as_str-in-Escrow-User.ensures.text ∙ sym step
    ∙ ap (λ t. text_cmp (party_text t) arm.theirs.now) (sym arm.is-0) ∙ ap (λ t. text_cmp t arm.theirs.now) (sym me)
    ∙ ap (λ t. text_cmp c.args.self.now (party_text t)) (sym arm.is-1)
