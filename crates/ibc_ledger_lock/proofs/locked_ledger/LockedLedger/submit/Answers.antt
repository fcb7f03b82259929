use Rattle.std.proofs.Common.{◌≡◌, ◌∙◌, ◌∷◌, ◌++◌, ◌-◌, [], List, sym, ap, length, subst}
use Rattle.ibc_machine.specs.declared.event.Event.{Event}
use Rattle.ibc_machine.specs.declared.event.Event.TheVariants as event
use Rattle.ibc_ledger.specs.HistoryGrowth.{AddsOrNot}
use Rattle.ibc_ledger_lock.specs.KnownLedgers.{KnownLedger}
use Rattle.ibc_ledger_lock.specs.Calls.{AreCallsOf, Call, asked_by, call_of}
use Rattle.ibc_ledger_lock.specs.Books.{BookPlace, IsKnownBeginning}
use Rattle.ibc_ledger_lock.specs.ReceiptsAndReadings.{IsLastAnswered, SharedLedger, known_with, last_call}
use Rattle.ibc_ledger_lock.proofs.Noting.{asked_more, goes_on, same, told_last}
use Rattle.ibc_ledger_lock.proofs.locked_ledger.LockedLedger.submit.Goals as goal

pub note_call-mark-requires : goal.note_call-mark-requires
note_call-mark-requires g c =
    let i = c.self.invariant in
    let old = c.self.inside.ledger.ledger in
    let new = c.apply-reply.new.self.ledger in
    let calls = c.self.inside.keeper.known.calls in
    let given = c.apply-reply.result in
    let asked : Event = event.Message old.chain c.args.message in
    let stays = same old new asked given c.apply-reply.ensures.adds in
    let picked : event.Message new.chain c.of-asked.result.value ≡ asked = λ i. event.Message (stays.0 i) (c.of-asked.ensures i) in
    record {
      later = subst (λ (e : Event). IsKnownBeginning c.self.inside.keeper.known (known_with new (calls ++ call_of e given ∷ []))) (sym picked)
          (subst (λ (known : KnownLedger). IsKnownBeginning known (known_with new (calls ++ call_of asked given ∷ []))) (sym i.3)
          (goes_on old new asked given calls c.apply-reply.ensures.adds));
    }

pub invariant_of-self : goal.invariant_of-self
invariant_of-self g c =
    let i = c.self.invariant in
    let old = c.self.inside.ledger.ledger in
    let new = c.apply-reply.new.self.ledger in
    let calls = c.self.inside.keeper.known.calls in
    let given = c.apply-reply.result in
    let asked : Event = event.Message old.chain c.args.message in
    let stays = same old new asked given c.apply-reply.ensures.adds in
    let picked : event.Message new.chain c.of-asked.result.value ≡ asked = λ i. event.Message (stays.0 i) (c.of-asked.ensures i) in
    let noted = c.note_call-mark.ensures.keeper.1 in
    let known : c.note_call-mark.new.self.known.calls ≡ calls ++ call_of (event.Message new.chain c.of-asked.result.value) given ∷ [] = ap (λ (k : KnownLedger). k.calls) noted in
    let called = known ∙ ap (λ (e : Event). calls ++ call_of e given ∷ []) picked in (
      c.apply-reply.ensures.table ∙ i.0,
      stays.1 ∙ i.1,
      c.note_call-mark.ensures.keeper.0 ∙ i.2 ∙ ap g.W.WorldBrand.book (sym stays.0),
      noted ∙ ap (known_with new) (sym known),
      subst (AreCallsOf new) (sym called) (asked_more old new asked given calls c.apply-reply.ensures.adds i.4),
    )

pub invariant_of-result : goal.invariant_of-result
invariant_of-result g c =
    let i = c.self.invariant in
    let old = c.self.inside.ledger.ledger in
    let new = c.apply-reply.new.self.ledger in
    let calls = c.self.inside.keeper.known.calls in
    let given = c.apply-reply.result in
    let last : Event = event.Message new.chain c.of-asked.result.value in
    let called : c.note_call-mark.result.known.calls ≡ calls ++ call_of last given ∷ [] =
    ap (λ (m : BookPlace). m.known.calls) c.note_call-mark.ensures.mark ∙ ap (λ (k : KnownLedger). k.calls) c.note_call-mark.ensures.keeper.1 in (
      ap (λ (m : BookPlace). m.book) c.note_call-mark.ensures.mark ∙ c.note_call-mark.ensures.keeper.0 ∙ i.2 ∙ ap g.W.WorldBrand.book (sym c.chain-chain.ensures),
      subst (IsLastAnswered given) (sym called) (told_last last given calls).2,
    )

pub returns-clause-table : goal.returns-clause-table
returns-clause-table g c = c.apply-reply.ensures.table ∙ ap (λ (s : SharedLedger). s.held.table) c.self.view_is

pub returns-clause-adds : goal.returns-clause-adds
returns-clause-adds g c =
    subst (λ (s : SharedLedger). AddsOrNot s.held.ledger (event.Message s.held.ledger.chain c.args.message) c.apply-reply.result c.apply-reply.new.self.ledger) c.self.view_is c.apply-reply.ensures.adds

pub returns-clause-asked : goal.returns-clause-asked
returns-clause-asked g c =
    let old = c.self.inside.ledger.ledger in
    let new = c.apply-reply.new.self.ledger in
    let calls = c.self.inside.keeper.known.calls in
    let given = c.apply-reply.result in
    let asked : Event = event.Message old.chain c.args.message in
    let stays = same old new asked given c.apply-reply.ensures.adds in
    let picked : event.Message new.chain c.of-asked.result.value ≡ asked = λ i. event.Message (stays.0 i) (c.of-asked.ensures i) in
    let known : c.note_call-mark.new.self.known.calls ≡ calls ++ call_of (event.Message new.chain c.of-asked.result.value) given ∷ [] = ap (λ (k : KnownLedger). k.calls) c.note_call-mark.ensures.keeper.1 in
    known ∙ ap (λ (e : Event). calls ++ call_of e given ∷ []) picked
    ∙ ap (λ (s : SharedLedger). s.calls ++ call_of (event.Message s.held.ledger.chain c.args.message) given ∷ []) c.self.view_is

pub returns-clause-told : goal.returns-clause-told
returns-clause-told g c =
    let old = c.self.inside.ledger.ledger in
    let new = c.apply-reply.new.self.ledger in
    let calls = c.self.inside.keeper.known.calls in
    let given = c.apply-reply.result in
    let asked : Event = event.Message old.chain c.args.message in
    let stays = same old new asked given c.apply-reply.ensures.adds in
    let last : Event = event.Message new.chain c.of-asked.result.value in
    let picked : last ≡ asked = λ i. event.Message (stays.0 i) (c.of-asked.ensures i) in
    let called : c.note_call-mark.result.known.calls ≡ calls ++ call_of last given ∷ [] =
    ap (λ (m : BookPlace). m.known.calls) c.note_call-mark.ensures.mark ∙ ap (λ (k : KnownLedger). k.calls) c.note_call-mark.ensures.keeper.1 in (
      c.chain-chain.ensures ∙ ap (λ (s : SharedLedger). s.held.ledger.chain) c.self.view_is,
      ap (λ (l : List Call). asked_by (last_call l)) called ∙ (told_last last given calls).0 ∙ picked
          ∙ ap (λ (s : SharedLedger). event.Message s.held.ledger.chain c.args.message) c.self.view_is,
    )

pub returns-clause-place : goal.returns-clause-place
returns-clause-place g c =
    let new = c.apply-reply.new.self.ledger in
    let calls = c.self.inside.keeper.known.calls in
    let given = c.apply-reply.result in
    let last : Event = event.Message new.chain c.of-asked.result.value in
    let called : c.note_call-mark.result.known.calls ≡ calls ++ call_of last given ∷ [] =
    ap (λ (m : BookPlace). m.known.calls) c.note_call-mark.ensures.mark ∙ ap (λ (k : KnownLedger). k.calls) c.note_call-mark.ensures.keeper.1 in
    ap (λ (l : List Call). length l - 1) called ∙ (told_last last given calls).1 ∙ ap (λ (s : SharedLedger). length s.calls) c.self.view_is
