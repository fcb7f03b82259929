-- The world goes on, and what it kept waits.
use Rattle.std.proofs.Common.{◌≡◌, ◌++◌, Some, Result, Ok, Err, refl, sym, ap, ◌∙◌, subst, append-nil}
use Rattle.std.proofs.lemmas.Result.{err_from_is_err_and}
use Rattle.sqlite.specs.Held.{state}
use Rattle.ibc_ids.specs.declared.refusal.Refusal.{Refusal}
use Rattle.ibc_ids.specs.declared.refusal.Refusal.TheVariants.{UnknownChain}
use Rattle.ibc_machine.specs.ledger.Ledgers.{chain_of}
use Rattle.ibc_machine.specs.declared.reply.Reply.{Reply}
use Rattle.ibc_machine.specs.declared.reply.Reply.TheVariants.{No}
use Rattle.ibc_refinement.specs.World.{WorldState}
use Rattle.ibc_journal.specs.declared.entry.JournalEntry.{JournalEntry}
use Rattle.ibc_node.specs.declared.fault.NodeFault.{NodeFault}
use Rattle.ibc_node.specs.declared.keeping.Asked.{Asked}
use Rattle.ibc_node.specs.declared.keeping.Asked.TheVariants.{Kept, NotKept}
use Rattle.ibc_node.specs.Kept.{IsNotAsked}
use Rattle.ibc_journal.specs.Entries.{item, items_of}
use Rattle.ibc_node.specs.declared.node.KeptAnswer.{KeptAnswer}
use Rattle.ibc_node.specs.Marks.{marks_by, marks_at}
use Rattle.ibc_node.specs.Nodes.{HasAnswerAt, HasGrown, TakesOn}
use Rattle.ibc_node.proofs.Beside.{takes_nothing, takes_item}
use Rattle.ibc_node.proofs.Reasons.{of_memory, digest_long}
use Rattle.ibc_node.proofs.Staying.{keeps_taken}
use Rattle.ibc_node.proofs.Told.{grown_asked, told_none, told_item}
use Rattle.ibc_node.proofs.node.Node.take.Goals as goal

pub returns-in-NotKept-clause-taken : goal.returns-in-NotKept-clause-taken
returns-in-NotKept-clause-taken g c genesis items beside =
    takes_nothing c.args.log_place genesis c.args.self.now.world c.ask.new.world items (items_of c.args.self.now.waiting.items) c.args.self.now.end c.args.event c.not_kept.result c.in-NotKept.refusal beside
    (rw c.in-NotKept.is at c.in_ok-asked.ensures.asked) c.not_kept.ensures.place c.not_kept.ensures.reply

pub returns-in-Ok-clause-taken : goal.returns-in-Ok-clause-taken
returns-in-Ok-clause-taken g c genesis items beside =
    let was = c.args.self.now in
    let now = c.wait_with.new.self in
    let answer : KeptAnswer = record { place = Some c.in-Ok.place; reply = c.in-Kept.reply } in
    subst (λ w. TakesOn c.args.log_place genesis items (items_of was.waiting.items) was.world was.end c.args.event answer w (items_of now.waiting.items) now.end) (sym c.wait_with.ensures.world)
    (takes_item c.args.log_place genesis was.world c.ask.new.world items (items_of was.waiting.items) (items_of now.waiting.items) was.end now.end c.args.event answer (item c.in-Kept.entry) beside
    (rw c.in-Kept.is at c.in_ok-asked.ensures.asked) (ap Some c.in-Ok.ensures.place) c.in-Ok.ensures.waits c.in-Ok.ensures.end (rw c.in-Kept.is at c.in_ok-asked.ensures.by))

pub returns-in-NotKept-clause-told : goal.returns-in-NotKept-clause-told
returns-in-NotKept-clause-told g c genesis items beside = told_none c.ask.new.world (chain_of c.args.event) c.not_kept.result c.not_kept.ensures.place

pub returns-in-Ok-clause-told : goal.returns-in-Ok-clause-told
returns-in-Ok-clause-told g c genesis items beside =
    let was = c.args.self.now in
    subst (λ w. HasAnswerAt w c.in-Ok.place (chain_of c.args.event) c.in-Kept.reply) (sym c.wait_with.ensures.world)
    (told_item genesis items was.world c.ask.new.world was.end was.end.last c.args.event c.in-Kept.reply (item c.in-Kept.entry) c.in-Ok.place beside (rw c.in-Kept.is at c.in_ok-asked.ensures.asked) c.in-Ok.ensures.place)

pub returns-in-NotKept-clause-marked : goal.returns-in-NotKept-clause-marked
returns-in-NotKept-clause-marked g c =
    let marks = c.args.self.now.marks.items in
    subst (λ place. marks ≡ marks ++ marks_at c.args.log_place place) (sym c.not_kept.ensures.place) (sym (append-nil marks))

pub returns-in-Ok-clause-marked : goal.returns-in-Ok-clause-marked
returns-in-Ok-clause-marked g c =
    let marks = c.args.self.now.marks.items in
    c.in-Ok.ensures.marked ∙ ap (λ place. marks ++ marks_by c.args.log_place place) (sym c.in-Ok.ensures.place)

pub returns-in-NotKept-clause-keeps : goal.returns-in-NotKept-clause-keeps
returns-in-NotKept-clause-keeps g c =
    let was = c.args.self.now in
    keeps_taken (state g.S.Store) was _ c.args.log_place c.args.event c.not_kept.result refl (returns-in-NotKept-clause-taken g c) (returns-in-NotKept-clause-marked g c)
    (grown_asked was.world c.ask.new.world was.end.last c.args.event c.in_ok-asked.asked c.in_ok-asked.ensures.asked) refl

pub returns-in-Ok-clause-keeps : goal.returns-in-Ok-clause-keeps
returns-in-Ok-clause-keeps g c =
    let was = c.args.self.now in
    let answer : KeptAnswer = record { place = Some c.in-Ok.place; reply = c.in-Kept.reply } in
    keeps_taken (state g.S.Store) was c.wait_with.new.self c.args.log_place c.args.event answer c.wait_with.ensures.journal (returns-in-Ok-clause-taken g c) (returns-in-Ok-clause-marked g c)
    (subst (HasGrown was.world) (sym c.wait_with.ensures.world) (grown_asked was.world c.ask.new.world was.end.last c.args.event c.in_ok-asked.asked c.in_ok-asked.ensures.asked))
    c.wait_with.ensures.genesis

-- ---- what isn't asked for

is_told : (what : Asked) (refusal : Refusal) → what ≡ NotKept refusal → ◌≡◌ {A = Result Asked NodeFault} (Ok what) (Ok (NotKept UnknownChain)) → refusal ≡ UnknownChain
is_told what refusal is told = cc

not_told : (what : Asked) (reply : Reply) (entry : JournalEntry) → what ≡ Kept reply entry → ◌≡◌ {A = Result Asked NodeFault} (Ok what) (Ok (NotKept UnknownChain)) → ⊥
not_told what reply entry is told = cc

no_fault : (fault : NodeFault) → ◌≡◌ {A = Result Asked NodeFault} (Err fault) (Ok (NotKept UnknownChain)) → ⊥
no_fault fault told = cc

as_it_was : (old new : WorldState) (what : Asked) (refusal : Refusal) → what ≡ NotKept refusal → IsNotAsked old what new → new ≡ old
as_it_was old new what refusal is none = subst (λ (w : Asked). IsNotAsked old w new) is none

none_kept : (old new : WorldState) (what : Asked) (reply : Reply) (entry : JournalEntry) → what ≡ Kept reply entry → IsNotAsked old what new → ⊥
none_kept old new what reply entry is none = subst (λ (w : Asked). IsNotAsked old w new) is none

pub returns-in_err-asked-clause-unknown : goal.returns-in_err-asked-clause-unknown
returns-in_err-asked-clause-unknown g c past = absurd (no_fault _ (c.in_err-asked.ensures.unknown past))

pub returns-in-NotKept-clause-unknown : goal.returns-in-NotKept-clause-unknown
returns-in-NotKept-clause-unknown g c past = c.not_kept.ensures.reply ∙ ap No (is_told c.in_ok-asked.asked c.in-NotKept.refusal c.in-NotKept.is (c.in_ok-asked.ensures.unknown past))

pub returns-in-Ok-clause-unknown : goal.returns-in-Ok-clause-unknown
returns-in-Ok-clause-unknown g c past = absurd (not_told c.in_ok-asked.asked c.in-Kept.reply c.in-Kept.entry c.in-Kept.is (c.in_ok-asked.ensures.unknown past))

pub returns-in-Err-clause-unknown : goal.returns-in-Err-clause-unknown
returns-in-Err-clause-unknown g c past = absurd (not_told c.in_ok-asked.asked c.in-Kept.reply c.in-Kept.entry c.in-Kept.is (c.in_ok-asked.ensures.unknown past))

pub returns-in_err-asked-clause-unspelt : goal.returns-in_err-asked-clause-unspelt
returns-in_err-asked-clause-unspelt g c unspelt = absurd (c.in_err-asked.ensures.unspelt unspelt)

pub returns-in-NotKept-clause-unspelt : goal.returns-in-NotKept-clause-unspelt
returns-in-NotKept-clause-unspelt g c unspelt =
    (c.not_kept.ensures.place, as_it_was c.args.self.now.world c.ask.new.world c.in_ok-asked.asked c.in-NotKept.refusal c.in-NotKept.is (c.in_ok-asked.ensures.unspelt unspelt))

pub returns-in-Ok-clause-unspelt : goal.returns-in-Ok-clause-unspelt
returns-in-Ok-clause-unspelt g c unspelt =
    absurd (none_kept c.args.self.now.world c.ask.new.world c.in_ok-asked.asked c.in-Kept.reply c.in-Kept.entry c.in-Kept.is (c.in_ok-asked.ensures.unspelt unspelt))

pub returns-in-Err-clause-unspelt : goal.returns-in-Err-clause-unspelt
returns-in-Err-clause-unspelt g c unspelt =
    absurd (none_kept c.args.self.now.world c.ask.new.world c.in_ok-asked.asked c.in-Kept.reply c.in-Kept.entry c.in-Kept.is (c.in_ok-asked.ensures.unspelt unspelt))

-- ---- faults

pub returns-in_err-asked-clause-faults : goal.returns-in_err-asked-clause-faults
returns-in_err-asked-clause-faults g c =
    let p = err_from_is_err_and c.from_residual.result c.from_residual.ensures.1 in
    rw (p.1, p.2) (of_memory c.args.self.now.end.place _ c.in_err-asked.ensures.faults)

pub returns-in-Err-clause-faults : goal.returns-in-Err-clause-faults
returns-in-Err-clause-faults g c =
    let was = c.args.self.now in
    c.in-Err.ensures.faults (digest_long was.world c.ask.new.world was.end.last c.args.event c.in-Kept.reply (item c.in-Kept.entry) (rw c.in-Kept.is at c.in_ok-asked.ensures.asked))
