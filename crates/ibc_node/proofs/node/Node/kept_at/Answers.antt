-- The journal has the entry, and the world has it at that place.
use Rattle.std.proofs.Common.{[], ◌∷◌, sym, subst}
use Rattle.std.proofs.lemmas.Result.{IfOk-weaker}
use Rattle.sqlite.specs.Held.{state}
use Rattle.ibc_journal.specs.Entries.{item}
use Rattle.ibc_node.specs.Nodes.{IsToldIn, IsToldOf, TellsOn, with_waiting}
use Rattle.ibc_node.proofs.Told.{told_of}
use Rattle.ibc_node.proofs.node.Node.kept_at.Goals as goal

pub returns-in-Some : goal.returns-in-Some
returns-in-Some g c =
    let shows = state g.S.Store in
    let old = c.args.self.now in
    let new = c.entry_at.new.self in
    IfOk-weaker c.kept_as.result (IsToldOf c.args.place (item c.in-Some.entry)) (λ told. TellsOn shows old [] new (told ∷ []))
    (λ told is. record {
      stays = c.in_ok-entry.ensures.keeps;
      told = λ text items rest kept clean none. (
        subst (λ w. IsToldIn w told) (sym c.entry_at.ensures.world)
            (told_of old.world (with_waiting items old) c.args.place c.in_ok-entry.field-0 c.in-Some.entry told kept.kept c.in-Some.is (c.in_ok-entry.ensures.found text items rest kept clean) is),
        tt,
      );
    })
    c.kept_as.ensures
