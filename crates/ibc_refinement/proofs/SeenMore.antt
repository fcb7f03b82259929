-- What a ledger replays doesn't change when its pass has seen more publications.
use Rattle.std.proofs.Common.{◌≡◌, ℕ, List, [], ◌∷◌, ◌++◌, refl, ap, ◌∙◌}
use Rattle.std.specs.List.{AllByRecursion}
use Rattle.ibc_ids.specs.declared.publication.Publication.{Publication}
use Rattle.ibc_machine.specs.declared.reply.Reply.{Reply}
use Rattle.ibc_machine.specs.ledger.Replay.{LedgerState, StampedEntry, entry_answer, replay, met_states}
use Rattle.ibc_machine.specs.ledger.Ledgers.{Ledger, IsOwnEntry}
use Rattle.ibc_machine.proofs.SeenMore.{entry_stays}

pub replay_stays : (ledger : Ledger) (k : ℕ) (more : List Publication) (state : LedgerState) (history : List StampedEntry)
    → AllByRecursion (IsOwnEntry ledger) (met_states ledger.genesis k ledger.seen state history)
    → replay ledger.genesis k (ledger.seen ++ more) state history ≡ replay ledger.genesis k ledger.seen state history
replay_stays ledger k more state [] own = refl
replay_stays ledger k more state (e ∷ history) own =
    ap (λ (w : Reply × LedgerState). replay ledger.genesis k (ledger.seen ++ more) w.1 history) (entry_stays ledger.genesis k ledger.seen more state e own.0.reading)
    ∙ replay_stays ledger k more (entry_answer ledger.genesis k ledger.seen state e).1 history own.1
