-- The moments of a past: each event of it, between the world just before it and the world just after.
use Rattle.std.specs.Prelude.{◌≡◌, List, ◌∷◌, ◌++◌, map, IsTrue}
use Rattle.ibc_machine.specs.chain.Genesis.{GenesisState}
use Rattle.ibc_machine.specs.chain.Machine.{World, Step, IsRun}
use Rattle.ibc_machine.specs.ledger.Ledgers.{is_typed}
use Rattle.ibc_machine.specs.promises.Histories.{Happened}
use Rattle.ibc_machine.specs.promises.Laws.{IsPast}

-- Of all that happened, this event came behind these. The world stood at old before it, at new behind it, and
-- went on from there to what it is now.
pub record IsMoment (genesis : GenesisState) (happened : List Happened) (world : World)
    (before : List Happened) (h : Happened) (old new : World) : Type 0 where
  pub after : List Happened
  pub split : happened ≡ before ++ h ∷ after
  pub typed : IsTrue (is_typed h.0)
  pub past : IsPast genesis before old
  pub step : Step genesis old h.0 h.1 new
  pub run : IsRun genesis new (map (λ (h : Happened). h.0) after) (map (λ (h : Happened). h.1) after) world

-- the worlds just before and just after an event
abbrev pub HasMoment : GenesisState → List Happened → World → List Happened → Happened → Type 0
HasMoment genesis happened world before h =
    (old : World) × (new : World) × IsMoment genesis happened world before h old new

-- each event had its moment
abbrev pub EachMoment : Type 0
EachMoment =
    (genesis : GenesisState) (happened : List Happened) (world : World) (before : List Happened) (h : Happened)
    (after : List Happened) → IsPast genesis happened world → happened ≡ before ++ h ∷ after
    → HasMoment genesis happened world before h
