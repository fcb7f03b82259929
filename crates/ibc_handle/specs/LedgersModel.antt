-- Ledgers of one world under the number that their owner gave it.
use Rattle.std.specs.Prelude.{◌≡◌, ◌++◌, ℕ, List, [], ◌∷◌, ⊤, Option, MatchOption}
use Rattle.ibc_ledger.specs.LedgerModel.{LedgerModel}
use Rattle.ibc_world_core.specs.WorldAudits.{HaveStayed}

-- some ledgers of a world
pub record LedgersModel : Type 0 where
  pub number : ℕ
  pub ledgers : List LedgerModel

-- of one table and one genesis
abbrev pub HaveOneTable : LedgerModel → LedgerModel → Type 0
HaveOneTable a b = (a.table ≡ b.table) × (a.ledger.genesis ≡ b.ledger.genesis)

-- the ledger is of the world of the others, if there are others
abbrev pub Joins : LedgerModel → List LedgerModel → Type 0
Joins ledger [] = ⊤
Joins ledger (first ∷ others) = HaveOneTable ledger first

-- the same ledgers, under the same number, which have at most seen more
abbrev pub AreStill : LedgersModel → LedgersModel → Type 0
AreStill old new = (new.number ≡ old.number) × HaveStayed old.ledgers new.ledgers

-- the first ledger was taken out, or there is none
abbrev pub IsFirstTaken : LedgersModel → Option LedgerModel → LedgersModel → Type 0
IsFirstTaken old taken new =
    MatchOption taken ((old.ledgers ≡ []) × (new ≡ old))
    (λ ledger. (old.ledgers ≡ ledger ∷ new.ledgers) × (new.number ≡ old.number))

-- with this ledger behind the others
abbrev pub with_ledger : LedgersModel → LedgerModel → LedgersModel
with_ledger all ledger = record all { ledgers = all.ledgers ++ ledger ∷ [] }
