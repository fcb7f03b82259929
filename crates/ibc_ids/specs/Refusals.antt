-- The numbers of the refusals.
use Rattle.std.specs.Prelude.{ℕ}
use Rattle.ibc_ids.specs.declared.refusal.Refusal.{Refusal}
use Rattle.ibc_ids.specs.declared.refusal.Refusal.TheVariants as refusal

-- the number by which a refusal is printed
abbrev pub number_of : Refusal → ℕ
number_of refusal.NoMemory = 1
number_of refusal.BadName = 2
number_of refusal.UnknownChain = 3
number_of refusal.OwnChain = 4
number_of refusal.UnknownClient = 5
number_of refusal.NotPublished = 6
number_of refusal.WrongHeader = 7
number_of refusal.UnknownConnection = 8
number_of refusal.WrongState = 9
number_of refusal.WrongPeer = 10
number_of refusal.NoConsensus = 11
number_of refusal.BadProof = 12
number_of refusal.WrongSelfClient = 13
number_of refusal.UnknownPort = 14
number_of refusal.UnknownChannel = 15
number_of refusal.WrongOrder = 16
number_of refusal.WrongVersion = 17
number_of refusal.NoTimeout = 18
number_of refusal.TimeoutPassed = 19
number_of refusal.AlreadyReceived = 20
number_of refusal.OutOfOrder = 21
number_of refusal.NoCommitment = 22
number_of refusal.NotTimedOut = 23
number_of refusal.TooLarge = 24
number_of refusal.Poor = 25
number_of refusal.CloseRefused = 26
number_of refusal.TimeBack = 27
number_of refusal.TableFull = 28
number_of refusal.NumberFull = 29
number_of refusal.BadMessage = 30
number_of refusal.Pruned = 31
