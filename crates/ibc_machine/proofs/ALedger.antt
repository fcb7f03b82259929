-- A ledger that ended a block and was told of a height of another chain is what every ledger is to be.
use Rattle.std.proofs.Common.{true, List, [], ◌∷◌, refl, Some, None, arith}
use Rattle.ibc_ids.specs.Texts.{Text}
use Rattle.ibc_ids.specs.declared.publication.Publication.{Publication}
use Rattle.ibc_ids.specs.declared.refusal.Refusal.TheVariants.{UnknownChain}
use Rattle.ibc_wire.specs.declared.header.Header.{Header}
use Rattle.ibc_wire.specs.declared.messages.Message.TheVariants as message
use Rattle.ibc_machine.specs.declared.event.Event.TheVariants as event
use Rattle.ibc_machine.specs.declared.reply.Effect.TheVariants as effect
use Rattle.ibc_machine.specs.declared.reply.Reply.TheVariants as reply
use Rattle.ibc_machine.specs.ics24.Image.{core_root}
use Rattle.ibc_machine.specs.chain.Genesis.{empty_core}
use Rattle.ibc_machine.specs.ledger.Replay.{StampedEntry}
use Rattle.ibc_machine.specs.ledger.Ledgers.{Ledger, IsLedger}
use Rattle.ibc_machine.proofs.Computing.{computing, hashing}
use Rattle.ibc_machine.proofs.Scripts.{a, b, first, a_and_b, create, block, new_client, done, no}

-- both chains begin with the same provable store
abbrev root : Text
root = core_root empty_core

-- b published its height 1, and then a did
abbrev of_b : Publication
of_b = record { chain = 1; root = root; time = 100 }

abbrev of_a : Publication
of_a = record { chain = 0; root = root; time = 100 }

abbrev header : Header
header = record { chain = 1; height = 1; time = 100; root = root }

abbrev history : List StampedEntry
history =
    record { entry = record { event = block a; reply = reply.Ok (effect.Block 1 root); reading = None }; stamp = Some 2 }
    ∷ record { entry = record { event = create a b; reply = new_client a.client; reading = None }; stamp = None }
    ∷ record {
      entry = record {
        event = event.Message 0 (message.UpdateClient (record { client = a.client; header = header }));
        reply = done;
        reading = Some (record { published = 1; row_was_there = Some true });
      };
      stamp = Some 2;
    }
    ∷ record { entry = record { event = create a (first 7); reply = no UnknownChain; reading = None }; stamp = None }
    ∷ []

abbrev a_ledger : Ledger
a_ledger = record { genesis = a_and_b; chain = 0; history = history; seen = of_b ∷ of_a ∷ [] }

it_is_one : IsLedger a_ledger
unfolding computing hashing
it_is_one = record {
  number = omega arith;
  entries = (
    record { event = refl; reply = refl; looking = refl; reading = tt; block = λ _. (1, of_a, refl, refl, refl); stamped = refl },
    (
      record { event = refl; reply = refl; looking = refl; reading = tt; block = λ e. absurd (cc e); stamped = refl },
      (
        record { event = refl; reply = refl; looking = refl; reading = (header, 2, refl, refl, omega arith, refl); block = λ e. absurd (cc e); stamped = refl },
        (record { event = refl; reply = refl; looking = refl; reading = tt; block = λ e. absurd (cc e); stamped = refl }, tt),
      ),
    ),
  );
  published = refl;
  stamps = ((omega arith, λ _. omega arith), (tt, ((omega arith, λ e. absurd (cc e)), (tt, tt))));
  small = (omega arith, tt);
}
