-- All is told of this entry.
use Rattle.std.proofs.Common.{refl}
use Rattle.ibc_explain.proofs.explanation.explained_entry.Goals as goal

pub returns : goal.returns
returns c = record {
  place = refl;
  entry = refl;
  packet = c.facts_of.ensures.packet;
  outcome = c.outcome_of.ensures;
  client = c.facts_of.ensures.client;
  tracked = c.facts_of.ensures.tracked;
  height = c.facts_of.ensures.height;
  sender = c.in_ok-sender.ensures;
}
