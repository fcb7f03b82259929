-- What is planned so far, and for the ends that the iterator has left, is all; and each of those stands under its name.
use Rattle.std.proofs.Common.{◌≡◌, ◌++◌, ◌||◌, Some, is_some}
use Rattle.std.specs.List.{AllByRecursion, filter_map, flat_map}
use Rattle.ibc_ids.specs.Texts.{Text, text_cmp, pair_cmp}
use Rattle.ibc_ids.specs.Maps.{at}
use Rattle.ibc_machine.specs.ics18.Relay.{pending_at, pending_message}
use Rattle.ibc_relayer.specs.UsedClients.{is_over_client}
use Rattle.ibc_relayer.proofs.planning.plan_ends.Given as goal

abbrev pub invariant-loop-end : goal.invariant-loop-end
invariant-loop-end l = record {
  planned : l.messages.items ++ filter_map (pending_message l.a l.b) (flat_map (pending_at l.a l.b) l.end-iterator) ≡ filter_map (pending_message l.a l.b) (flat_map (pending_at l.a l.b) l.b.core.channels);
  used : (id : Text) → (is_over_client l.b id (flat_map (pending_at l.a l.b) l.end-iterator) || is_some (at text_cmp id l.used.entries)) ≡ is_over_client l.b id (flat_map (pending_at l.a l.b) l.b.core.channels);
  there : AllByRecursion (λ e. at pair_cmp e.0 l.b.core.channels ≡ Some e.1) l.end-iterator;
}
