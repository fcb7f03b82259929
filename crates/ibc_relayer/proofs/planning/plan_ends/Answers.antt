-- What is planned for the end at the place is added.
use Rattle.std.proofs.Common.{◌≡◌, ◌++◌, ◌∙◌, ◌||◌, List, Some, is_some, sym, ap, subst}
use Rattle.std.proofs.Math.Bool.{or-false}
use Rattle.std.specs.FinMap.{is_sorted}
use Rattle.std.specs.List.{AllByRecursion, filter_map, flat_map}
use Rattle.ibc_ids.specs.Texts.{Text, text_cmp, pair_cmp}
use Rattle.ibc_ids.specs.Maps.{at}
use Rattle.ibc_wire.specs.declared.messages.Message.{Message}
use Rattle.ibc_machine.specs.chain.Records.{Core, Channel}
use Rattle.ibc_machine.specs.ics18.Relay.{pending_at, pending_message}
use Rattle.ibc_machine.proofs.FiniteMaps.{pair_cmp_total}
use Rattle.ibc_machine.proofs.SortedMaps.{Sorted-from}
use Rattle.ibc_relayer.specs.EndPairs.{IsEndPair, IsFoundEndPair}
use Rattle.ibc_relayer.specs.UsedClients.{is_over_client}
use Rattle.ibc_relayer.proofs.PlannedMessages.{one_end, one_used, same_messages, same_over, each_there}
use Rattle.ibc_relayer.proofs.planning.plan_ends.Goals as goal

pub loop-end-init : goal.loop-end-init
loop-end-init c =
    let a = c.args.a.now in
    let b = c.args.b.now in
    let pairs : c.channels-all.result.now.pairs ≡ b.core.channels = c.channels-all.ensures ∙ ap (λ (core : Core). core.channels) c.plain.ensures in
    let all : c.into_iter-end-iterator.result ≡ b.core.channels = c.into_iter-end-iterator.ensures.into_iter_gives ∙ c.iter-end-items.ensures ∙ pairs in
    record {
      planned = λ i. c.requires.empty i ++ filter_map (pending_message a b) (flat_map (pending_at a b) (all i));
      used = λ id. (λ i. is_over_client b id (flat_map (pending_at a b) (all i)) || is_some (at text_cmp id (c.new-used.ensures.empty i))) ∙ or-false (is_over_client b id (flat_map (pending_at a b) b.core.channels));
      there = subst (λ (es : List ((Text × Text) × Channel)). AllByRecursion (λ e. at pair_cmp e.0 b.core.channels ≡ Some e.1) es) (sym all)
          (each_there pair_cmp_total b.core.channels (Sorted-from pair_cmp b.core.channels (ap (is_sorted pair_cmp) (sym pairs) ∙ c.lemma_in_order.ensures)));
    }

pub loop-end-preserved-in-Continue-branch-3 : goal.loop-end-preserved-in-Continue-branch-3
loop-end-preserved-in-Continue-branch-3 c =
    let a = c.args.a.now in
    let b = c.args.b.now in
    let place = c.in-Some.end.now in
    let mine = c.in-Some.mine.now in
    let e : (Text × Text) × Channel = (place, mine) in
    let rest = c.next.new.self in
    let ends = c.in-Some-2.ends in
    let are : IsEndPair a b place.0 place.1 mine ends = subst (IsFoundEndPair a b place.0 place.1 mine) c.in-Some-2.is c.in_ok-ends.ensures.ok in
    let before = c.loop-end.messages.items in
    let used = c.loop-end.used.entries in
    let steps = c.in-Some.ensures.steps in
    record {
      planned = one_end a b before c.plan_end.new.messages.items e rest
          (ap (λ (left : List ((Text × Text) × Channel)). before ++ filter_map (pending_message a b) (flat_map (pending_at a b) left)) (sym steps) ∙ c.loop-end.invariant.planned)
          (c.in_ok-plan_end.ensures.ok ∙ ap (λ (ms : List Message). before ++ ms) (same_messages a b place.0 place.1 mine ends are));
      used = λ id. one_used a b id (is_some (at text_cmp id used)) (is_some (at text_cmp id c.plan_end.new.used.entries)) e rest
          (ap (λ (left : List ((Text × Text) × Channel)). is_over_client b id (flat_map (pending_at a b) left) || is_some (at text_cmp id used)) (sym steps) ∙ c.loop-end.invariant.used id)
          (c.in_ok-plan_end.ensures.used id ∙ ap (λ x. x || is_some (at text_cmp id used)) (same_over a b place.0 place.1 mine ends id are));
      there = (subst (AllByRecursion (λ (e : (Text × Text) × Channel). at pair_cmp e.0 b.core.channels ≡ Some e.1)) steps c.loop-end.invariant.there).1;
    }
