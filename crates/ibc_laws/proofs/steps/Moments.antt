-- A run goes through each of its events: before it stood one world, and behind it another.
use Rattle.std.proofs.Common.{◌≡◌, true, refl, subst, List, [], ◌∷◌, ◌++◌, map}
use Rattle.std.specs.List.{list_all}
use Rattle.ibc_machine.specs.chain.Genesis.{GenesisState, start}
use Rattle.ibc_machine.specs.chain.Machine.{World, Step, IsRun}
use Rattle.ibc_machine.specs.ledger.Ledgers.{is_typed}
use Rattle.ibc_machine.specs.promises.Histories.{Happened}
use Rattle.ibc_laws.specs.Moments.{EachMoment}
use Rattle.ibc_laws.proofs.basics.PassedTests.{both, and_true}

abbrev RunOf : GenesisState → World → List Happened → World → Type 0
RunOf genesis old happened new =
    IsRun genesis old (map (λ (h : Happened). h.0) happened) (map (λ (h : Happened). h.1) happened) new

record Split (genesis : GenesisState) (old : World) (before : List Happened) (h : Happened) (after : List Happened) (new : World) : Type 0 where
  mid : World
  next : World
  front : RunOf genesis old before mid
  step : Step genesis mid h.0 h.1 next
  rest : RunOf genesis next after new

split : (genesis : GenesisState) (old : World) (before : List Happened) (h : Happened) (after : List Happened) (new : World)
    → RunOf genesis old (before ++ h ∷ after) new → Split genesis old before h after new
split genesis old [] h after new run = record { mid = old; next = run.0; front = refl; step = run.1; rest = run.2 }
split genesis old (b ∷ before) h after new run =
    let s = split genesis run.0 before h after new run.2 in
    record { mid = s.mid; next = s.next; front = (run.0, run.1, s.front); step = s.step; rest = s.rest }

abbrev AreTyped : List Happened → Type 0
AreTyped happened = list_all (λ (h : Happened). is_typed h.0) happened ≡ true

lemma_typed_parts : (before : List Happened) (h : Happened) (after : List Happened) → AreTyped (before ++ h ∷ after)
    → AreTyped before × (is_typed h.0 ≡ true)
lemma_typed_parts [] h after typed = (refl, (both (is_typed h.0) _ typed).0)
lemma_typed_parts (b ∷ before) h after typed =
    let first = both (is_typed b.0) _ typed in
    let rest = lemma_typed_parts before h after first.1 in
    (and_true first.0 rest.0, rest.1)

pub lemma_each_moment : EachMoment
lemma_each_moment genesis happened world before h after past is =
    let run = subst (λ hs. RunOf genesis (start genesis) hs world) is past.run in
    let s = split genesis (start genesis) before h after world run in
    let typed = lemma_typed_parts before h after (subst AreTyped is past.typed) in (
      s.mid,
      s.next,
      record {
        after = after;
        split = is;
        typed = typed.1;
        past = record { allowed = past.allowed; typed = typed.0; run = s.front };
        step = s.step;
        run = s.rest;
      },
    )
