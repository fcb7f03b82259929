-- What is told of events is of what the world keeps.
use Rattle.std.proofs.Common.{◌≡◌, inl, inr, ℕ, zero, suc, List, [], ◌∷◌, ◌++◌, length, refl, sym, ap, ◌∙◌, subst, append-nil, Option, Some, None, slice_get, arith}
use Rattle.std.specs.Prelude.{IfSome, option_map}
use Rattle.sqlite.specs.State.{State, HasCleanDisk}
use Rattle.sqlite.specs.Held.{Held}
use Rattle.ibc_machine.specs.declared.event.Event.{Event}
use Rattle.ibc_machine.specs.declared.reply.Reply.{Reply}
use Rattle.ibc_machine.specs.declared.entry.Entry.{Entry}
use Rattle.ibc_machine.specs.ledger.Ledgers.{chain_of}
use Rattle.ibc_refinement.specs.World.{WorldState, kept_entries}
use Rattle.ibc_refinement.proofs.ChangedPlaces.{get_last, get_more}
use Rattle.ibc_replay.proofs.StoredSteps.{steps_keep_genesis}
use Rattle.ibc_entry_codec.proofs.StoredEntries.{of_one_entry}
use Rattle.ibc_journal.specs.declared.cursor.Cursor.{Cursor}
use Rattle.ibc_journal.specs.declared.entry.JournalEntry.{JournalEntry}
use Rattle.ibc_journal.specs.Entries.{item}
use Rattle.ibc_journal.specs.Tables.{JournalItem}
use Rattle.ibc_node.specs.declared.keeping.Asked.{Asked}
use Rattle.ibc_node.specs.declared.keeping.Asked.TheVariants as asked
use Rattle.ibc_node.specs.declared.node.KeptAnswer.{KeptAnswer}
use Rattle.ibc_node.specs.declared.node.Node.{Node}
use Rattle.ibc_node.specs.Kept.{bytes_in, IsKeptAs, AreKeptAs, KeepsItem, IsAskedInVain, IsAsked}
use Rattle.ibc_node.specs.Nodes.{IsBeside, HasGrown, HasAnswerAt, IsToldIn, AreToldIn, IsToldOf, StaysBeside, TellsOn, node_journal, node_world, with_waiting, HasKept}
use Rattle.ibc_node.proofs.Unlawful.{as_many}
use Rattle.ibc_node.proofs.Staying.{keeps_on}

-- ---- one event

vain_genesis : (old new : WorldState) (event : Event) → IsAskedInVain old event new → new.genesis ≡ old.genesis
vain_genesis old new event (inl same) = ap (λ (w : WorldState). w.genesis) same
vain_genesis old new event (inr it) = steps_keep_genesis (event ∷ []) (it.0 ∷ []) old new it.2

pub grown_asked : (old new : WorldState) (before : List ℕ) (event : Event) (what : Asked) → IsAsked old before event what new → HasGrown old new
grown_asked old new before event (asked.Kept reply entry) is = record {
  genesis = steps_keep_genesis (event ∷ []) (reply ∷ []) old new is.steps;
  more = is.entry ∷ [];
  kept = is.kept;
}
grown_asked old new before event (asked.NotKept refusal) is = record {
  genesis = vain_genesis old new event is.2;
  more = [];
  kept = is.0 ∙ sym (append-nil (kept_entries old));
}

pub told_none : (world : WorldState) (chain : ℕ) (answer : KeptAnswer) → answer.place ≡ None → IsToldIn world (chain, answer)
told_none world chain answer none = subst (λ p. IfSome p (λ place. HasAnswerAt world place chain answer.reply)) (sym none) tt

-- the entry that the world kept last stands behind those of before
pub told_item : (genesis : List ℕ) (items : List JournalItem) (old new : WorldState) (end : Cursor) (before : List ℕ) (event : Event) (reply : Reply) (it : JournalItem) (place : ℕ) → IsBeside genesis old items end
    → KeepsItem old before event reply it new → place ≡ end.place → HasAnswerAt new place (chain_of event) reply
told_item genesis items old new end before event reply it place beside keeps is =
    let many = as_many (kept_entries old) items beside.kept in
    let last = beside.read.1 in
    let at : place ≡ length (kept_entries old) = omega (arith, is, many, last) in
    let list = kept_entries old ++ keeps.entry ∷ [] in
    let there : slice_get list place ≡ Some keeps.entry = subst (λ n. slice_get list n ≡ Some keeps.entry) (sym at) (get_last (kept_entries old) keeps.entry) in
    record {
      entry = keeps.entry;
      there = subst (λ l. slice_get l place ≡ Some keeps.entry) (sym keeps.kept) there;
      chain_is = ap chain_of keeps.event_is;
      reply_is = keeps.reply_is;
    }

-- ---- an entry that is read back

kept_there : (entries : List Entry) (items : List JournalItem) (place : ℕ) (it : JournalItem) → AreKeptAs entries items → slice_get items place ≡ Some it → (e : Entry) × (slice_get entries place ≡ Some e) × IsKeptAs e it
kept_there [] [] place it kept there = absurd (cc)
kept_there [] (i ∷ items) place it kept there = absurd kept
kept_there (e ∷ entries) [] place it kept there = absurd kept
kept_there (e ∷ entries) (i ∷ items) zero it kept there = let same : i ≡ it = cc in (e, refl, subst (IsKeptAs e) same kept.0)
kept_there (e ∷ entries) (i ∷ items) (suc place) it kept there = kept_there entries items place it kept.1 there

-- what is told of an entry that the journal has is what the world has there
pub told_of : (world : WorldState) (items : List JournalItem) (place : ℕ) (found : Option JournalEntry) (entry : JournalEntry) (told : ℕ × KeptAnswer) → AreKeptAs (kept_entries world) items → found ≡ Some entry
    → option_map item found ≡ slice_get items place → IsToldOf place (item entry) told → IsToldIn world told
told_of world items place found entry told kept is has its =
    let at : slice_get items place ≡ Some (item entry) = sym has ∙ ap (option_map item) is in
    let there = kept_there (kept_entries world) items place (item entry) kept at in
    let one : its.entry ≡ there.0 = of_one_entry its.entry there.0 (bytes_in (item entry)) its.kept there.2 in
    subst (λ p. IfSome p (λ n. HasAnswerAt world n told.0 told.1.reply)) (sym its.place_is) (record {
      entry = its.entry;
      there = there.1 ∙ ap Some (sym one);
      chain_is = its.chain_is;
      reply_is = its.reply_is;
    })

-- ---- answers

told_later : (old new : WorldState) (chain : ℕ) (reply : Reply) (place : Option ℕ) → HasGrown old new → IfSome place (λ n. HasAnswerAt old n chain reply) → IfSome place (λ n. HasAnswerAt new n chain reply)
told_later old new chain reply None grown has = tt
told_later old new chain reply (Some n) grown has = record {
  entry = has.entry;
  there = subst (λ l. slice_get l n ≡ Some has.entry) (sym grown.kept) (get_more (kept_entries old) grown.more n has.entry has.there);
  chain_is = has.chain_is;
  reply_is = has.reply_is;
}

-- what was told stays so
pub are_told_later : (old new : WorldState) (answers : List (ℕ × KeptAnswer)) → HasGrown old new → AreToldIn old answers → AreToldIn new answers
are_told_later old new [] grown told = tt
are_told_later old new (it ∷ answers) grown told = (told_later old new it.0 it.1.reply it.1.place grown told.0, are_told_later old new answers grown told.1)

pub told_both : (world : WorldState) (xs ys : List (ℕ × KeptAnswer)) → AreToldIn world xs → AreToldIn world ys → AreToldIn world (xs ++ ys)
told_both world [] ys first second = second
told_both world (x ∷ xs) ys first second = (first.0, told_both world xs ys first.1 second)

pub told_front : (world : WorldState) (xs ys : List (ℕ × KeptAnswer)) → AreToldIn world (xs ++ ys) → AreToldIn world xs
told_front world [] ys told = tt
told_front world (x ∷ xs) ys told = (told.0, told_front world xs ys told.1)

pub told_back : (world : WorldState) (xs ys : List (ℕ × KeptAnswer)) → AreToldIn world (xs ++ ys) → AreToldIn world ys
told_back world [] ys told = told
told_back world (x ∷ xs) ys told = told_back world xs ys told.1

-- ---- a node

module _ {S : Type 0} (shows : Held S → State) where
  -- nothing is told but what was told before
  pub tells_same : (old new : Node S) (answers : List (ℕ × KeptAnswer)) → StaysBeside shows old new → TellsOn shows old answers new answers
  tells_same old new answers stays = record {
    stays = stays;
    told = λ text items rest kept clean before. are_told_later (node_world old) (node_world new) answers stays.grown before;
  }

  pub tells_on : (a b c : Node S) (x y z : List (ℕ × KeptAnswer)) → TellsOn shows a x b y → TellsOn shows b y c z → TellsOn shows a x c z
  tells_on a b c x y z one two =
      let calmer = one.stays.calm in
      let calmest = two.stays.calm in
      record {
        stays = keeps_on shows a b c one.stays two.stays;
        told = λ text items rest kept clean before.
            let calm : HasCleanDisk (node_journal shows b) = omega (arith, calmest, clean) in
            let mid = one.stays.keeps text items rest kept calm in
            two.told text (items ++ mid.0) mid.1 mid.2 clean (one.told text items rest kept calm before);
      }

  -- what is told more stands behind what was told
  pub tells_behind : (a b : Node S) (x y z : List (ℕ × KeptAnswer)) → TellsOn shows a y b z → TellsOn shows a (x ++ y) b (x ++ z)
  tells_behind a b x y z tells = record {
    stays = tells.stays;
    told = λ text items rest kept clean before.
        told_both (node_world b) x z (are_told_later (node_world a) (node_world b) x tells.stays.grown (told_front (node_world a) x y before))
        (tells.told text items rest kept clean (told_back (node_world a) x y before));
  }

  -- one call tells some, and the next tells more
  pub tells_more : (a b c : Node S) (x y z : List (ℕ × KeptAnswer)) → TellsOn shows a x b y → TellsOn shows b [] c z → TellsOn shows a x c (y ++ z)
  tells_more a b c x y z one two =
      let behind = tells_behind b c y [] z two in
      tells_on a b c x y (y ++ z) one (subst (λ l. TellsOn shows b l c (y ++ z)) (append-nil y) behind)

  -- an event was asked for, and what came of it is told
  pub tells_taken : (old new : Node S) (told : ℕ × KeptAnswer) → StaysBeside shows old new → ((text : List ℕ) (items : List JournalItem) → HasKept text items old → IsToldIn (node_world new) told) → TellsOn shows old [] new (told ∷ [])
  tells_taken old new told stays is = record {
    stays = stays;
    told = λ text items rest kept clean none. (is text (with_waiting items old) kept, tt);
  }
