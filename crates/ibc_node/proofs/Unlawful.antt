-- Where the entries of a journal aren't a lawful run.
use Rattle.std.proofs.Common.{◌≡◌, ℕ, ◌+◌, ◌≤◌, List, [], ◌∷◌, ◌++◌, length, take, slice_get, Some, refl, sym, ap, ◌∙◌, subst, length-append, arith}
use Rattle.std.specs.Prelude.{Result, Ok, Err, IfErr}
use Rattle.std.proofs.lemmas.List.{length-take-le}
use Rattle.std.proofs.lemmas.Option.{slice_get_within}
use Rattle.ibc_machine.specs.declared.event.Event.{Event}
use Rattle.ibc_machine.specs.declared.entry.Entry.{Entry}
use Rattle.ibc_machine.specs.ledger.Ledgers.{chain_of}
use Rattle.ibc_machine.specs.chain.Genesis.{GenesisState}
use Rattle.ibc_refinement.specs.World.{WorldState}
use Rattle.ibc_refinement.proofs.ChangedPlaces.{get_last}
use Rattle.ibc_replay.specs.declared.replaying.Difference.{Difference}
use Rattle.ibc_replay.specs.declared.replaying.Difference.TheVariants.{NoGenesis, NoMemory, At, UnknownChain}
use Rattle.ibc_replay.specs.Replays.{GoesOnAsStored, IsBeginning, entry_of, StopsBy, StopsAt}
use Rattle.ibc_replay.proofs.StoredSteps.{stops}
use Rattle.ibc_journal.specs.Tables.{JournalItem}
use Rattle.ibc_node.specs.declared.unread.Unread.{Unread}
use Rattle.ibc_node.specs.declared.unread.Unread.TheVariants.{Fault, Differs}
use Rattle.ibc_node.specs.Kept.{IsKeptAs, AreKeptAs, HasReplayed}
use Rattle.ibc_node.specs.Nodes.{IsGenesisText}
use Rattle.ibc_node.specs.Audits.{IfDiffers, OnDiffers, IsUnreadBy, StopsAtItem, StopsAsKept, IsUnlawful}
use Rattle.ibc_node.proofs.Beside.{kept_next}

-- ---- where a journal isn't read on

pub on_differs : (Holds : Difference → Type 0) (P : Type 0) (unread : Unread) → P → IfDiffers Holds unread → OnDiffers P unread
on_differs Holds P (Fault why) p differs = tt
on_differs Holds P (Differs why) p differs = p

pub differs_then : (P Q : Type 0) (unread : Unread) → (P → Q) → OnDiffers P unread → OnDiffers Q unread
differs_then P Q (Fault why) f p = tt
differs_then P Q (Differs why) f p = f p

-- ---- a list of one entry

one_there : (entry other : Entry) (index : ℕ) → slice_get (entry ∷ []) index ≡ Some other → (index ≡ 0) × (entry ≡ other)
one_there entry other index there =
    let low = slice_get_within (entry ∷ []) index other there in
    let first : index ≡ 0 = omega (arith, low) in
    let both : Some entry ≡ Some other = sym (get_last [] entry) ∙ subst (λ n. slice_get (entry ∷ []) n ≡ Some other) first there in
    let same : entry ≡ other = cc in
    (first, same)

stays : (old mid : WorldState) (entry : Entry) (index : ℕ) → index ≡ 0 → GoesOnAsStored old (take index (entry ∷ [])) mid → mid ≡ old
stays old mid entry index first goes =
    let nowhere : GoesOnAsStored old [] mid = subst (λ n. GoesOnAsStored old (take n (entry ∷ [])) mid) first goes in
    nowhere.steps

pub stops_alone : (old new : WorldState) (place : ℕ) (entry : Entry) (list : List Entry) (why : Difference) (unread : Unread) → list ≡ entry ∷ [] → StopsBy old place list why new → IsUnreadBy why unread
    → IfDiffers (λ it. StopsAt old place entry it new) unread
stops_alone old new place entry list (At here due stored) unread alone stopped told =
    let stop : StopsBy old place (entry ∷ []) (At here due stored) new = subst (λ l. StopsBy old place l (At here due stored) new) alone stopped in
    let it = one_there entry (entry_of stop.1 stored) stop.0 stop.4.next in
    let first = it.0 in
    let at = stop.3 in
    let same : stop.2 ≡ old = stays old stop.2 entry stop.0 first stop.4.goes_on in
    let event : entry.event ≡ stop.1 = ap (λ (e : Entry). e.event) it.1 in
    let here_is : here ≡ place = omega (arith, at, first) in
    let kept : entry ≡ entry_of entry.event stored = it.1 ∙ ap (λ (e : Event). entry_of e stored) (sym event) in
    let goes : GoesOnAsStored old (entry_of entry.event due ∷ []) new =
    subst (λ (e : Event). GoesOnAsStored old (entry_of e due ∷ []) new) (sym event) (subst (λ (w : WorldState). GoesOnAsStored w (entry_of stop.1 due ∷ []) new) same stop.5) in
    subst (IfDiffers (λ it. StopsAt old place entry it new)) (sym told) (tt, (here_is, kept, goes, stop.6))
stops_alone old new place entry list (UnknownChain here stored) unread alone stopped told =
    let stop : StopsBy old place (entry ∷ []) (UnknownChain here stored) new = subst (λ l. StopsBy old place l (UnknownChain here stored) new) alone stopped in
    let it = one_there entry (entry_of stop.1 stored) stop.0 stop.3.next in
    let first = it.0 in
    let at = stop.2 in
    let same : new ≡ old = stays old new entry stop.0 first stop.3.goes_on in
    let event : entry.event ≡ stop.1 = ap (λ (e : Entry). e.event) it.1 in
    let here_is : here ≡ place = omega (arith, at, first) in
    let kept : entry ≡ entry_of entry.event stored = it.1 ∙ ap (λ (e : Event). entry_of e stored) (sym event) in
    let past : length old.ledgers ≤ chain_of entry.event =
    subst (λ (e : Event). length old.ledgers ≤ chain_of e) (sym event) (subst (λ (w : WorldState). length w.ledgers ≤ chain_of stop.1) same stop.4) in
    subst (IfDiffers (λ it. StopsAt old place entry it new)) (sym told) (tt, (here_is, kept, same, past))
stops_alone old new place entry list NoMemory unread alone stopped told = subst (IfDiffers (λ it. StopsAt old place entry it new)) (sym told) tt
stops_alone old new place entry list NoGenesis unread alone stopped told = absurd stopped

pub stops_item : {A : Type 0} (old new : WorldState) (place : ℕ) (entry : Entry) (it : JournalItem) (r : Result A Unread) → IsKeptAs entry it
    → IfErr r (IfDiffers (λ why. StopsAt old place entry why new)) → IfErr r (IfDiffers (StopsAtItem old place it new))
stops_item old new place entry it (Ok a) kept stops = tt
stops_item old new place entry it (Err (Fault why)) kept stops = tt
stops_item old new place entry it (Err (Differs why)) kept stops = (stops.0, (entry, kept, stops.1))

-- ---- a list that is gone through

pub as_many : (entries : List Entry) (items : List JournalItem) → AreKeptAs entries items → length entries ≡ length items
as_many [] [] kept = refl
as_many [] (i ∷ items) kept = absurd kept
as_many (e ∷ entries) [] kept = absurd kept
as_many (e ∷ entries) (i ∷ items) kept = let rest = as_many entries items kept.1 in omega (arith, rest)

pub stops_as_kept : (items : List JournalItem) (place : ℕ) (beginning mid new : WorldState) (it : JournalItem) (unread : Unread) → HasReplayed beginning (take place items) mid → Some it ≡ slice_get items place
    → IfDiffers (StopsAtItem mid place it new) unread → IfDiffers (StopsAsKept beginning items) unread
stops_as_kept items place beginning mid new it (Fault why) so_far there stop = tt
stops_as_kept items place beginning mid new it (Differs why) so_far there stop =
    let entry = stop.1.0 in
    let list = so_far.past ++ entry ∷ [] in
    let low = slice_get_within items place it (sym there) in
    let short = length-take-le place items (omega (arith, low)) in
    let many = as_many so_far.past (take place items) so_far.kept in
    let long = length-append so_far.past (entry ∷ []) in
    let here : place ≡ 0 + length so_far.past = omega (arith, many, short) in
    let next : length list ≡ place + 1 = omega (arith, long, many, short) in
    let stopped : StopsAsKept beginning items why = record {
      list = list;
      kept = subst (λ n. AreKeptAs list (take n items)) (sym next) (kept_next so_far.past items place entry it so_far.kept (sym there) stop.1.1);
      world = new;
      stops = stops beginning mid new 0 so_far.past [] list entry so_far.goes_on refl place why here stop.1.2;
    } in
    (stop.0, stopped)

pub unlawful : (text : List ℕ) (items : List JournalItem) (genesis : GenesisState) (beginning : WorldState) (unread : Unread) → IsGenesisText text genesis → IsBeginning genesis beginning
    → IfDiffers (StopsAsKept beginning items) unread → IfDiffers (IsUnlawful text items) unread
unlawful text items genesis beginning (Fault why) is begins stops = tt
unlawful text items genesis beginning (Differs why) is begins stops = (stops.0, record { genesis = genesis; text_is = is; beginning = beginning; begins = begins; stops = stops.1 })
