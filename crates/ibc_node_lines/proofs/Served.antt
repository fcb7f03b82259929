-- What is written tells of what the world keeps, call by call.
use Rattle.std.proofs.Common.{◌≡◌, inl, ℕ, Bool, true, false, List, [], ◌∷◌, ◌++◌, refl, sym, ap, ◌∙◌, subst, append-nil, append_assoc, Option, Result, Ok, Err, IfOk, OnOk}
use Rattle.std.specs.Prelude.{MatchResult}
use Rattle.std.specs.Io.KnownBytes.{Appends}
use Rattle.std.specs.List.{AllByRecursion}
use Rattle.std.proofs.lemmas.List.Concat.{flat_map-append}
use Rattle.sqlite.specs.State.{State}
use Rattle.sqlite.specs.Held.{Held}
use Rattle.ibc_ids.specs.Texts.{Text}
use Rattle.ibc_script_cli.proofs.Writing.{appends_both, nothing_more}
use Rattle.ibc_node.specs.declared.node.Node.{Node}
use Rattle.ibc_node.specs.Nodes.{StaysBeside, TellsOn, node_end}
use Rattle.ibc_node.proofs.Staying.{keeps_same}
use Rattle.ibc_node.proofs.Told.{tells_behind, tells_on, tells_same}
use Rattle.ibc_node_lines.specs.declared.line_fault.LineFault.{LineFault}
use Rattle.ibc_node_lines.specs.declared.lines.NodeLine.{NodeLine}
use Rattle.ibc_node_lines.specs.declared.lines.NodeLine.TheVariants as line
use Rattle.ibc_node_lines.specs.OtherLines.{IsMistakenLine}
use Rattle.ibc_node_lines.specs.Sessions.{HasOneMore, HasTold, IsFairLine, ServesOn}
use Rattle.ibc_node_lines.specs.Told.{answers_in, answers_of, resumed_text}
use Rattle.ibc_node_lines.proofs.Texts.{lines_both}

-- two facts of what comes of a call
pub on_both : {T E P Q R : Type 0} (r : Result T E) → (P → Q → R) → OnOk r P → OnOk r Q → OnOk r R
on_both (Ok x) f p q = f p q
on_both (Err e) f p q = tt

answers_both : (xs ys : List NodeLine) → answers_in (xs ++ ys) ≡ answers_in xs ++ answers_in ys
answers_both xs ys = flat_map-append answers_of xs ys

answers_more : (xs : List NodeLine) (l : NodeLine) → answers_in (xs ++ l ∷ []) ≡ answers_in xs ++ answers_of l
answers_more xs l = answers_both xs (l ∷ []) ∙ ap (λ t. answers_in xs ++ t) (append-nil (answers_of l))

-- what is written and what waits, one call behind another
in_order : (xs ys x y z more most : List NodeLine) → xs ++ y ≡ x ++ more → ys ++ z ≡ y ++ most → (xs ++ ys) ++ z ≡ x ++ (more ++ most)
in_order xs ys x y z more most one two =
    append_assoc xs ys z ∙ ap (λ l. xs ++ l) two ∙ sym (append_assoc xs y most) ∙ ap (λ l. l ++ most) one ∙ append_assoc x more most

-- where none waited and none waits, those behind are all
only_more : (lines waited waiting more : List NodeLine) → waited ≡ [] → waiting ≡ [] → lines ++ waiting ≡ waited ++ more → lines ≡ more
only_more lines waited waiting more none left order = sym (append-nil lines) ∙ ap (λ l. lines ++ l) (sym left) ∙ order ∙ ap (λ l. l ++ more) none

-- a line that names what is wrong with another tells of no event
pub mistaken_tells_nothing : (number : ℕ) (why : LineFault) (told : NodeLine) → IsMistakenLine number why told → answers_of told ≡ []
mistaken_tells_nothing number why (line.Answers answers) is = absurd is
mistaken_tells_nothing number why (line.Other it) is = refl

pub mistaken_fair : (number : ℕ) (why : LineFault) (told : NodeLine) → IsMistakenLine number why told → IsFairLine told
mistaken_fair number why (line.Answers answers) is = tt
mistaken_fair number why (line.Other it) is = inl (number, why, is)

-- a line of a text, or of what is wrong with another
pub fair_other : {A E F : Type 0} (text : Result A F) (r : Result NodeLine E) (Holds : A → Type 0) (Is : A → NodeLine → Type 0) (Mistakes : F → NodeLine → Type 0) → IfOk text Holds
    → ((a : A) (told : NodeLine) → Holds a → Is a told → IsFairLine told) → ((why : F) (told : NodeLine) → Mistakes why told → IsFairLine told)
    → IfOk r (λ told. MatchResult text (λ a. Is a told) (λ why. Mistakes why told)) → IfOk r IsFairLine
fair_other (Ok a) (Ok told) Holds Is Mistakes holds one two is = one a told holds is
fair_other (Err why) (Ok told) Holds Is Mistakes holds one two is = two why told is
fair_other text (Err e) Holds Is Mistakes holds one two is = tt

all_both : {A : Type 0} (P : A → Type 0) (xs ys : List A) → AllByRecursion P xs → AllByRecursion P ys → AllByRecursion P (xs ++ ys)
all_both P [] ys one two = two
all_both P (x ∷ xs) ys one two = (one.0, all_both P xs ys one.1 two)

module _ {S : Type 0} (shows : Held S → State) where
  -- a line that tells of no event
  pub tells_nothing : {E : Type 0} (old new : Node S) (r : Result NodeLine E) → StaysBeside shows old new → IfOk r (λ l. answers_of l ≡ []) → IfOk r (λ l. TellsOn shows old [] new (answers_of l))
  tells_nothing old new (Ok l) stays none = subst (TellsOn shows old [] new) (sym none) (tells_same shows old new [] stays)
  tells_nothing old new (Err e) stays none = tt

  -- a line more waits
  pub waits_more : (old new : Node S) (xs zs : List NodeLine) (l : NodeLine) → zs ≡ xs ++ l ∷ [] → TellsOn shows old [] new (answers_of l) → TellsOn shows old (answers_in xs) new (answers_in zs)
  waits_more old new xs zs l is tells =
      let behind = tells_behind shows old new (answers_in xs) [] (answers_of l) tells in
      let front = subst (λ t. TellsOn shows old t new (answers_in xs ++ answers_of l)) (append-nil (answers_in xs)) behind in
      subst (TellsOn shows old (answers_in xs) new) (sym (ap answers_in is ∙ answers_more xs l)) front

  -- nothing is written
  pub serves_told : (old new : Node S) (waited waiting more : List NodeLine) (output : Option Text) → waiting ≡ waited ++ more → AllByRecursion IsFairLine more
      → TellsOn shows old (answers_in waited) new (answers_in waiting) → ServesOn shows old waited output new waiting output
  serves_told old new waited waiting more output order fair tells = record {
    lines = [];
    text = [];
    texts = ([], tt, refl);
    written = nothing_more output;
    more = more;
    order = order;
    fair = fair;
    tells = tells;
  }

  pub serves_same : (node : Node S) (waited : List NodeLine) (output : Option Text) → ServesOn shows node waited output node waited output
  serves_same node waited output = serves_told node node waited waited [] output (sym (append-nil waited)) tt (tells_same shows node node (answers_in waited) (keeps_same shows node))

  -- a line was answered, or there was none
  pub serves_next : (there : Bool) (old new : Node S) (waited waiting : List NodeLine) (output : Option Text) → HasOneMore there waited waiting → TellsOn shows old (answers_in waited) new (answers_in waiting)
      → ServesOn shows old waited output new waiting output
  serves_next true old new waited waiting output one tells = serves_told old new waited waiting (one.0 ∷ []) output one.2 (one.1, tt) tells
  serves_next false old new waited waiting output none tells = serves_told old new waited waiting [] output (none ∙ sym (append-nil waited)) tt tells

  pub serves_on : (a b c : Node S) (x y z : List NodeLine) (before mid after : Option Text) → ServesOn shows a x before b y mid → ServesOn shows b y mid c z after → ServesOn shows a x before c z after
  serves_on a b c x y z before mid after one two =
      let front = answers_in one.lines in
      let behind = tells_behind shows b c front (answers_in y) (answers_in (two.lines ++ z)) two.tells in
      let first : TellsOn shows a (answers_in x) b (front ++ answers_in y) = subst (TellsOn shows a (answers_in x) b) (answers_both one.lines y) one.tells in
      let both = tells_on shows a b c (answers_in x) (front ++ answers_in y) (front ++ answers_in (two.lines ++ z)) first behind in
      let answers : front ++ answers_in (two.lines ++ z) ≡ answers_in ((one.lines ++ two.lines) ++ z) =
      sym (answers_both one.lines (two.lines ++ z)) ∙ ap answers_in (sym (append_assoc one.lines two.lines z)) in
      record {
        lines = one.lines ++ two.lines;
        text = one.text ++ two.text;
        texts = lines_both one.lines two.lines one.text two.text one.texts two.texts;
        written = appends_both before mid after one.text two.text one.written two.written;
        more = one.more ++ two.more;
        order = in_order one.lines two.lines x y z one.more two.more one.order two.order;
        fair = all_both IsFairLine one.more two.more one.fair two.fair;
        tells = subst (TellsOn shows a (answers_in x) c) answers both;
      }

  -- the first line and then all others are written, and none waits
  pub has_told : (old new : Node S) (waited waiting : List NodeLine) (before mid after : Option Text) → ((log_place : ℕ) × Appends before mid (resumed_text (node_end old).place log_place))
      → waited ≡ [] → ServesOn shows old waited mid new waiting after → waiting ≡ [] → HasTold shows old before new after
  has_told old new waited waiting before mid after first none serves left = record {
    log_place = first.0;
    lines = serves.lines;
    text = serves.text;
    texts = serves.texts;
    written = appends_both before mid after (resumed_text (node_end old).place first.0) serves.text first.1 serves.written;
    tells = subst (λ l. TellsOn shows old (answers_in l) new (answers_in serves.lines)) none
        (subst (λ l. TellsOn shows old (answers_in waited) new (answers_in l)) (ap (λ l. serves.lines ++ l) left ∙ append-nil serves.lines) serves.tells);
    fair = subst (AllByRecursion IsFairLine) (sym (only_more serves.lines waited waiting serves.more none left serves.order)) serves.fair;
  }
