-- The lines of a script's steps, one more at a time.
use Rattle.std.proofs.Common.{◌≡◌, ℕ, zero, suc, ◌+◌, ◌<◌, ◌≤◌, Bool, true, false, List, [], ◌∷◌, ◌++◌, length, drop, get_or, map, replicate, refl, sym, ap, ◌∙◌, subst, add-one, append-nil, append_assoc, Result, Ok, Err, OnOk}
use Rattle.std.specs.Prelude.{is_ok, if◌then◌else◌}
use Rattle.std.proofs.lemmas.List.{drop_more, drop_all}
use Rattle.ibc_ids.specs.Texts.{Text}
use Rattle.ibc_random_scripts.specs.ScriptTexts.{is_kept_at, kept_steps, step_lines, with_step}

-- what was added to a text
pub added : {T E : Type 0} (r : Result T E) (front next whole new : Text) → front ++ next ≡ whole → new ≡ (if is_ok r then front ++ next else front) → OnOk r (new ≡ whole)
added (Ok x) front next whole new all is = is ∙ all
added (Err e) front next whole new all is = tt

-- ---- the first of the steps that are left

kept_next : (kept : List Bool) (i : ℕ) (step : Text) (steps : List Text)
    → kept_steps (drop i kept) (step ∷ steps) ≡ (if is_kept_at kept i then step ∷ kept_steps (drop (suc i) kept) steps else kept_steps (drop (suc i) kept) steps)
kept_next [] zero step steps = refl
kept_next [] (suc i) step steps = refl
kept_next (keeps ∷ kept) zero step steps = refl
kept_next (keeps ∷ kept) (suc i) step steps = kept_next kept i step steps

kept_there : (kept : List Bool) (i : ℕ) (step : Text) (steps : List Text)
    → kept_steps (drop i kept) (step ∷ steps) ≡ (if is_kept_at kept i then step ∷ kept_steps (drop (i + 1) kept) steps else kept_steps (drop (i + 1) kept) steps)
kept_there kept i step steps =
    subst (λ (n : ℕ). kept_steps (drop i kept) (step ∷ steps) ≡ (if is_kept_at kept i then step ∷ kept_steps (drop n kept) steps else kept_steps (drop n kept) steps))
    (sym (add-one i)) (kept_next kept i step steps)

kept_none : (kept : List Bool) → kept_steps kept [] ≡ []
kept_none [] = refl
kept_none (keeps ∷ kept) = refl

line_more : (first keeps : Bool) (before step : Text) (others : List Text)
    → (before ++ (if keeps then with_step first step else [])) ++ step_lines (if keeps then false else first) others
    ≡ before ++ step_lines first (if keeps then step ∷ others else others)
line_more first true before step others = append_assoc before (with_step first step) (step_lines false others)
line_more first false before step others = ap (λ (text : Text). text ++ step_lines first others) (append-nil before)

-- ---- all steps

pub all_are_kept : {A : Type 0} (text_of : A → Text) (steps : List A) → kept_steps (replicate (length steps) true) (map text_of steps) ≡ map text_of steps
all_are_kept text_of [] = refl
all_are_kept text_of (step ∷ steps) = ap (λ (l : List Text). text_of step ∷ l) (all_are_kept text_of steps)

-- ---- along a loop

-- with the step at a place added, the lines of those behind it are left
pub lines_more : {A : Type 0} (text_of : A → Text) (first : Bool) (kept : List Bool) (steps : List A) (i : ℕ) (step : A) (before : Text)
    → i < length steps → step ≡ get_or steps i step
    → (before ++ (if is_kept_at kept i then with_step first (text_of step) else []))
    ++ step_lines (if is_kept_at kept i then false else first) (kept_steps (drop (i + 1) kept) (map text_of (drop (i + 1) steps)))
    ≡ before ++ step_lines first (kept_steps (drop i kept) (map text_of (drop i steps)))
lines_more {A} text_of first kept steps i step before low is =
    let there : drop i steps ≡ step ∷ drop (i + 1) steps = drop_more steps i step low ∙ ap (λ (it : A). it ∷ drop (i + 1) steps) (sym is) in
    let others : List Text = map text_of (drop (i + 1) steps) in
    let left : kept_steps (drop i kept) (map text_of (drop i steps))
    ≡ (if is_kept_at kept i then text_of step ∷ kept_steps (drop (i + 1) kept) others else kept_steps (drop (i + 1) kept) others) =
    ap (λ (l : List A). kept_steps (drop i kept) (map text_of l)) there ∙ kept_there kept i (text_of step) others in
    line_more first (is_kept_at kept i) before (text_of step) (kept_steps (drop (i + 1) kept) others)
    ∙ ap (λ (l : List Text). before ++ step_lines first l) (sym left)

-- in the end no line is left
pub lines_all : {A : Type 0} (text_of : A → Text) (first : Bool) (kept : List Bool) (steps : List A) (i : ℕ) (before whole : Text)
    → length steps ≤ i → before ++ step_lines first (kept_steps (drop i kept) (map text_of (drop i steps))) ≡ whole → before ≡ whole
lines_all {A} text_of first kept steps i before whole past is =
    let none : kept_steps (drop i kept) (map text_of (drop i steps)) ≡ [] =
    ap (λ (l : List A). kept_steps (drop i kept) (map text_of l)) (drop_all i steps past) ∙ kept_none (drop i kept) in
    sym (append-nil before) ∙ ap (λ (l : List Text). before ++ step_lines first l) (sym none) ∙ is
