-- What outputs have after one text and another.
use Rattle.std.proofs.Common.{◌≡◌, ◌∙◌, ℕ, ◌+◌, [], ◌++◌, append_assoc, append-nil, Option, None, Some, Result, Ok, Err, IsOk, OnOk, sym, ap, subst, refl}
use Rattle.std.specs.Io.KnownBytes.{Appends, Keeps}
use Rattle.ibc_ids.specs.Texts.{Text}
use Rattle.ibc_script_cli.specs.Runs.{IsCut, WritesText}

-- an output that is kept has nothing more
pub nothing_more : (old : Option Text) → Appends old old []
nothing_more None = tt
nothing_more (Some xs) = sym (append-nil xs)

pub keeps_same : (output : Option Text) → Keeps output output
keeps_same None = tt
keeps_same (Some xs) = refl

pub kept_is_nothing : (old new : Option Text) → Keeps old new → Appends old new []
kept_is_nothing None new keeps = tt
kept_is_nothing (Some xs) None keeps = keeps
kept_is_nothing (Some xs) (Some ys) keeps = keeps ∙ sym (append-nil xs)

pub appends_both : (old mid new : Option Text) (a b : Text) → Appends old mid a → Appends mid new b → Appends old new (a ++ b)
appends_both None mid new a b first second = tt
appends_both (Some xs) None new a b first second = absurd first
appends_both (Some xs) (Some ys) None a b first second = absurd second
appends_both (Some xs) (Some ys) (Some zs) a b first second =
    second ∙ ap (λ (front : Text). front ++ b) first ∙ append_assoc xs a b

-- a part of a text is written, of which `rest i` stays to be written
abbrev pub Wrote : (ℕ → Text) → ℕ → Option Text → Option Text → Type 0
Wrote rest i before now = (done : Text) × (rest 0 ≡ done ++ rest i) × Appends before now done

module _ (rest : ℕ → Text) where
  pub wrote_none : (now : Option Text) → Wrote rest 0 now now
  wrote_none now = ([], refl, nothing_more now)

  pub wrote_more : (i : ℕ) (text : Text) (before mid now : Option Text) → rest i ≡ text ++ rest (i + 1) → Wrote rest i before mid → Appends mid now text
      → Wrote rest (i + 1) before now
  wrote_more i text before mid now next (done, is, has) more =
      (done ++ text, is ∙ ap (λ (t : Text). done ++ t) next ∙ sym (append_assoc done text (rest (i + 1))), appends_both before mid now done text has more)

  pub wrote_all : (i : ℕ) (before now : Option Text) → rest i ≡ [] → Wrote rest i before now → Appends before now (rest 0)
  wrote_all i before now none (done, is, has) =
      subst (Appends before now) (sym (is ∙ ap (λ (t : Text). done ++ t) none ∙ append-nil done)) has

  pub wrote_part : (i : ℕ) (text : Text) (before mid now : Option Text) → rest i ≡ text ++ rest (i + 1) → Wrote rest i before mid → IsCut mid now text
      → IsCut before now (rest 0)
  wrote_part i text before mid now next (done, is, has) (front, left, cut_is, more) = (
    done ++ front,
    left ++ rest (i + 1),
    is ∙ ap (λ (t : Text). done ++ t) (next ∙ ap (λ (t : Text). t ++ rest (i + 1)) cut_is ∙ append_assoc front left (rest (i + 1)))
        ∙ sym (append_assoc done front (left ++ rest (i + 1))),
    appends_both before mid now done front has more,
  )

pub appends_kept : (old mid new : Option Text) (text : Text) → Appends old mid text → Keeps mid new → Appends old new text
appends_kept None mid new text has keeps = tt
appends_kept (Some xs) None new text has keeps = absurd has
appends_kept (Some xs) (Some ys) None text has keeps = absurd keeps
appends_kept (Some xs) (Some ys) (Some zs) text has keeps = keeps ∙ has

-- what was written stays when the output is flushed
pub flushed : {T U E F : Type 0} (ran : Result T E) (result : Result U F) (before mid after : Option Text) (text : Text) → WritesText ran before mid text → Keeps mid after
    → OnOk result (IsOk ran) → WritesText result before after text
flushed (Ok x) (Ok y) before mid after text has keeps ok = appends_kept before mid after text has keeps
flushed (Ok x) (Err fault) before mid after text has keeps ok = (text, [], sym (append-nil text), appends_kept before mid after text has keeps)
flushed (Err e) (Ok y) before mid after text part keeps ok = absurd cc
flushed (Err e) (Err fault) before mid after text (done, rest, is, has) keeps ok = (done, rest, is, appends_kept before mid after done has keeps)

-- ---- texts

-- a part of the front is written
pub front_cut : (old new : Option Text) (front back : Text) → IsCut old new front → IsCut old new (front ++ back)
front_cut old new front back (done, rest, is, has) =
    (done, rest ++ back, ap (λ (t : Text). t ++ back) is ∙ append_assoc done rest back, has)

-- the front is written, and then the back or a part of it
pub both_written : {T E : Type 0} (result : Result T E) (old mid new : Option Text) (front back : Text) → Appends old mid front → WritesText result mid new back
    → WritesText result old new (front ++ back)
both_written (Ok x) old mid new front back first second = appends_both old mid new front back first second
both_written (Err fault) old mid new front back first (done, rest, is, has) =
    (front ++ done, rest, ap (λ (t : Text). front ++ t) is ∙ sym (append_assoc front done rest), appends_both old mid new front done first has)
