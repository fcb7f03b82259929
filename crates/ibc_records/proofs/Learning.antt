-- An entry that is taken out of a map, changed, and put back: a client is told of a height, a channel has an end.
use Rattle.std.proofs.Common.{◌≡◌, true, refl, ap, sym, subst, ◌∙◌, Ordering, Option, Some, None}
use Rattle.std.specs.Prelude.{Result, Ok, Err, OnOk, OnErr, IfOk, IfErr, IsSome, IfSome}
use Rattle.std.specs.Option.{IsSomeAnd}
use Rattle.std.specs.FinMap.{is_sorted}
use Rattle.std.specs.Cmp.{IsTotalOrder}
use Rattle.std.proofs.lemmas.Map.Lookups.{CmpEqualImpliesEq}
use Rattle.ibc_ids.specs.Maps.{Map, with, without, at}
use Rattle.ibc_maps.proofs.TakenChunks.{with-without, with-same}

-- what is said of the entry that is found
pub said_of : {X : Type 0} (o : Option X) (Said : X → Type 0) (x : X) → o ≡ Some x → Said x → IfSome o Said
said_of o Said x there said = subst (λ found. IfSome found Said) (sym there) said

-- what is asked of the entry that is found
pub asked_of : {X : Type 0} (o : Option X) (Asked : X → Type 0) (x : X) → o ≡ Some x → IsSomeAnd o Asked → Asked x
asked_of o Asked x there asked = subst (λ found. IsSomeAnd found Asked) there asked

-- .. which is there
pub is_there : {X : Type 0} (o : Option X) (Asked : X → Type 0) → IsSomeAnd o Asked → IsSome o
is_there None Asked asked = absurd asked
is_there (Some x) Asked asked = refl

-- what a call says where it isn't refused, and where it is
pub on_ok : {T E P Q : Type 0} (r : Result T E) → OnOk r P → (P → Q) → OnOk r Q
on_ok (Ok x) p f = f p
on_ok (Err e) p f = tt

pub if_ok : {T E : Type 0} {P Q : T → Type 0} (r : Result T E) → IfOk r P → ((x : T) → P x → Q x) → IfOk r Q
if_ok (Ok x) p f = f x p
if_ok (Err e) p f = tt

pub on_err : {T E P Q : Type 0} (r : Result T E) → OnErr r P → (P → Q) → OnErr r Q
on_err (Ok x) p f = tt
on_err (Err e) p f = f p

pub if_err : {T E : Type 0} {P Q : E → Type 0} (r : Result T E) → IfErr r P → ((e : E) → P e → Q e) → IfErr r Q
if_err (Ok x) p f = tt
if_err (Err e) p f = f e p

-- an entry that was taken out and put back: it became what a function makes of it, or is as it was
module _ {K X : Type 0} {order : K → K → Ordering} (total : IsTotalOrder order) (exact : CmpEqualImpliesEq order) (entries others after : Map K X) (k : K) (x new : X)
    (there : at order k entries ≡ Some x) (sorted : is_sorted order entries ≡ true) (out : others ≡ without order k entries) (put : after ≡ with order k new others) where
  set_again : after ≡ with order k new entries
  set_again = put ∙ ap (with order k new) out ∙ with-without total exact k new entries sorted

  pub replaced : (f : X → X) → new ≡ f x → IfSome (at order k entries) (λ found. after ≡ with order k (f found) entries)
  replaced f is = said_of (at order k entries) (λ found. after ≡ with order k (f found) entries) x there (set_again ∙ ap (λ y. with order k y entries) is)

  pub put_back : new ≡ x → after ≡ entries
  put_back is = set_again ∙ ap (λ y. with order k y entries) is ∙ with-same total exact k x entries sorted there
