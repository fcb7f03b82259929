-- The machine values of a `Handle`, and what it owns. Assumes `Logic`.
use Rattle.std.proofs.Common.{◌≡◌, ℕ, List, [], ◌∷◌, ◌++◌, refl, ap, ◌∙◌}
use seplogic.Ra.Ura.{Ura}
use mir.Raw.{raw as bare}
use mir.Val.{Val, vstruct, vcons, vnil, of_list}
use base.Fraction.{full_share}
use base.Logic.{ent, guard, guard_i, via, snd∗}
use contract.Monad.{fact_use}
use types.Logic.{Logic, sem}
use types.Kit.{Item, Goal, Seq, Step, step, ‵, given, ◌$◌, drop, learn, fsplit, fjoin, fpick, fpack, feq_i, feq_l, use1}
use denote.RattleType.{RattleType, Valss}
use denote.Builtin.{RawPtr}
use denote.Memory.{lone}
use denote.RawPtr.{Ptr, block_ptr, null_ptr, ptr_val, lies_at, Testable}
use denote.Steps.{nothing}
use denote.Struct.Struct.{within}
use denote.Struct.Owning.{shape}
use Rattle.std.specs.declared.alloc.Global.{Global}
use Rattle.std.proofs.GlobalToken.{dealloc_token-Testable}
use Rattle.std.specs.declared.option.Option.{Option}
use Rattle.std.specs.declared.option.Option.TheVariants.{None, Some}
use Rattle.std_alloc.specs.Box.Ownership.{box_owns}
use Rattle.ibc_handle.specs.declared.handle_value.HandleValue.{HandleValue}
use Rattle.ibc_handle.specs.contracts.handle_value.HandleValue.{the_row as R}
use Rattle.ibc_handle.specs.contracts.handle.Handle as handle
use Rattle.ibc_handle.specs.OwnedBoxes.{heap_block, owned_box}

abbrev pub word : Ptr → Val
word p = vstruct (vcons (ptr_val p) vnil)

abbrev pub Row : RattleType
Row = handle.the_row

module _ {M : Type 1} {𝓤 : Ura M} (𝓛 : Logic 𝓤) (a : Global) where
  -- the pointer of a box of the heap may be compared with null
  pub tested : (p : Ptr) (x : HandleValue) → ent 𝓤 (sem 𝓛 (box_owns heap_block R p x)) (guard 𝓤 (Testable p) (sem 𝓛 (box_owns heap_block R p x)))
  tested p x = fact_use 𝓤 (Testable p) (via 𝓤 _ (snd∗ 𝓤 (sem 𝓛 (lies_at R full_share p x)) (sem 𝓛 (heap_block (bare (lone R.mir)) p))) (dealloc_token-Testable 𝓛 a (bare (lone R.mir)) p)) (guard_i 𝓤 (Testable p) (sem 𝓛 (box_owns heap_block R p x)))

module _ {M : Type 1} {𝓤 : Ura M} {𝓛 : Logic 𝓤} {K : Type 0} {Γ : List (Item 𝓤)} {G : Goal 𝓤 𝓛.H} where
  pub handle_out : K → (h : Row.Denot) (vs : List Val) → (vs ≡ word h.at ∷ [] → Seq K 𝓛 (‵ (owned_box R h.at h.value) ∷ Γ) G) → Seq K 𝓛 (‵ (Row.own_val h vs) ∷ Γ) G
  handle_out t h vs k = fsplit t $ fpick t (λ vss. fsplit t $ feq_l t (λ ev. fsplit t $ feq_l t (λ ep. drop t $ k (ev ∙ ap (λ (ws : List Val). vstruct (of_list (ws ++ [])) ∷ []) ep))))

  pub handle_in : K → (p : Ptr) (x : Option HandleValue) → Step K 𝓛 (‵ (Row.own_val (record { at = p; value = x }) (word p ∷ [])) ∷ Γ) G (‵ (owned_box R p x) ∷ Γ) G
  handle_in t p x = step (λ s. nothing t $ feq_i t (List Val) (ptr_val p ∷ []) (ptr_val p ∷ []) refl $ fjoin t $ feq_i t (List Val) (word p ∷ []) (word p ∷ []) refl $ fjoin t $
      fpack t (Valss (RawPtr ∷ [])) (within (shape handle.the_type) (p, tt) (word p ∷ [])) (ptr_val p ∷ [], tt) $ fjoin t $ s)

  -- by the pointer: at null it holds nothing, and else a box
  pub either_owned : K → Global → (p : Ptr) (x : Option HandleValue) → (p ≡ null_ptr → x ≡ None → Seq K 𝓛 Γ G)
      → ((b o : ℕ) (y : HandleValue) → p ≡ block_ptr b o → x ≡ Some y → Testable (block_ptr b o) → Seq K 𝓛 (‵ (box_owns heap_block R (block_ptr b o) y) ∷ Γ) G) → Seq K 𝓛 (‵ (owned_box R p x) ∷ Γ) G
  either_owned t a null_ptr None none one = drop t $ none refl refl
  either_owned t a null_ptr (Some y) none one = fpick t (λ e. absurd e)
  either_owned t a (block_ptr b o) None none one = fpick t (λ e. absurd e)
  either_owned t a (block_ptr b o) (Some y) none one = use1 𝓛 (given (Testable (block_ptr b o)) (‵ (box_owns heap_block R (block_ptr b o) y))) (tested 𝓛 a (block_ptr b o) y) $ learn t (λ e. one b o y refl refl e)
