-- `into_loose` reads the pointer, and has the box back where it is not null.
use Rattle.std.proofs.Common.{◌≡◌, List, [], ◌∷◌, ◌++◌, refl, sym, ap, ◌∙◌, subst, lit<}
use mir.Val.{Val, vptr, vcons, vnil}
use base.Logic.{SProp, ent, emp, id⊢}
use base.Fml.{ftrue}
use prog.Wp.{WpFn}
use types.Kit.{‵, raw, ◌⊛◌, at_ret, ◌$◌, ◌∵◌, !, qed, by, keep, drop, split, fsplit3, fjoin, suffices, use0, use1, rewrite}
use types.Run.{stop, fld, lit, of_opd, bin, no_more, and_then, first, branches, exec, returns, enter}
use types.ByLocal.{alloc_all, pass_all, free_all, look_at, get, get_in, sets, sets_last, env}
use types.Part.{agg, sub, whole}
use types.Match.{live}
use contract.Monad.{fact, fact_i}
use contract.Running.{tables}
use denote.Exit.{yes}
use denote.RattleType.{RattleType, owns}
use denote.Signature.{types_at, type_at, plain}
use denote.RawPtr.{Ptr, block_ptr, null_ptr, tests_null}
use denote.Steps.{nothing}
use denote.Param.{layout}
use denote.Triple.Walked.{Stays, stay_dropped, walk_of, Goes-dropped}
use Rattle.core.proofs.alloc.Shapes.{after}
use Rattle.core.proofs.cell.Inside.{Good, one}
use Rattle.core.proofs.option.Made.{Some-of, none_of}
use Rattle.core.specs.declared.option.Option.TheVariants.{None, Some}
use Rattle.std.proofs.raw_atomic.Walks.{proved_at, leaves}
use Rattle.std.specs.contracts.alloc.Global as heap
use Rattle.std.proofs.alloc.Global.TheLaws as heap_laws
use Rattle.std.specs.contracts.impls.GlobalAllocator.TheImpl.{ghosts}
use Rattle.std_alloc.proofs.ResultValues.{and_tt}
use Rattle.ibc_handle.proofs.Values.{both, Loose, loose_good, loose_in}
use Rattle.ibc_handle.specs.contracts.handle_value.HandleValue.{the_row as R}
use Rattle.ibc_handle.proofs.Fields.{Row, word, handle_out, either_owned}
use Rattle.ibc_handle.specs.contracts.handle.Handle.into_loose.{ended, clauses}
use Rattle.ibc_handle.specs.contracts.handle.Handle.into_loose.Key.{name as #self}
use Rattle.ibc_handle.proofs.handle.Handle.into_loose.Statement.{statement}
use Rattle.ibc_handle.proofs.handle.Handle.into_loose.Code as code

pub into_loose_spec : {M : Type 1} → statement M
into_loose_spec 𝓤 𝓛 𝓜 𝓡 wired =
    let H = 𝓛.H in let 𝓣 = tables 𝓤 H 𝓜 𝓡 𝓡.env in let c = clauses 𝓛 𝓜.mem 𝓡.returns in let Z : RattleType = heap.the_row in let LZ = heap_laws.the_row_laws in let Lr : RattleType = Loose R Z LZ ghosts in
    let fn = code.function in let hs : Stays ended.signature.params ended.kept = (stay_dropped (plain (λ _. Row)) yes, (stay_dropped (plain (λ _. Z)) yes, tt)) in
    proved_at 𝓛 ended hs c 𝓜 𝓡 (Goes-dropped 𝓛 0 (plain (λ _. Row)) yes (λ κs x f. refl), (Goes-dropped 𝓛 0 (plain (λ _. Z)) yes (λ κs x f. refl), tt)) #self fn (code.unfolded 𝓤 H 𝓜 𝓡 wired) (λ z are.
    let κs = z.0.0 in let v = z.0.3.0 in let a = z.0.3.1.0 in let Post : Val → SProp 𝓤 = (walk_of 𝓛 ended hs c).post z in let Run : List Val → SProp 𝓤 = λ ws. WpFn 𝓤 H 𝓣.C 𝓣.Λ fn ws Post in let Out : RattleType = type_at ended.signature.result κs in
    let g = one (layout Z) z.0.4.1.0 ((LZ.lawful 𝓛).typed a z.0.4.1.0 are.1.0) in let h : Val = g.0 in
    qed 𝓛 ((‵ ftrue ⊛ ‵ (owns (types_at ended.signature.params κs) z.0.3 z.0.4)) ∷ raw ((c κs z.0.3).requires z.1) ∷ []) ∵ split ! $ drop ! $ fsplit3 ! $ handle_out ! v z.0.4.0 (λ ws.
    rewrite ! 1 (λ (us : List Val). ‵ (Z.own_val a us)) g.1 refl $ keep ! (0 ∷ 1 ∷ []) $ either_owned ! a v.at v.value
    (λ is none. let told : z.0.4.0 ≡ word null_ptr ∷ [] = ws ∙ ap (λ (p : Ptr). word p ∷ []) is in let us : List Val = word null_ptr ∷ h ∷ [] in
    suffices ! (Run us) (subst (λ (xs : List Val). ent 𝓤 (Run us) (Run xs)) (sym (λ i. told i ++ (g.1 i ++ []))) (id⊢ 𝓤 (Run us))) $
    enter ! 𝓣.C 𝓣.Λ fn us Post $ alloc_all ! (λ l. pass_all ! refl ((tt, (record { fits = lit< tt }, tt)), (g.2, tt)) $ let Ev = env fn.locals l in
    sets ! (of_opd ! (get_in ! (fld ! refl (stop !)) (sub ! 0 refl (whole !)))) refl (tt, record { fits = lit< tt }) $ sets ! (bin ! (get ! refl) (lit ! tt) tt) refl (tt, tt) $ first ! $ branches ! (get ! refl)
    (λ _. sets_last ! (agg ! (and_then ! (lit ! tt) (no_more !))) refl (tt, (record { fits = lit< tt }, tt)) $ exec ! 𝓣.C 𝓣.Λ Ev (after 3 fn.body) (at_ret Ev Post) $ sets ! (of_opd ! (get ! refl)) refl (tt, (record { fits = lit< tt }, tt)) $
    use0 𝓛 (‵ (Out.own_val None (live 0 vnil ∷ []))) (none_of 𝓛 Lr) $ use0 𝓛 (raw (fact 𝓤 (v.value ≡ None))) (fact_i 𝓤 (v.value ≡ None) (emp 𝓤) none) $
    nothing ! $ nothing ! $ fjoin ! $ nothing ! $ fjoin ! $ nothing ! $
    returns ! (look_at ! 0 refl) $ free_all ! refl $ keep ! (0 ∷ 1 ∷ 3 ∷ 2 ∷ []) $ by ! (leaves 𝓛 ended hs c z (live 0 vnil) None (tt, (tt, tt)) (tt, (tt, tt)))) (λ wrong. absurd wrong)))
    (λ b o x is some t. let told : z.0.4.0 ≡ word (block_ptr b o) ∷ [] = ws ∙ ap (λ (p : Ptr). word p ∷ []) is in let us : List Val = word (block_ptr b o) ∷ h ∷ [] in
    let made : Val = both (vptr b o) h in let typed = loose_good R Z LZ ghosts b o h g.2 in let v₁ : Val = live 1 (vcons made vnil) in let d : Lr.Denot = record { at = block_ptr b o; alloc = a; value = x } in
    let good : Good (layout Out) v₁ = (and_tt _ typed.0, (record { fits = lit< tt }, (typed.1, tt))) in
    suffices ! (Run us) (subst (λ (xs : List Val). ent 𝓤 (Run us) (Run xs)) (sym (λ i. told i ++ (g.1 i ++ []))) (id⊢ 𝓤 (Run us))) $
    enter ! 𝓣.C 𝓣.Λ fn us Post $ alloc_all ! (λ l. pass_all ! refl ((tt, (tt, tt)), (g.2, tt)) $ let Ev = env fn.locals l in
    sets ! (of_opd ! (get_in ! (fld ! refl (stop !)) (sub ! 0 refl (whole !)))) refl (tt, tt) $ sets ! (bin ! (get ! refl) (lit ! tt) (tests_null (block_ptr b o) t)) refl (tt, tt) $ first ! $ branches ! (get ! refl) (λ wrong. absurd wrong) (λ _.
    sets ! (of_opd ! (get ! refl)) refl (tt, tt) $ sets ! (agg ! (and_then ! (get ! refl) (and_then ! (get ! refl) (no_more !)))) refl typed $ sets_last ! (agg ! (and_then ! (lit ! tt) (and_then ! (get ! refl) (no_more !)))) refl good $
    exec ! 𝓣.C 𝓣.Λ Ev (after 3 fn.body) (at_ret Ev Post) $ sets ! (of_opd ! (get ! refl)) refl good $ loose_in R Z LZ ghosts ! b o h a x $
    use1 𝓛 (‵ (Out.own_val (Some d) (v₁ ∷ []))) (Some-of 𝓛 Lr d made) $ use0 𝓛 (raw (fact 𝓤 (v.value ≡ Some x))) (fact_i 𝓤 (v.value ≡ Some x) (emp 𝓤) some) $
    nothing ! $ nothing ! $ fjoin ! $ nothing ! $ fjoin ! $ nothing ! $
    returns ! (look_at ! 0 refl) $ free_all ! refl $ keep ! (0 ∷ 1 ∷ 3 ∷ 2 ∷ []) $ by ! (leaves 𝓛 ended hs c z v₁ (Some d) (tt, (tt, tt)) (tt, (tt, tt))))))))
