-- `into_loose` tests the pointer, and what it owns goes with it.
use Rattle.std.proofs.Common.{◌≡◌, List, [], ◌∷◌, ◌++◌, refl, sym, ap, ◌∙◌, subst, lit<}
use seplogic.Ra.Ura.{Ura}
use mir.Raw.{raw as bare}
use mir.Val.{Val, vptr, vcons, vnil}
use base.Logic.{SProp, ent, emp, id⊢, fst∗, snd∗, never, guard, guard_i, via}
use base.Fml.{ftrue, fsep, feq}
use prog.Wp.{WpFn}
use types.Logic.{Logic, sem}
use types.Kit.{Item, Goal, Seq, ‵, raw, ◌⊛◌, given, learn, at_ret, ◌$◌, ◌∵◌, !, qed, move, drop, keep, split, join}
use types.Kit.{fsplit, fjoin, feq_l, use0, use1, rewrite, suffices, done}
use types.Run.{fld, stop, lit, of_opd, bin, no_more, and_then, first, branches, skips, exec, returns, returns_within}
use types.Run.{enter}
use types.ByLocal.{alloc_all, pass_all, free_all, look_at, get, get_in, sets, env}
use types.Part.{agg, sub, whole}
use types.Match.{live}
use contract.Monad.{fact, fact_use}
use contract.Running.{tables}
use denote.Exit.{yes}
use denote.Laws.{Is, shows}
use denote.Memory.{lone}
use denote.RattleType.{RattleType}
use denote.RawPtr.{Ptr, block_ptr, null_ptr, Testable, tests_null, in_a_block}
use denote.Signature.{plain, type_at}
use denote.Steps.{nothing, peeks}
use denote.Param.{layout}
use denote.Triple.Walked.{Stays, stay_dropped, Goes-dropped, walk_of, says, ends_at}
use Rattle.std.proofs.raw_atomic.Walks.{proved_at}
use Rattle.std.proofs.cell.Inside.{Good, one}
use Rattle.std.proofs.option.Made.{Some-of, none_of}
use Rattle.std.proofs.ResultValues.{and_tt}
use Rattle.std.proofs.GlobalToken.{dealloc_token-Testable}
use Rattle.std.proofs.alloc.Calls.{handle_tells}
use Rattle.std.specs.Prelude.{Some, None, Option}
use Rattle.std.specs.Box.Ownership.{box_owns}
use Rattle.std.specs.contracts.alloc.Global as heap
use Rattle.std.proofs.alloc.Global.TheLaws as heap_laws
use Rattle.std.specs.contracts.impls.GlobalAllocator.TheImpl.{ghosts}
use Rattle.vozhkell_c.specs.Owning.{held_owns}
use Rattle.vozhkell_c.proofs.LooseWords.{Loose, al, both, loose_good, loose_in}
use Rattle.vozhkell_c.proofs.HandleWords.{R, word, word_good, held_out, either}
use Rattle.vozhkell_c.specs.contracts.held_handle.HeldHandle.{the_row}
use Rattle.vozhkell_c.specs.contracts.held_handle.HeldHandle.into_loose.{ended, clauses}
use Rattle.vozhkell_c.specs.contracts.held_handle.HeldHandle.into_loose.Key.{name as #self}
use Rattle.vozhkell_c.proofs.held_handle.HeldHandle.into_loose.Statement.{statement}
use Rattle.vozhkell_c.proofs.held_handle.HeldHandle.into_loose.Code as code

abbrev Z : RattleType
Z = heap.the_row

abbrev Lr : RattleType
Lr = Loose R Z heap_laws.the_row_laws ghosts

abbrev stayed : Stays ended.signature.params ended.kept
stayed = (stay_dropped (plain (λ _. the_row)) yes, (stay_dropped (plain (λ _. Z)) yes, tt))

pub into_loose_spec : {M : Type 1} → statement M
into_loose_spec 𝓤 𝓛 𝓜 𝓡 wired =
    let c = clauses 𝓛 𝓜.mem 𝓡.returns in let 𝓣 = tables 𝓤 𝓛.H 𝓜 𝓡 𝓡.env in let fn = code.function in
    proved_at 𝓛 ended stayed c 𝓜 𝓡 (
      Goes-dropped 𝓛 0 (plain (λ _. the_row)) yes (λ κs x f. refl),
      (Goes-dropped 𝓛 0 (plain (λ _. Z)) yes (λ κs x f. refl), tt),
    ) #self fn (code.unfolded 𝓤 𝓛.H 𝓜 𝓡 wired) (λ z are.
    let v = z.0.3.0 in let a = z.0.3.1.0 in let Post : Val → SProp 𝓤 = (walk_of 𝓛 ended stayed c).post z in
    let Out : RattleType = type_at ended.signature.result z.0.0 in
    let Run : List Val → SProp 𝓤 = λ ws. WpFn 𝓤 𝓛.H 𝓣.C 𝓣.Λ fn ws Post in
    qed 𝓛 ((‵ ftrue ⊛ ‵ (fsep (the_row.own_val v z.0.4.0) (fsep (Z.own_val a z.0.4.1.0) ftrue))) ∷ raw
    (emp 𝓤) ∷ []) ∵ split ! $ drop ! $ fsplit ! $ move ! (1 ∷ []) $ fsplit ! $
    handle_tells (al R Z heap_laws.the_row_laws ghosts) ! a z.0.4.1.0 (λ h eh fits. move ! (2 ∷ []) $
    held_out ! v z.0.4.0 (λ ws. keep ! (0 ∷ 1 ∷ []) $
    either ! a v.at v.value
    (λ at none. drop ! $ let us : List Val = word null_ptr ∷ h ∷ [] in
    suffices ! (Run us) (subst (λ (xs : List Val). ent 𝓤 (Run us) (Run xs)) (sym (λ i. (ws ∙ ap (λ (p : Ptr).
    word p ∷ []) at) i ++ (eh i ++ []))) (id⊢ 𝓤 (Run us))) $
    enter ! 𝓣.C 𝓣.Λ fn us Post $ alloc_all ! (λ l. pass_all ! refl (word_good null_ptr, (fits, tt)) $
    sets ! (of_opd ! (get_in ! (fld ! refl (stop !)) (sub ! 0 refl (whole !)))) refl (tt, record { fits = lit< tt }) $
    sets ! (bin ! (get ! refl) (lit ! tt) tt) refl (tt, tt) $ first ! $ branches ! (get ! refl)
    (λ _. sets ! (agg ! (and_then ! (lit ! tt) (no_more !))) refl (tt, (record { fits = lit< tt }, tt)) $
    returns_within ! Post refl (look_at ! 0 refl) $ free_all ! refl $
    suffices ! _ (ends_at 𝓛 ended stayed c z (live 0 vnil) None (tt, (tt, tt)) (tt, (tt, tt))) $ says ! (sym none, tt) $
    use0 𝓛 (‵ (Out.own_val None (live 0 vnil ∷ []))) (none_of 𝓛 Lr) $ nothing ! $ nothing ! $ fjoin ! $ nothing ! $
    fjoin ! $ join ! $ nothing ! $ join ! $ done !)
    (λ wrong. absurd wrong)))
    (λ b o x at some t. let us : List Val = word (block_ptr b o) ∷ h ∷ [] in let made : Val = both (vptr b o) h in
    let typed = loose_good R Z heap_laws.the_row_laws ghosts b o h fits in
    let d : Lr.Denot = record { at = block_ptr b o; alloc = a; value = Some x } in
    let v₁ : Val = live 1 (vcons made vnil) in
    let good : Good (layout Out) v₁ = (and_tt _ typed.0, (record { fits = lit< tt }, (typed.1, tt))) in
    suffices ! (Run us) (subst (λ (xs : List Val). ent 𝓤 (Run us) (Run xs)) (sym (λ i. (ws ∙ ap (λ (p : Ptr).
    word p ∷ []) at) i ++ (eh i ++ []))) (id⊢ 𝓤 (Run us))) $
    enter ! 𝓣.C 𝓣.Λ fn us Post $ alloc_all ! (λ l. pass_all ! refl (word_good (block_ptr b o), (fits, tt)) $
    let Ev = env fn.locals l in
    sets ! (of_opd ! (get_in ! (fld ! refl (stop !)) (sub ! 0 refl (whole !)))) refl (tt, tt) $
    sets ! (bin ! (get ! refl) (lit ! tt) (tests_null (block_ptr b o) t)) refl (tt, tt) $ first ! $
    branches ! (get ! refl)
    (λ wrong. absurd wrong)
    (λ _. skips ! $ exec ! 𝓣.C 𝓣.Λ Ev code.Mir.t-4 (at_ret Ev Post) $
    sets ! (of_opd ! (get ! refl)) refl (tt, tt) $
    sets ! (agg ! (and_then ! (get ! refl) (and_then ! (get ! refl) (no_more !)))) refl typed $
    sets ! (agg ! (and_then ! (lit ! tt) (and_then ! (get ! refl) (no_more !)))) refl good $
    returns ! (look_at ! 0 refl) $ free_all ! refl $ loose_in R Z heap_laws.the_row_laws ghosts ! b o h a (Some x) $
    use1 𝓛 (‵ (Out.own_val (Some d) (v₁ ∷ []))) (Some-of 𝓛 Lr d made) $
    suffices ! _ (ends_at 𝓛 ended stayed c z v₁ (Some d) (tt, (tt, tt)) (tt, (tt, tt))) $ says ! (sym some, refl) $
    nothing ! $ nothing ! $ fjoin ! $ nothing ! $ fjoin ! $ join ! $ nothing ! $ join ! $ done !))))))
