-- `of_loose` moves the pointer, and what it owns goes with it.
use Rattle.std.proofs.Common.{List, [], ◌∷◌, ◌++◌, refl, sym, subst}
use mir.Val.{Val, vptr}
use base.Logic.{SProp, ent, id⊢}
use base.Fml.{ftrue, fsep}
use prog.Wp.{WpFn}
use types.Kit.{‵, raw, ◌⊛◌, ◌$◌, ◌∵◌, !, qed, drop, keep, move, use1, split, join, fsplit, fjoin, suffices, done}
use types.Run.{fld, stop, of_opd, no_more, and_then, returns, enter}
use types.ByLocal.{alloc_all, pass_all, free_all, look_at, get, get_in, sets}
use types.Part.{agg, sub, whole}
use contract.Monad.{fact}
use contract.Running.{tables}
use denote.Exit.{yes}
use denote.RattleType.{RattleType}
use denote.RawPtr.{block_ptr}
use denote.Signature.{plain}
use denote.Steps.{heard, nothing}
use denote.Triple.Walked.{Stays, stay_dropped, Goes-dropped, walk_of, says, ends_at}
use Rattle.std.proofs.raw_atomic.Walks.{proved_at}
use Rattle.std.specs.Prelude.{IsSome}
use Rattle.std.specs.contracts.alloc.Global as heap
use Rattle.std.proofs.alloc.Global.TheLaws as heap_laws
use Rattle.std.specs.contracts.impls.GlobalAllocator.TheImpl.{ghosts}
use Rattle.vms_counters.specs.contracts.control_handles.ControlHandle.{the_row as Own}
use Rattle.vozhkell_c.specs.Owning.{held_owns}
use Rattle.vozhkell_c.proofs.LooseWords.{Loose, both, loose_good, loose_out}
use Rattle.vozhkell_c.proofs.ControlWords.{R, word, word_good, boxed, held_in}
use Rattle.vozhkell_c.specs.contracts.held_control.HeldControl.{the_row}
use Rattle.vozhkell_c.specs.contracts.held_control.HeldControl.of_loose.{ended, clauses}
use Rattle.vozhkell_c.specs.contracts.held_control.HeldControl.of_loose.Key.{name as #self}
use Rattle.vozhkell_c.proofs.held_control.HeldControl.of_loose.Statement.{statement}
use Rattle.vozhkell_c.proofs.held_control.HeldControl.of_loose.Code as code

abbrev Lr : RattleType
Lr = Loose R heap.the_row heap_laws.the_row_laws ghosts

abbrev stayed : Stays ended.signature.params ended.kept
stayed = (stay_dropped (plain (λ _. Lr)) yes, tt)

pub of_loose_spec : {M : Type 1} → statement M
of_loose_spec 𝓤 𝓛 𝓜 𝓡 wired =
    let c = clauses 𝓛 𝓜.mem 𝓡.returns in let 𝓣 = tables 𝓤 𝓛.H 𝓜 𝓡 𝓡.env in
    proved_at 𝓛 ended stayed c 𝓜 𝓡 (Goes-dropped 𝓛 0 (plain (λ _. Lr)) yes (λ κs x f. refl), tt) #self code.function
    (code.unfolded 𝓤 𝓛.H 𝓜 𝓡 wired) (λ z are.
    let v = z.0.3.0 in let Post : Val → SProp 𝓤 = (walk_of 𝓛 ended stayed c).post z in
    let Run : List Val → SProp 𝓤 = λ ws. WpFn 𝓤 𝓛.H 𝓣.C 𝓣.Λ code.function ws Post in
    qed 𝓛 ((‵ ftrue ⊛ ‵ (fsep (Lr.own_val v z.0.4.0) ftrue)) ∷ raw (fact 𝓤 (IsSome v.value)) ∷ []) ∵ move ! (1 ∷ []) $
    heard ! (IsSome v.value) (λ some. split ! $ drop ! $ fsplit ! $
    loose_out R heap.the_row heap_laws.the_row_laws ghosts ! v z.0.4.0 (λ b o h e ws fits. keep ! (0 ∷ []) $
    let w : Val = both (vptr b o) h in let made : the_row.Denot = record { at = block_ptr b o; value = v.value } in
    suffices ! (Run (w ∷ [])) (subst (λ (us : List Val). ent 𝓤 (Run (w ∷ [])) (Run us)) (sym (λ i. ws i ++ []))
    (id⊢ 𝓤 (Run (w ∷ [])))) $
    enter ! 𝓣.C 𝓣.Λ code.function (w ∷ []) Post $
    alloc_all ! (λ l. pass_all ! refl (loose_good R heap.the_row heap_laws.the_row_laws ghosts b o h fits, tt) $
    sets ! (of_opd ! (get_in ! (fld ! refl (stop !)) (sub ! 0 refl (whole !)))) refl (tt, tt) $
    sets ! (of_opd ! (get ! refl)) refl (tt, tt) $
    sets ! (agg ! (and_then ! (get ! refl) (no_more !))) refl (word_good (block_ptr b o)) $
    returns ! (look_at ! 0 refl) $ free_all ! refl $
    suffices ! _ (ends_at 𝓛 ended stayed c z (word (block_ptr b o)) made (tt, tt) (tt, tt)) $ says ! refl $
    use1 𝓛 (‵ (held_owns Own (block_ptr b o) v.value)) (boxed 𝓛 v.alloc (block_ptr b o) v.value some) $
    held_in ! made $ nothing ! $ nothing ! $ fjoin ! $ join ! $ nothing ! $ join ! $ done !))))
