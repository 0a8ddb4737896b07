-- The machine values of a `HeldHandle`: the pointer, and what it owns beside it. Assumes `Logic`.
use Rattle.std.proofs.Common.{◌≡◌, ℕ, List, [], ◌∷◌, ◌++◌, Option, Some, None, refl, sym, ap, ◌∙◌, lit<, true≢false}
use seplogic.Ra.Ura.{Ura}
use mir.Raw.{raw as bare}
use mir.Val.{Val, vstruct, vcons, vnil, of_list}
use base.Logic.{ent, guard, guard_i, via, fst∗, snd∗, never}
use base.Fraction.{full_share}
use types.Logic.{Logic, sem}
use types.Kit.{Item, Goal, Seq, Step, step, ‵, given, ◌$◌, ◌∵◌, !, qed, done, drop, fsplit, fjoin, fpick, fpack}
use types.Kit.{feq_i, feq_l, use1, learn}
use contract.Monad.{fact_use}
use denote.Builtin.{RawPtr}
use denote.Memory.{lone}
use denote.Param.{layout}
use denote.RattleType.{RattleType, Valss}
use denote.RawPtr.{Ptr, block_ptr, null_ptr, ptr_val, Testable, in_a_block, lies_at}
use denote.Steps.{nothing}
use denote.Struct.Owning.{shape}
use denote.Struct.Struct.{within}
use Rattle.std.specs.Box.Ownership.{box_owns}
use Rattle.std.specs.Prelude.{IsSome}
use Rattle.std.specs.declared.alloc.Global.{Global}
use Rattle.std.specs.contracts.option.Option as option
use Rattle.std.proofs.GlobalToken.{dealloc_token-Testable}
use Rattle.std.proofs.cell.Inside.{Good}
use Rattle.std.specs.contracts.impls.GlobalAllocator.TheImpl.{ghosts}
use Rattle.vms_counters.specs.contracts.handles.Handle.{the_row as Own}
use Rattle.vozhkell_c.specs.Owning.{held_owns}
use Rattle.vozhkell_c.specs.contracts.held_handle.HeldHandle.{the_row, the_type}

-- what lies behind the pointer
abbrev pub R : RattleType
R = option.the_row Own

abbrev pub word : Ptr → Val
word p = vstruct (vcons (ptr_val p) vnil)

pub word_good : (p : Ptr) → Good (layout the_row) (word p)
word_good null_ptr = (tt, (record { fits = lit< tt }, tt))
word_good (block_ptr b o) = (tt, (tt, tt))

module _ {M : Type 1} {𝓤 : Ura M} (𝓛 : Logic 𝓤) (a : Global) where
  tested : (b o : ℕ) (x : R.Denot)
      → ent 𝓤 (sem 𝓛 (box_owns (ghosts.dealloc_token a) R (block_ptr b o) x)) (guard 𝓤 (Testable (block_ptr b o))
      (sem 𝓛 (box_owns (ghosts.dealloc_token a) R (block_ptr b o) x)))
  tested b o x =
      let p : Ptr = block_ptr b o in let B = sem 𝓛 (box_owns (ghosts.dealloc_token a) R p x) in
      fact_use 𝓤 (Testable p) (via 𝓤 _ (snd∗ 𝓤 (sem 𝓛 (lies_at R full_share p x)) (sem 𝓛 (ghosts.dealloc_token a
      (bare (lone R.mir)) p))) (dealloc_token-Testable 𝓛 a (bare (lone R.mir)) p)) (guard_i 𝓤 (Testable p) B)

  pub boxed : (p : Ptr) (value : R.Denot) → IsSome value
      → ent 𝓤 (sem 𝓛 (box_owns (ghosts.dealloc_token a) R p value)) (sem 𝓛 (held_owns Own p value))
  boxed p None none = absurd (true≢false (sym none))
  boxed p (Some x) some =
      qed 𝓛 (‵ (box_owns (ghosts.dealloc_token a) R p (Some x)) ∷ []) ∵
      fpack ! Global (λ any. box_owns (ghosts.dealloc_token any) R p (Some x)) a $ done !

module _ {M : Type 1} {𝓤 : Ura M} {𝓛 : Logic 𝓤} {K : Type 0} {Γ : List (Item 𝓤)} {G : Goal 𝓤 𝓛.H} where
  pub held_out : K → (d : the_row.Denot) (vs : List Val) → (vs ≡ word d.at ∷ []
      → Seq K 𝓛 (‵ (held_owns Own d.at d.value) ∷ Γ) G)
      → Seq K 𝓛 (‵ (the_row.own_val d vs) ∷ Γ) G
  held_out t d vs k =
      fsplit t $ fpick t (λ vss. fsplit t $ feq_l t (λ ev. fsplit t $ feq_l t (λ ep. drop t $
      k (ev ∙ ap (λ (ps : List Val). vstruct (of_list (ps ++ [])) ∷ []) ep))))

  pub held_in : K → (d : the_row.Denot)
      → Step K 𝓛 (‵ (the_row.own_val d (word d.at ∷ [])) ∷ Γ) G (‵ (held_owns Own d.at d.value) ∷ Γ) G
  held_in t d = step (λ s. let v : Val = word d.at in
      nothing t $ feq_i t (List Val) (ptr_val d.at ∷ []) (ptr_val d.at ∷ []) refl $ fjoin t $
      feq_i t (List Val) (v ∷ []) (v ∷ []) refl $ fjoin t $
      fpack t (Valss (RawPtr ∷ [])) (within (shape the_type) (d.at, tt) (v ∷ [])) (ptr_val d.at ∷ [], tt) $ fjoin t $ s)

  -- null, or a box at a pointer that may be tested
  -- null, or a box at a pointer that may be tested
  pub either : K → (a : Global) (at : Ptr) (value : Option Own.Denot) → (at ≡ null_ptr → value ≡ None → Seq K 𝓛 Γ G)
      → ((b o : ℕ) (x : Own.Denot) → at ≡ block_ptr b o → value ≡ Some x → Testable (block_ptr b o)
      → Seq K 𝓛 (‵ (box_owns (ghosts.dealloc_token a) R (block_ptr b o) (Some x)) ∷ Γ) G)
      → Seq K 𝓛 (‵ (held_owns Own at value) ∷ Γ) G
  either t a at None none some = feq_l t (λ e. none e refl)
  either t a at (Some x) none some = fpick t (λ any.
      in_a_block t at (λ p. box_owns (ghosts.dealloc_token a) R p (Some x)) (fst∗ 𝓤 (never 𝓤)
      (sem 𝓛 (ghosts.dealloc_token a (bare (lone R.mir)) null_ptr)))
      (λ b o e. use1 𝓛 (given (Testable (block_ptr b o)) (‵ (box_owns (ghosts.dealloc_token a) R (block_ptr b o)
      (Some x))))
      (tested 𝓛 a b o (Some x)) $ learn t (λ ok. some b o x e refl ok)))
