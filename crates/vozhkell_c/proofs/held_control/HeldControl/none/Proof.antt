-- `none` owns nothing at null.
use Rattle.std.proofs.Common.{List, [], ◌∷◌, refl}
use mir.Val.{Val}
use base.Logic.{emp}
use base.Fml.{ftrue}
use types.Kit.{‵, raw, ◌⊛◌, ◌$◌, ◌∵◌, !, qed, drop, split, join, feq_i, suffices, done}
use types.Run.{lit, no_more, and_then, returns, enter}
use types.ByLocal.{alloc_all, pass_all, free_all, look_at, sets}
use types.Part.{agg}
use contract.Running.{tables}
use denote.RawPtr.{Ptr, null_ptr}
use denote.Steps.{nothing}
use denote.Triple.Walked.{walk_of, says, ends_at}
use Rattle.std.proofs.raw_atomic.Walks.{proved_at}
use Rattle.std.specs.Prelude.{None}
use Rattle.vozhkell_c.proofs.ControlWords.{word, word_good, held_in}
use Rattle.vozhkell_c.specs.contracts.held_control.HeldControl.{the_row}
use Rattle.vozhkell_c.specs.contracts.held_control.HeldControl.none.{ended, clauses}
use Rattle.vozhkell_c.specs.contracts.held_control.HeldControl.none.Key.{name as #self}
use Rattle.vozhkell_c.proofs.held_control.HeldControl.none.Statement.{statement}
use Rattle.vozhkell_c.proofs.held_control.HeldControl.none.Code as code

pub none_spec : {M : Type 1} → statement M
none_spec 𝓤 𝓛 𝓜 𝓡 wired =
    let c = clauses 𝓛 𝓜.mem 𝓡.returns in let 𝓣 = tables 𝓤 𝓛.H 𝓜 𝓡 𝓡.env in
    let made : the_row.Denot = record { at = null_ptr; value = None } in
    proved_at 𝓛 ended tt c 𝓜 𝓡 tt #self code.function (code.unfolded 𝓤 𝓛.H 𝓜 𝓡 wired) (λ z are.
    qed 𝓛 ((‵ ftrue ⊛ ‵ ftrue) ∷ raw (emp 𝓤) ∷ []) ∵ drop ! $ drop ! $
    enter ! 𝓣.C 𝓣.Λ code.function [] ((walk_of 𝓛 ended tt c).post z) $ alloc_all ! (λ l. pass_all ! refl tt $
    sets ! (agg ! (and_then ! (lit ! tt) (no_more !))) refl (word_good null_ptr) $
    returns ! (look_at ! 0 refl) $ free_all ! refl $
    suffices ! _ (ends_at 𝓛 ended tt c z (word null_ptr) made tt tt) $ says ! refl $
    feq_i ! Ptr null_ptr null_ptr refl $ held_in ! made $ nothing ! $ join ! $ nothing ! $ join ! $ done !))
