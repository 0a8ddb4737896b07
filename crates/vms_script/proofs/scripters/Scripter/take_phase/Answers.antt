use Rattle.std.proofs.Common.{Vec, Global, ◌∙◌, ap, refl, subst, sym}
use Rattle.vms_text.specs.declared.acts.Item.{Item}
use Rattle.vms_script.specs.Common.{Fits, IsPhaseScript, phase_start}
use Rattle.vms_script.proofs.Feeding.{HoldsScript-taken, IsPhaseScript-held}
use Rattle.vms_script.proofs.scripters.Scripter.take_phase.Goals as goal

pub make-requires : goal.make-requires
make-requires c =
    subst (λ (taken : Vec Item Global). IsPhaseScript taken.items) (sym c.replace.ensures.value)
    (IsPhaseScript-held c.requires.0 c.args.self.now c.requires.1)

pub returns : goal.returns
returns c = λ script holds.
    let items = c.make.ensures ∙ ap (λ (taken : Vec Item Global). taken.items) c.replace.ensures.value ∙ holds.items in
    record {
      items = items;
      fits = subst (Fits script.header (phase_start script)) (sym items) holds.fits;
      holds = HoldsScript-taken script c.args.self.now _ holds refl
          (ap (λ (left : Vec Item Global). left.items) c.replace.ensures.after ∙ c.new.ensures.items);
    }
