-- The fold goes on, or it has ended.
use Rattle.std.proofs.Common.{refl, subst, sym}
use Rattle.vms_cursors.specs.Cursors.{HasEnded}
use Rattle.vms_cursors.specs.Folds.{fold_at}
use Rattle.vms_cursors.specs.declared.folds.Fold.{Fold}
use Rattle.vms_cursors.proofs.burial_positions.after_fold.Goals as goal

pub after_folding-requires-clause-unended : goal.after_folding-requires-clause-unended
after_folding-requires-clause-unended g c = λ ended. c.in-Some.ensures.due.1 (tt {0})
    (subst (λ (f : Fold). HasEnded (fold_at c.args.layout.now f c.args.at) (tt {0})) (sym c.burial_fold.ensures) ended)

pub after_removal-requires : goal.after_removal-requires
after_removal-requires g c = record {
  folded = subst (λ (f : Fold). HasEnded (fold_at c.args.layout.now f c.args.at) (tt {0})) c.burial_fold.ensures
      (c.in-None.ensures.ended refl);
}
