-- A change of a counter of the own CPU, or a call that every pass may make.
use Rattle.std.proofs.Common.{◌≡◌, ◌+◌, ◌≤◌, FitsSigned, w64, ℤ, rules, sym, subst, unsigned_abs, slice_index_or}
use Rattle.std.proofs.Common.{slice_set}
use Rattle.std.proofs.lemmas.Int.{to_z-of_z}
use Rattle.vms_calls.specs.PageCalls.{page_spent}
use Rattle.vms_calls.specs.declared.page_calls.PageAnswer.TheVariants.{Done}
use Rattle.vms_calls.specs.declared.page_calls.PageCall.{PageCall}
use Rattle.vms_world.specs.Common.{most_volume}
use Rattle.vms_count.specs.Common.{GoesWith, HasChanged}
use Rattle.vms_lane.specs.Common.{HasCalled, HasGrown, HasRoom, IsCallOfCpu}
use Rattle.vms_lane.proofs.ActKinds.{own-looks, looks-unspent}
use Rattle.vms_lane.proofs.GrownVolumes.{grown-at, grown-none, room-at}
use Rattle.vms_lane.proofs.MadeOnPages.{change-called, counter-in, counter-inside}
use Rattle.vms_lane.proofs.page_acts.call_own.Goals as goal

pub change-requires : goal.change-requires
change-requires g c =
    let k = c.in-Change.counter in
    let delta = c.in-Change.delta in
    let mode = c.in-Change.mode in
    let fits : FitsSigned w64 delta = search rules in
    let same = to_z-of_z w64 delta fits in
    let facts = c.args.table.now.facts in
    let header = c.args.header.now in
    let old = c.args.pass.now in
    let known = subst (IsCallOfCpu header) c.in-Change.is c.requires.call in
    record {
      table = c.requires.table;
      counter = counter-in header facts c.requires.facts k.number old.volume c.requires.one_each known.0;
      mode = subst (GoesWith mode) (sym same) known.1;
      nothing = c.requires.nothing;
      room = subst (λ (z : ℤ). slice_index_or old.volume k.number 0 + unsigned_abs z ≤ most_volume) (sym same)
          (room-at old.volume k.number (unsigned_abs delta)
          (counter-inside header facts c.requires.facts k.number old.volume c.requires.one_each known.0)
          (subst (λ (call : PageCall). HasRoom (page_spent call) old.volume) c.in-Change.is c.requires.room));
    }

pub returns-in-Change : goal.returns-in-Change
returns-in-Change g c =
    let pressure = g.P.Rule.answers c.args.rules.now.pressure in
    let normal = g.N.Rule.answers c.args.rules.now.normal in
    let k = c.in-Change.counter in
    let delta = c.in-Change.delta in
    let mode = c.in-Change.mode in
    let fits : FitsSigned w64 delta = search rules in
    let same = to_z-of_z w64 delta fits in
    let facts = c.args.table.now.facts in
    let header = c.args.header.now in
    let old = c.args.pass.now in
    let new = c.change.new.pass in
    let known = subst (IsCallOfCpu header) c.in-Change.is c.requires.call in
    record {
      made = subst (λ (call : PageCall). HasCalled header pressure normal facts.base call new.pass
          old.pass Done) (sym c.in-Change.is)
          (change-called header pressure normal facts c.requires.facts new.pass old.pass k delta mode
          (subst (λ (z : ℤ). HasChanged facts.layout new.pass old.pass k z mode) same c.change.ensures.made));
      grown = subst (λ (call : PageCall). HasGrown (page_spent call) new.volume old.volume) (sym c.in-Change.is)
          (grown-at old.volume k.number (unsigned_abs delta)
          (counter-inside header facts c.requires.facts k.number old.volume c.requires.one_each known.0) new.volume
          (subst (λ (z : ℤ). new.volume ≡ slice_set old.volume k.number
          (slice_index_or old.volume k.number 0 + unsigned_abs z)) same c.change.ensures.volume));
    }

pub fold_or_look-requires-clause-call : goal.fold_or_look-requires-clause-call
fold_or_look-requires-clause-call g c = own-looks c.args.header.now c.args.call c.requires.call c.in_default.not-Change

pub returns-in_default-clause-grown : goal.returns-in_default-clause-grown
returns-in_default-clause-grown g c =
    grown-none (page_spent c.args.call) (looks-unspent c.args.header.now c.args.call
    (own-looks c.args.header.now c.args.call c.requires.call c.in_default.not-Change))
    c.fold_or_look.new.pass.volume c.args.pass.now.volume c.fold_or_look.ensures.volume
