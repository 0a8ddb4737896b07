-- The goals were that the places fit, and that the differentials of one more group are unpacked.
use Rattle.std.proofs.Common.{◌+◌, ◌*◌, ap, ◌∙◌, arith}
use Rattle.vms_base.specs.Groups.{bytes_of_word}
use Rattle.vms_base.proofs.Common.{cell-lt}
use Rattle.vms_calls.specs.Common.{state_after}
use Rattle.vms_words.specs.Shown.{shown}
use Rattle.vms_words.proofs.Filled.{got}
use Rattle.vms_words.proofs.GroupRows.{unpacked-more}
use Rattle.vms_words.proofs.endings.fill_groups.Goals as goal

pub overflow_mul-cpu-in-loop-group : goal.overflow_mul-cpu-in-loop-group
overflow_mul-cpu-in-loop-group c =
    let inside = cell-lt c.args.groups c.args.cpus c.loop-cpu.cpu c.loop-group.group c.loop-cpu-test.true
    c.loop-group-test.true in
    record { fits = omega (arith, inside, c.requires.whole, c.requires.fits.1) }

pub overflow_add-cpu : goal.overflow_add-cpu
overflow_add-cpu c =
    let inside = cell-lt c.args.groups c.args.cpus c.loop-cpu.cpu c.loop-group.group c.loop-cpu-test.true
    c.loop-group-test.true in
    record { fits = omega (arith, inside, c.requires.whole, c.requires.fits.1) }

pub overflow_mul-cpu-in-loop-group-2 : goal.overflow_mul-cpu-in-loop-group-2
overflow_mul-cpu-in-loop-group-2 c =
    let inside = cell-lt c.args.groups c.args.cpus c.loop-cpu.cpu c.loop-group.group c.loop-cpu-test.true
    c.loop-group-test.true in
    record { fits = omega (arith, inside, c.requires.whole, c.requires.fits.1) }

pub loop-group-preserved : goal.loop-group-preserved
loop-group-preserved c =
    let words = shown c.args.closing.now.facts (state_after c.args.closing.now.facts c.args.closing.now.events) in
    let place = c.args.start + c.loop-cpu.cpu * c.args.width + c.loop-group.group in (
      c.put_list.ensures.len ∙ c.loop-group.invariant.0,
      unpacked-more words c.args.start c.args.width c.args.groups c.loop-cpu.cpu c.loop-group.group c.put_list.new.row
          c.loop-group.row c.unpack-diffs.result.values c.loop-group-test.true
          (c.unpack-diffs.ensures.value ∙ ap bytes_of_word (got words place c.word.result c.word.ensures))
          c.put_list.ensures.each c.put_list.ensures.before c.loop-group.invariant.1,
    )
