-- Nothing to add, without the lock, and under it.
use Rattle.std.proofs.Common.{◌≡◌, Bool, true, false, ℤ, sym, ap, subst, ◌∙◌, arith, if◌then◌else◌}
use Rattle.vms_pcpu_core.specs.declared.states.PcpuState.{PcpuState}
use Rattle.vms_plain_pcpu.specs.Common.{goes_unlocked, with_local_added, with_local_moved}
use Rattle.vms_plain_pcpu.proofs.LimitSteps.{AnswersByLimit-by_room, MakesLimited, MakesLimited-nothing}
use Rattle.vms_plain_pcpu.proofs.LimitSteps.{MakesLimited-settled, MakesLimited-unlocked, goes_unlocked-words}
use Rattle.vms_plain_pcpu.proofs.LimitSteps.{keeps-unlocked, keeps-words, unlocked-far, unlocked-stays}
use Rattle.vms_plain_pcpu.proofs.SignedWords.{other_word, same_word, zero_word}
use Rattle.vms_plain_pcpu.proofs.limiting.limited_add.Goals as goal

pub returns-then-amount-eq0-clause-made : goal.returns-then-amount-eq0-clause-made
returns-then-amount-eq0-clause-made c =
    MakesLimited-nothing c.args.counters.now c.args.states.now c.args.cpu c.args.counter c.args.limit c.args.amount
    (zero_word c.args.amount (omega (arith, c.requires.amount)) c.if-amount-eq0.true)

pub returns-then-goes_unlocked-clause-keeps : goal.returns-then-goes_unlocked-clause-keeps
returns-then-goes_unlocked-clause-keeps c =
    let s = c.args.counters.now in
    let states = c.args.states.now in
    let cpu = c.args.cpu in
    let j = c.args.counter in
    let limit = c.args.limit in
    let amount = c.args.amount in
    let goes : goes_unlocked s states cpu.number j.number limit amount ≡ true =
    sym (c.goes_unlocked.ensures ∙ goes_unlocked-words s states cpu.number j.number limit amount c.requires.limit
    c.requires.amount) ∙ c.if-goes_unlocked.true in
    AnswersByLimit-by_room s states j.number limit amount true (other_word c.args.amount c.if-amount-eq0.false)
    (sym (keeps-unlocked s states j.number limit amount c.requires.room cpu.number c.requires.present
    (unlocked-stays s states cpu j limit amount goes) (unlocked-far s states cpu j limit amount goes)))

pub returns-then-goes_unlocked-clause-made : goal.returns-then-goes_unlocked-clause-made
returns-then-goes_unlocked-clause-made c =
    let s = c.args.counters.now in
    let states = c.args.states.now in
    let cpu = c.args.cpu in
    let j = c.args.counter in
    let limit = c.args.limit in
    let amount = c.args.amount in
    let goes : goes_unlocked s states cpu.number j.number limit amount ≡ true =
    sym (c.goes_unlocked.ensures ∙ goes_unlocked-words s states cpu.number j.number limit amount c.requires.limit
    c.requires.amount) ∙ c.if-goes_unlocked.true in
    let is = c.add_local.ensures
    ∙ ap (λ (z : ℤ). with_local_added cpu.number j.number z s) (same_word amount (omega (arith, c.requires.amount))) in
    subst (MakesLimited s states cpu j limit amount true) (sym is)
    (MakesLimited-unlocked s states cpu j limit amount (other_word c.args.amount c.if-amount-eq0.false) goes)

pub returns-then-keeps-clause-keeps : goal.returns-then-keeps-clause-keeps
returns-then-keeps-clause-keeps c =
    let s = c.args.counters.now in
    let states = c.args.states.now in
    let j = c.args.counter.number in
    AnswersByLimit-by_room s states j c.args.limit c.args.amount c.keeps_limit-keeps.result
    (other_word c.args.amount c.if-amount-eq0.false)
    (c.keeps_limit-keeps.ensures
    ∙ keeps-words s states c.args.cpu.number j c.args.limit c.args.amount c.requires.limit c.requires.amount)

pub returns-else-keeps-clause-keeps : goal.returns-else-keeps-clause-keeps
returns-else-keeps-clause-keeps c =
    let s = c.args.counters.now in
    let states = c.args.states.now in
    let j = c.args.counter.number in
    AnswersByLimit-by_room s states j c.args.limit c.args.amount c.keeps_limit-keeps.result
    (other_word c.args.amount c.if-amount-eq0.false)
    (c.keeps_limit-keeps.ensures
    ∙ keeps-words s states c.args.cpu.number j c.args.limit c.args.amount c.requires.limit c.requires.amount)

pub returns-then-keeps-clause-made : goal.returns-then-keeps-clause-made
returns-then-keeps-clause-made c =
    let s = c.args.counters.now in
    let states = c.args.states.now in
    let cpu = c.args.cpu in
    let j = c.args.counter in
    let limit = c.args.limit in
    let amount = c.args.amount in
    let goes : goes_unlocked s states cpu.number j.number limit amount ≡ false =
    sym (c.goes_unlocked.ensures ∙ goes_unlocked-words s states cpu.number j.number limit amount c.requires.limit
    c.requires.amount) ∙ c.if-goes_unlocked.false in
    let moved : PcpuState = with_local_moved cpu.number j.number amount s in
    let is : c.move_local.new.counters ≡ moved = c.move_local.ensures
    ∙ ap (λ (z : ℤ). with_local_moved cpu.number j.number z s) (same_word amount (omega (arith, c.requires.amount))) in
    MakesLimited-settled s states cpu j limit amount c.requires.room
    (other_word c.args.amount c.if-amount-eq0.false) goes c.keeps_limit-keeps.result
    (c.keeps_limit-keeps.ensures
    ∙ keeps-words s states cpu.number j.number limit amount c.requires.limit c.requires.amount)
    c.move_local.new.counters (is ∙ ap (λ (b : Bool). if b then moved else s) (sym c.if-keeps.true))

pub returns-else-keeps-clause-made : goal.returns-else-keeps-clause-made
returns-else-keeps-clause-made c =
    let s = c.args.counters.now in
    let states = c.args.states.now in
    let cpu = c.args.cpu in
    let j = c.args.counter in
    let limit = c.args.limit in
    let amount = c.args.amount in
    let goes : goes_unlocked s states cpu.number j.number limit amount ≡ false =
    sym (c.goes_unlocked.ensures ∙ goes_unlocked-words s states cpu.number j.number limit amount c.requires.limit
    c.requires.amount) ∙ c.if-goes_unlocked.false in
    let moved : PcpuState = with_local_moved cpu.number j.number amount s in
    MakesLimited-settled s states cpu j limit amount c.requires.room
    (other_word c.args.amount c.if-amount-eq0.false) goes c.keeps_limit-keeps.result
    (c.keeps_limit-keeps.ensures
    ∙ keeps-words s states cpu.number j.number limit amount c.requires.limit c.requires.amount)
    s (ap (λ (b : Bool). if b then moved else s) (sym c.if-keeps.false))
