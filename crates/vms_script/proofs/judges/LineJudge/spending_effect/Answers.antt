use Rattle.std.proofs.Common.{◌≡◌, ◌+◌, nat_lt, refl, sym, ap, subst, ◌∙◌, unsigned_abs, to_z-of_z, SFits, w64, rules}
use Rattle.vms_text.specs.declared.acts.Act.{Act}
use Rattle.vms_text.specs.declared.acts.Act.TheVariants.{Mod, Inc, Dec, Ev, Cnt, Lim}
use Rattle.vms_text.specs.declared.acts.Lane.TheVariants.{Cpu}
use Rattle.vms_text.specs.declared.acts.Line.TheVariants.{Lane}
use Rattle.vms_script.specs.Common.{FindsEffect, spent_on_counter, spent_on_pcpu, volume}
use Rattle.vms_base.specs.Common.{most_volume}
use Rattle.vms_script.proofs.Spendings.{FindsEffect-counters, FindsEffect-events, FindsEffect-pcpu, FindsEffect-quiet}
use Rattle.vms_script.proofs.Spendings.{HasCell-counters, HasCell-events, HasCell-pcpu}
use Rattle.vms_script.proofs.VolumeSums.{measure-here, measure-other}
use Rattle.vms_script.proofs.judges.LineJudge.spending_effect.Goals as goal

pub spend_on_counter-requires : goal.spend_on_counter-requires
spend_on_counter-requires c =
    HasCell-counters c.args.self.now c.args.cpu c.args.act (Mod c.in-Mod.counter c.in-Mod.pages)
    c.in-Mod.counter.number c.in-Mod.is c.requires.knows (λ header is. is.1.0)

pub returns-in-Mod : goal.returns-in-Mod
returns-in-Mod c =
    let fits : SFits w64 c.in-Mod.pages = search rules in
    let size : unsigned_abs c.in-Mod.pages ≡ c.unsigned_abs.result = sym
    (c.unsigned_abs.ensures.value ∙ ap unsigned_abs (to_z-of_z fits)) in
    subst (λ (a : Act). FindsEffect (Lane (Cpu c.args.cpu) a) c.args.self.now c.spend_on_counter.result)
    (sym c.in-Mod.is)
    (FindsEffect-counters c.args.self.now c.args.cpu (Mod c.in-Mod.counter c.in-Mod.pages) c.in-Mod.counter.number
    c.unsigned_abs.result c.spend_on_counter.result c.requires.online (λ d s. refl) (λ e. refl) (λ j. refl)
    (measure-here c.in-Mod.counter.number (unsigned_abs c.in-Mod.pages) ∙ size)
    (λ k other. measure-other c.in-Mod.counter.number k (unsigned_abs c.in-Mod.pages) other)
    (λ header is. is.1.0) (λ lines. ap (λ n. nat_lt most_volume (volume
    (spent_on_counter c.in-Mod.counter.number) c.args.cpu.number lines + n)) size)
    (HasCell-counters c.args.self.now c.args.cpu c.args.act (Mod c.in-Mod.counter c.in-Mod.pages)
    c.in-Mod.counter.number c.in-Mod.is c.requires.knows (λ header is. is.1.0))
    c.spend_on_counter.ensures)

pub spend_on_counter-requires-in-Inc : goal.spend_on_counter-requires-in-Inc
spend_on_counter-requires-in-Inc c =
    HasCell-counters c.args.self.now c.args.cpu c.args.act (Inc c.in-Inc.counter)
    c.in-Inc.counter.number c.in-Inc.is c.requires.knows (λ header is. is.1.0)

pub returns-in-Inc : goal.returns-in-Inc
returns-in-Inc c =
    subst (λ (a : Act). FindsEffect (Lane (Cpu c.args.cpu) a) c.args.self.now c.spend_on_counter-in-Inc.result)
    (sym c.in-Inc.is)
    (FindsEffect-counters c.args.self.now c.args.cpu (Inc c.in-Inc.counter) c.in-Inc.counter.number
    1 c.spend_on_counter-in-Inc.result c.requires.online (λ d s. refl) (λ e. refl) (λ j. refl)
    (measure-here c.in-Inc.counter.number 1)
    (λ k other. measure-other c.in-Inc.counter.number k 1 other)
    (λ header is. is.1.0) (λ lines. refl)
    (HasCell-counters c.args.self.now c.args.cpu c.args.act (Inc c.in-Inc.counter)
    c.in-Inc.counter.number c.in-Inc.is c.requires.knows (λ header is. is.1.0))
    c.spend_on_counter-in-Inc.ensures)

pub spend_on_counter-requires-in-Dec : goal.spend_on_counter-requires-in-Dec
spend_on_counter-requires-in-Dec c =
    HasCell-counters c.args.self.now c.args.cpu c.args.act (Dec c.in-Dec.counter)
    c.in-Dec.counter.number c.in-Dec.is c.requires.knows (λ header is. is.1.0)

pub returns-in-Dec : goal.returns-in-Dec
returns-in-Dec c =
    subst (λ (a : Act). FindsEffect (Lane (Cpu c.args.cpu) a) c.args.self.now c.spend_on_counter-in-Dec.result)
    (sym c.in-Dec.is)
    (FindsEffect-counters c.args.self.now c.args.cpu (Dec c.in-Dec.counter) c.in-Dec.counter.number
    1 c.spend_on_counter-in-Dec.result c.requires.online (λ d s. refl) (λ e. refl) (λ j. refl)
    (measure-here c.in-Dec.counter.number 1)
    (λ k other. measure-other c.in-Dec.counter.number k 1 other)
    (λ header is. is.1.0) (λ lines. refl)
    (HasCell-counters c.args.self.now c.args.cpu c.args.act (Dec c.in-Dec.counter)
    c.in-Dec.counter.number c.in-Dec.is c.requires.knows (λ header is. is.1.0))
    c.spend_on_counter-in-Dec.ensures)

pub spend_on_event-requires : goal.spend_on_event-requires
spend_on_event-requires c =
    HasCell-events c.args.self.now c.args.cpu c.args.act (Ev c.in-Ev.event c.in-Ev.n)
    c.in-Ev.event.number c.in-Ev.is c.requires.knows (λ header is. is.1)

pub returns-in-Ev : goal.returns-in-Ev
returns-in-Ev c =
    subst (λ (a : Act). FindsEffect (Lane (Cpu c.args.cpu) a) c.args.self.now c.spend_on_event.result)
    (sym c.in-Ev.is)
    (FindsEffect-events c.args.self.now c.args.cpu (Ev c.in-Ev.event c.in-Ev.n) c.in-Ev.event.number
    c.in-Ev.n c.spend_on_event.result c.requires.online (λ d s. refl) (λ e. refl) (λ j. refl)
    (measure-here c.in-Ev.event.number c.in-Ev.n)
    (λ k other. measure-other c.in-Ev.event.number k c.in-Ev.n other)
    (λ header is. is.1) (λ lines. refl)
    (HasCell-events c.args.self.now c.args.cpu c.args.act (Ev c.in-Ev.event c.in-Ev.n)
    c.in-Ev.event.number c.in-Ev.is c.requires.knows (λ header is. is.1))
    c.spend_on_event.ensures)

pub spend_on_pcpu-requires : goal.spend_on_pcpu-requires
spend_on_pcpu-requires c =
    HasCell-pcpu c.args.self.now c.args.cpu c.args.act (Cnt c.in-Cnt.counter c.in-Cnt.amount)
    c.in-Cnt.counter.number c.in-Cnt.is c.requires.knows (λ header is. is.1)

pub returns-in-Cnt : goal.returns-in-Cnt
returns-in-Cnt c =
    let fits : SFits w64 c.in-Cnt.amount = search rules in
    let size : unsigned_abs c.in-Cnt.amount ≡ c.unsigned_abs-in-Cnt.result = sym
    (c.unsigned_abs-in-Cnt.ensures.value ∙ ap unsigned_abs (to_z-of_z fits)) in
    subst (λ (a : Act). FindsEffect (Lane (Cpu c.args.cpu) a) c.args.self.now c.spend_on_pcpu.result)
    (sym c.in-Cnt.is)
    (FindsEffect-pcpu c.args.self.now c.args.cpu (Cnt c.in-Cnt.counter c.in-Cnt.amount) c.in-Cnt.counter.number
    c.unsigned_abs-in-Cnt.result c.spend_on_pcpu.result c.requires.online (λ d s. refl) (λ e. refl) (λ j. refl)
    (measure-here c.in-Cnt.counter.number (unsigned_abs c.in-Cnt.amount) ∙ size)
    (λ k other. measure-other c.in-Cnt.counter.number k (unsigned_abs c.in-Cnt.amount) other)
    (λ header is. is.1) (λ lines. ap (λ n. nat_lt most_volume (volume
    (spent_on_pcpu c.in-Cnt.counter.number) c.args.cpu.number lines + n)) size)
    (HasCell-pcpu c.args.self.now c.args.cpu c.args.act (Cnt c.in-Cnt.counter c.in-Cnt.amount)
    c.in-Cnt.counter.number c.in-Cnt.is c.requires.knows (λ header is. is.1))
    c.spend_on_pcpu.ensures)

pub spend_on_pcpu-requires-in-Lim : goal.spend_on_pcpu-requires-in-Lim
spend_on_pcpu-requires-in-Lim c =
    HasCell-pcpu c.args.self.now c.args.cpu c.args.act (Lim c.in-Lim.counter c.in-Lim.field-1 c.in-Lim.amount)
    c.in-Lim.counter.number c.in-Lim.is c.requires.knows (λ header is. is.1)

pub returns-in-Lim : goal.returns-in-Lim
returns-in-Lim c =
    let fits : SFits w64 c.in-Lim.amount = search rules in
    let size : unsigned_abs c.in-Lim.amount ≡ c.unsigned_abs-in-Lim.result = sym
    (c.unsigned_abs-in-Lim.ensures.value ∙ ap unsigned_abs (to_z-of_z fits)) in
    subst (λ (a : Act). FindsEffect (Lane (Cpu c.args.cpu) a) c.args.self.now c.spend_on_pcpu-in-Lim.result)
    (sym c.in-Lim.is)
    (FindsEffect-pcpu c.args.self.now c.args.cpu (Lim c.in-Lim.counter c.in-Lim.field-1 c.in-Lim.amount)
    c.in-Lim.counter.number c.unsigned_abs-in-Lim.result c.spend_on_pcpu-in-Lim.result c.requires.online
    (λ d s. refl) (λ e. refl) (λ j. refl) (measure-here c.in-Lim.counter.number (unsigned_abs c.in-Lim.amount) ∙ size)
    (λ k other. measure-other c.in-Lim.counter.number k (unsigned_abs c.in-Lim.amount) other)
    (λ header is. is.1) (λ lines. ap (λ n. nat_lt most_volume (volume
    (spent_on_pcpu c.in-Lim.counter.number) c.args.cpu.number lines + n)) size)
    (HasCell-pcpu c.args.self.now c.args.cpu c.args.act (Lim c.in-Lim.counter c.in-Lim.field-1 c.in-Lim.amount)
    c.in-Lim.counter.number c.in-Lim.is c.requires.knows (λ header is. is.1))
    c.spend_on_pcpu-in-Lim.ensures)

pub returns-in_default : goal.returns-in_default
returns-in_default c = FindsEffect-quiet c.args.self.now c.args.cpu c.requires.online c.args.act
    (record {
      no_mod = c.in_default.not-Mod;
      no_inc = c.in_default.not-Inc;
      no_dec = c.in_default.not-Dec;
      no_ev = c.in_default.not-Ev;
      no_cnt = c.in_default.not-Cnt;
      no_lim = c.in_default.not-Lim;
    })
