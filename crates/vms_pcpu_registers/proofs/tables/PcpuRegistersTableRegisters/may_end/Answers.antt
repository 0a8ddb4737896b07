-- A pass may end where no lock of its slot is left.
use Rattle.std.proofs.Common.{sym, ap, ◌∙◌, arith}
use Rattle.vms_history.specs.Common.{own}
use Rattle.vms_pcpu_core.specs.Common.{holds_lock}
use Rattle.vms_pcpu_registers.specs.Keeps.{mark_of}
use Rattle.vms_pcpu_registers.proofs.ShownConditions.{mark-here, unmarked}
use Rattle.vms_pcpu_registers.proofs.tables.PcpuRegistersTableRegisters.may_end.Goals as goal

pub returns : goal.returns
returns c = λ h held stands keeps.
    let wide = keeps.lock_cells.wide in
    let here = mark-here c.args.facts.now h held c.args.slot c.args.pass stands c.args.self.now keeps in (
      λ yes j j_in. unmarked (holds_lock j (own h c.args.pass))
          (sym (here j j_in) ∙ c.is_empty.ensures.0 yes j (let within = j_in in omega arith)),
      λ nothing. c.is_empty.ensures.1 (λ j j_below.
          let within = j_below in
          here j (omega arith) ∙ ap mark_of (nothing j (omega arith))),
    )
