-- What registers show of the page events of a phase.
use Rattle.vms_world.specs.Common.{Facts, pages}
use Rattle.vms_core.specs.Pages.{History}
use Rattle.vms_registers.specs.Shows.{Parts, Shows}
use Rattle.vms_page_registers.specs.declared.registers.PageRegisters.{PageRegisters}
use Rattle.vms_page_registers.specs.Keeps.{KeepsPages}

abbrev pub ShowsPages : Facts → History → Parts PageRegisters → Type 0
ShowsPages facts h r = Shows pages (λ facts. facts.layout.cpus) KeepsPages facts h r
