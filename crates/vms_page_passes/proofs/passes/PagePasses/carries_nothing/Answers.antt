-- A pass carries nothing where no amount of its slot is left, since none is past those of the layout.
use Rattle.vms_page_passes.proofs.ShownConditions.{carries_nothing-shown}
use Rattle.vms_page_passes.proofs.passes.PagePasses.carries_nothing.Goals as goal

pub returns : goal.returns
returns c = λ facts h held p stands keeps.
    let is = carries_nothing-shown facts h held c.args.slot p stands c.args.self.now keeps in
    (λ yes. is.0 (c.are_none.ensures.0 yes), λ nothing. c.are_none.ensures.1 (is.1 nothing))
