use Rattle.vms_text.proofs.TextLaws.{position-searched}
use Rattle.vms_text.proofs.cutting.first_newline.Goals as goal

pub returns : goal.returns
returns c = position-searched c.args.text.now c.memchr.result c.memchr.ensures
