use Rattle.vms_look.proofs.TruePages.{marks-keep_high, no_marks-keep_limit}
use Rattle.vms_look.proofs.laws.values_tell_true_pages.Goals as goal

pub returns : goal.returns
returns c = record { marked = marks-keep_high; unmarked = no_marks-keep_limit }
