use Rattle.vms_group_report.proofs.pendings.+is_in_subtree.Given as goal

abbrev pub decreases-is_in_subtree : goal.decreases-is_in_subtree
decreases-is_in_subtree l = l.group
