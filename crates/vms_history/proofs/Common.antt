-- For other crates too: the lemmas that they cite, passed on from one place. Declares nothing.
pub use Rattle.vms_history.proofs.Choices.{if-cancels, if-either, if-map, if-never, zero_or_not}
pub use Rattle.vms_history.proofs.Own.{Extends-after, Extends-both, Extends-same, after-append, after-steps, own-after}
pub use Rattle.vms_history.proofs.Own.{own-after_others, own-append, own-fact, own-mine, own-none, own-on_top}
pub use Rattle.vms_history.proofs.Own.{own-others}
pub use Rattle.vms_history.proofs.Prefixes.{acts_of, base_can_begin, legal_before, own-keeps, prefix_is_legal}
pub use Rattle.vms_history.proofs.Prefixes.{state_after-keeps}
pub use Rattle.vms_history.proofs.PassLaws.{Acts-same, begun_in-append, caller_is_below, caller_is_given, caller_lives}
pub use Rattle.vms_history.proofs.PassLaws.{caller_works, live_is_given, lives_in-before, lives_in-main}
pub use Rattle.vms_history.proofs.PassLaws.{lives_in-others, lives_in-role, nothing_follows, one_live_owner, own-ended}
pub use Rattle.vms_history.proofs.PassLaws.{own-not_given, owner_acts_alone, owner_in-append, owner_in-main}
pub use Rattle.vms_history.proofs.PassLaws.{owner_in-not_given, owner_in-others, owner_in-role}
pub use Rattle.vms_history.proofs.Owners.{owner_is_caller, owner_is_given, owner_may_own, same_cpu}
pub use Rattle.vms_history.proofs.OwnAt.{last_in_row}
pub use Rattle.vms_history.proofs.GoesOn.{holds_while_live}
pub use Rattle.vms_history.proofs.FreeOwners.{holds_while_free}
pub use Rattle.vms_history.proofs.MadeSteps.{earlier-legal, joined-legal, made-both, made-given, made-none, made-one}
pub use Rattle.vms_history.proofs.MadeSteps.{made-owner}
pub use Rattle.vms_history.proofs.SumLaws.{sum_below-changed, sum_below-one, sum_below-only, sum_below-same}
pub use Rattle.vms_history.proofs.SumLaws.{sum_below-sum, sum_below-zeros, total-append}
pub use Rattle.vms_history.proofs.SumBounds.{sum_below-each, sum_below-le, sum_below-most, sum_below-not_negative}
pub use Rattle.vms_history.proofs.SumBounds.{sum_below-size}
pub use Rattle.vms_history.proofs.CountLemmas.{count_below-least, count_below-most, count_below-same, count_below-sum}
pub use Rattle.vms_history.proofs.CountLemmas.{largest_below-least, largest_below-most, pos-count_below}
pub use Rattle.vms_history.proofs.CountLemmas.{sum_below-sizes}
pub use Rattle.vms_history.proofs.CallerSums.{sum_below-callers, total-by_parts, total-of_callers}
pub use Rattle.vms_history.proofs.Cells.{get_or-changed, get_or-changed_cell, get_or-set, get_or-set_cell}
pub use Rattle.vms_history.proofs.TakenOnce.{TakenOnce, TakenOnce-left, TakenOnce-none, TakenOnce-taken}
pub use Rattle.vms_history.proofs.InRow.{LeadsOn-append, call-goes_on, steps-go_on}
