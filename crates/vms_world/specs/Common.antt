-- The names of this crate and of those below it that the crates above cite, passed on from one place.
pub use Rattle.vms_base.specs.declared.failures.Memory.{Memory}
pub use Rattle.vms_base.specs.declared.groups.Diffs.{Diffs}
pub use Rattle.vms_base.specs.declared.headers.Decl.{Decl}
pub use Rattle.vms_base.specs.declared.headers.Header.{Header}
pub use Rattle.vms_base.specs.declared.headers.ItemDecl.{ItemDecl}
pub use Rattle.vms_base.specs.declared.ids.CounterId.{CounterId}
pub use Rattle.vms_base.specs.declared.ids.CpuId.{CpuId}
pub use Rattle.vms_base.specs.declared.ids.GroupId.{GroupId}
pub use Rattle.vms_base.specs.declared.ids.ItemId.{ItemId}
pub use Rattle.vms_base.specs.declared.ids.PlaceId.{PlaceId}
pub use Rattle.vms_base.specs.declared.kinds.CpuState.{CpuState}
pub use Rattle.vms_base.specs.declared.kinds.CpuState.TheVariants.{Absent}
pub use Rattle.vms_base.specs.declared.kinds.Mode.{Mode}
pub use Rattle.vms_base.specs.declared.kinds.WaterMark.{WaterMark}
pub use Rattle.vms_base.specs.declared.kinds.WaterMark.TheVariants.{High}
pub use Rattle.vms_base.specs.declared.kinds.ZoneName.{ZoneName}
pub use Rattle.vms_base.specs.declared.kinds.ZoneSize.{ZoneSize}
pub use Rattle.vms_base.specs.declared.spending.CpuVolumes.{CpuVolumes}
pub use Rattle.vms_base.specs.Numbers.{bits_of}
pub use Rattle.vms_base.specs.Places.{IsCounter, IsCpu, IsItem, IsLayout, IsNode, IsPlace, IsZone, Shape, cell}
pub use Rattle.vms_base.specs.Places.{counter_at, counter_count, first_of_group, group_of, item_count, item_of}
pub use Rattle.vms_base.specs.Places.{node_of_zone, place_count, place_of, zone_at, zone_index}
pub use Rattle.vms_base.specs.Cpus.{HasOnline, MayOwnCpu, is_online, is_present, online_from, present_from, state_at}
pub use Rattle.vms_base.specs.Volumes.{most_volume}
pub use Rattle.vms_base.specs.Sizes.{IsValidSize, size_at}
pub use Rattle.vms_base.specs.Names.{event_names, kind_names, node_items}
pub use Rattle.vms_base.specs.Headers.{IsHeader, class_names, declared_names}
pub use Rattle.vms_base.specs.Areas.{Area, area_at, area_names, areas_from, areas_named, areas_of}
pub use Rattle.vms_base.specs.Thresholds.{GivesThresholds, most_threshold, normal_threshold_of, pressure_threshold_of}
pub use Rattle.vms_base.specs.Watermarks.{limit_of, reserve_of}
pub use Rattle.vms_calc.specs.Rules.{IsThresholdRule, RulePair}
pub use Rattle.vms_text.specs.declared.acts.Act.{Act}
pub use Rattle.vms_text.specs.declared.acts.Act.TheVariants.{Cmp, Cnt, Ev, EvSum, Fold, Kswapd, Lim, Normal, Pressure}
pub use Rattle.vms_text.specs.declared.acts.Act.TheVariants.{Rough, Snap, Sys, Val, Water}
pub use Rattle.vms_text.specs.declared.acts.Boundary.TheVariants.{Flush, Offline, Report}
pub use Rattle.vms_text.specs.declared.acts.Item.{Item}
pub use Rattle.vms_text.specs.declared.acts.Lane.{Lane}
pub use Rattle.vms_text.specs.declared.acts.Lane.TheVariants.{Control, Cpu}
pub use Rattle.vms_text.specs.declared.acts.Line.{Line}
pub use Rattle.vms_text.specs.declared.acts.Line.TheVariants.{Blank}
pub use Rattle.vms_text.specs.declared.acts.ReportKind.{ReportKind}
pub use Rattle.vms_text.specs.declared.acts.ReportKind.TheVariants.{Counters, Totals, Vmstat, Zoneinfo}
pub use Rattle.vms_text.specs.Lines.{lines_of}
pub use Rattle.vms_text.specs.PlaceNames.{is_node_place}
pub use Rattle.vms_text.specs.Spelling.{entry_if_any, place_words, sentence}
pub use Rattle.vms_text.specs.Writing.{spaced, text_of}
pub use Rattle.vms_text.specs.KeptLanes.{IsKeepableLane}
pub use Rattle.vms_history.specs.declared.events.Event.{Event}
pub use Rattle.vms_history.specs.Sums.{count_below, largest_below, sum_below}
pub use Rattle.vms_history.specs.Events.{Extends, after, own, total}
pub use Rattle.vms_history.specs.Passes.{IsFree, Role, begun, begun_after, begun_in, lives, lives_after, lives_in}
pub use Rattle.vms_history.specs.Passes.{owner, owner_after, owner_in}
pub use Rattle.vms_history.specs.Passes.Role.{Ends, Works}
pub use Rattle.vms_history.specs.Legal.{Acts, IsQuiet, Machine}
pub use Rattle.vms_history.specs.InRow.{GoesOnTo, LeadsOn}
pub use Rattle.vms_line.specs.declared.causes.LineCause.{LineCause}
pub use Rattle.vms_line.specs.declared.causes.LineCause.TheVariants.{LastCpu, NotOnline, Overflow}
pub use Rattle.vms_line.specs.Spelling.{spelled_line}
pub use Rattle.vms_line.specs.Laws.{IsActOf, IsDeclared, IsKnownValue, IsLaneOf, IsLineOf}
pub use Rattle.vms_core.specs.declared.states.State.{State}
pub use Rattle.vms_core.specs.declared.steps.Facts.{Facts}
pub use Rattle.vms_core.specs.declared.steps.Step.{Step}
pub use Rattle.vms_core.specs.declared.steps.Step.TheVariants.{AddG, AddS, LoadD, LoadG, LoadM, LoadO, LoadS, LoadT}
pub use Rattle.vms_core.specs.declared.steps.Step.TheVariants.{Miss, Put, SetA, SetM, SetO, SetT, Take}
pub use Rattle.vms_core.specs.Cells.{cpu_at, diff_at, entry, mark_at, mark_sets_at, system_at, threshold_at}
pub use Rattle.vms_core.specs.Cells.{threshold_sets_at, value_at, with_cpu, with_diff}
pub use Rattle.vms_core.specs.Changes.{carried_by}
pub use Rattle.vms_core.specs.ChangedStates.{with_carried, with_change}
pub use Rattle.vms_core.specs.Effects.{mark_sets_after}
pub use Rattle.vms_core.specs.Own.{carried_of_item}
pub use Rattle.vms_core.specs.Totals.{change_of, change_size, differentials}
pub use Rattle.vms_core.specs.Peaks.{cpu_after, cpu_in, if_present, opening_peak, peak, sets_after}
pub use Rattle.vms_core.specs.Bases.{IsBase, IsOpening, next_facts, settled}
pub use Rattle.vms_core.specs.Plain.{IsPlainBase, most_sets}
pub use Rattle.vms_core.specs.Conditions.{IsControl, SetsAbsent}
pub use Rattle.vms_core.specs.Pages.{pages}
pub use Rattle.vms_core.specs.Quiet.{quiet_pages}
pub use Rattle.vms_core.specs.Taken.{MovesOnce}
pub use Rattle.vms_core.specs.Spending.{is_owner}
pub use Rattle.vms_core.specs.Laws.{KeepsLaws}
pub use Rattle.vms_core.specs.Ends.{AreWithinVolumes, IsWithinVolumes, grown}
pub use Rattle.vms_event_core.specs.declared.call_values.EventAnswer.{EventAnswer}
pub use Rattle.vms_event_core.specs.declared.call_values.EventAnswer.TheVariants.{Total}
pub use Rattle.vms_event_core.specs.declared.call_values.EventCall.{EventCall}
pub use Rattle.vms_event_core.specs.declared.call_values.EventCall.TheVariants.{Count}
pub use Rattle.vms_event_core.specs.declared.states.EventState.{EventState}
pub use Rattle.vms_event_core.specs.declared.steps.EventFacts.{EventFacts}
pub use Rattle.vms_event_core.specs.declared.steps.EventStep.{EventStep}
pub use Rattle.vms_event_core.specs.declared.steps.EventStep.TheVariants.{AddE, AddF, TakeE}
pub use Rattle.vms_event_core.specs.Words.{IsEvent, event_count, sum_of_words, word_at}
pub use Rattle.vms_event_core.specs.Totals.{counted, word_after, word_in}
pub use Rattle.vms_event_core.specs.Bases.{IsLowestOnline, most_in_base}
pub use Rattle.vms_event_core.specs.Events.{events}
pub use Rattle.vms_event_core.specs.Quiet.{quiet_events}
pub use Rattle.vms_event_core.specs.Calls.{IsCpuCall, IsEventCall, IsFoldEvents, event_spent, folds, moves, online_cpus}
pub use Rattle.vms_event_core.specs.Calls.{read_event_call, sum_over}
pub use Rattle.vms_event_core.specs.CallLaws.{CarryAsBefore}
pub use Rattle.vms_pcpu_core.specs.declared.answers.PcpuAnswer.{PcpuAnswer}
pub use Rattle.vms_pcpu_core.specs.declared.answers.PcpuAnswer.TheVariants.{Limited}
pub use Rattle.vms_pcpu_core.specs.declared.pcpu_calls.PcpuCall.{PcpuCall}
pub use Rattle.vms_pcpu_core.specs.declared.pcpu_calls.PcpuCall.TheVariants.{Add, Compare, LimitedAdd, Read}
pub use Rattle.vms_pcpu_core.specs.declared.states.PcpuState.{PcpuState}
pub use Rattle.vms_pcpu_core.specs.declared.steps.PcpuFacts.{PcpuFacts}
pub use Rattle.vms_pcpu_core.specs.declared.steps.PcpuStep.{PcpuStep}
pub use Rattle.vms_pcpu_core.specs.declared.steps.PcpuStep.TheVariants.{AddC, AddL, Missed, TakeL, Unlock, Won}
pub use Rattle.vms_pcpu_core.specs.States.{IsPcpu, LockedState, count_at, local_at, unlocked}
pub use Rattle.vms_pcpu_core.specs.Bases.{most_batch, most_count}
pub use Rattle.vms_pcpu_core.specs.Own.{HoldsNoLock, carried_after, holds_lock, holds_lock_after}
pub use Rattle.vms_pcpu_core.specs.Totals.{amount_of, amounts, locals}
pub use Rattle.vms_pcpu_core.specs.OwnSteps.{IsIdle, as_is, own_added, size_of}
pub use Rattle.vms_pcpu_core.specs.Conditions.{MayTake, Meets}
pub use Rattle.vms_pcpu_core.specs.Histories.{percpu}
pub use Rattle.vms_pcpu_core.specs.Quiet.{quiet_percpu}
pub use Rattle.vms_pcpu_core.specs.Laws.{numbers_after}
pub use Rattle.vms_pcpu_core.specs.Calls.{IsFoldDead}
pub use Rattle.vms_pcpu_core.specs.PcpuCalls.{AddsAmounts, IsOwnersCall, IsPcpuCall, LeavesVolume, MakesPcpuCall}
pub use Rattle.vms_pcpu_core.specs.PcpuCalls.{NamesKnown, pcpu_added, pcpu_spent, read_pcpu_call, says_made}
pub use Rattle.vms_script.specs.declared.lane_scripts.LaneItem.{LaneItem}
pub use Rattle.vms_script.specs.declared.scripters.Fed.{Fed}
pub use Rattle.vms_script.specs.declared.scripters.Fed.TheVariants.{Kept}
pub use Rattle.vms_script.specs.declared.scripters.FeedError.{FeedError}
pub use Rattle.vms_script.specs.declared.scripters.Scripter.{Scripter}
pub use Rattle.vms_script.specs.Cpus.{online_among, state_past}
pub use Rattle.vms_script.specs.Volumes.{by_cpu, spent_on_counter, spent_on_event, spent_on_pcpu, volume}
pub use Rattle.vms_script.specs.Starts.{Start, first_start, start_after, start_at_end, start_past}
pub use Rattle.vms_script.specs.Judging.{allowed, allowed_burial, allowed_from, allowed_of_control, allowed_online}
pub use Rattle.vms_script.specs.Judging.{counted_of, judged, overflows_from, with_counted}
pub use Rattle.vms_script.specs.Totals.{ArePlainTotals, change_by, changes_by, changes_by_all, line_of, plain_total}
pub use Rattle.vms_script.specs.PhaseScripts.{IsLaneScript, IsPhaseScript, is_lane, lane_item, lane_items, most_items}
pub use Rattle.vms_script.specs.FittingScripts.{AreAllowed, Fits}
pub use Rattle.vms_script.specs.Scripts.{Gave, HoldsScript, IsOpenScript, MayKeep, Script, SomeScripter, first_script}
pub use Rattle.vms_script.specs.Scripts.{phase_start, script_with_line, with_taken}
pub use Rattle.vms_script.specs.Segments.{AreSegments, Between, Phase, Segment, contents_of, lines_of_segment}
pub use Rattle.vms_script.specs.Segments.{lines_of_segments, numbered_lines, phase_if_any, segments_of, segments_with}
pub use Rattle.vms_script.specs.Segments.{segments_with_item}
pub use Rattle.vms_calls.specs.declared.answers.Balance.{Balance}
pub use Rattle.vms_calls.specs.declared.answers.Balance.TheVariants.{No, Yes}
pub use Rattle.vms_calls.specs.declared.answers.OrderVerdict.{OrderVerdict}
pub use Rattle.vms_calls.specs.declared.answers.Verdict.{Verdict}
pub use Rattle.vms_calls.specs.Lists.{in_turn}
pub use Rattle.vms_calls.specs.HeaderFacts.{facts_of}
pub use Rattle.vms_calls.specs.Changes.{Carries, Exchanges, HasWon, IsChange}
pub use Rattle.vms_calls.specs.Changes.Carries.{amount, nothing}
pub use Rattle.vms_calls.specs.Changes.Exchanges.{missed, won}
pub use Rattle.vms_calls.specs.ChangeReadings.{TellsChange, read_change}
pub use Rattle.vms_calls.specs.LoneChanges.{GoesOnWithChange}
pub use Rattle.vms_calls.specs.Looks.{Frees, IsPlaceValue, IsSnapshot, IsSystemValue, IsWatermarkTest, Look}
pub use Rattle.vms_calls.specs.Looks.{at_least_zero, free_pages, is_doubtful, look_steps}
pub use Rattle.vms_calls.specs.Looks.Look.{online, other}
pub use Rattle.vms_calls.specs.LookReadings.{TellsPlaceValue, TellsSnapshot, TellsSystemValue, TellsTest, read_snapshot}
pub use Rattle.vms_calls.specs.LookReadings.{read_test, read_value}
pub use Rattle.vms_calls.specs.Folds.{FoundPlace, IsFold, acknowledges, group_steps, lists_of, place_steps}
pub use Rattle.vms_calls.specs.Folds.{system_steps, taken_of_item, to_place, to_system}
pub use Rattle.vms_calls.specs.FoldReadings.{TellsFold, read_fold}
pub use Rattle.vms_calls.specs.Ratings.{Buries, ByNormal, ByPressure, Choice, Rates, RatesMarked, RatesNode, Refreshes}
pub use Rattle.vms_calls.specs.Ratings.{SetsNormal, SetsPressure, Visits, VisitsEach, acknowledged_steps, largest_on}
pub use Rattle.vms_calls.specs.Ratings.{node_number, numbers_below, rating_steps, state_steps, threshold_steps}
pub use Rattle.vms_calls.specs.Ratings.{zones_on}
pub use Rattle.vms_calls.specs.Ratings.RatesMarked.{marked, unmarked}
pub use Rattle.vms_calls.specs.Ratings.VisitsEach.{next}
pub use Rattle.vms_calls.specs.RatingReadings.{read_burial, read_node_rating}
pub use Rattle.vms_calls.specs.Turns.{IsTurn, SetsAfterYes, blocks_at, has_room, zones_up_to}
pub use Rattle.vms_calls.specs.TurnReadings.{block_or, passed_or, read_areas, read_balance, read_blocks}
pub use Rattle.vms_calls.specs.TurnReadings.{read_order_test, read_turn, read_zones, settled_read, with_blocks}
pub use Rattle.vms_calls.specs.CallerLaws.{CarriesAsBefore, ChangesLeave, Leaves, LeavesCaller}
pub use Rattle.vms_calls.specs.MayMake.{ControlsIn, HasMade, IsLivePass, MayBegin}
pub use Rattle.vms_calls.specs.MayCall.{KnowsByOwnSteps, MakesBurial, MakesFold, MakesPlaceValue, MakesSnapshot}
pub use Rattle.vms_calls.specs.MayCall.{MakesSystemValue, MakesTest}
pub use Rattle.vms_world.specs.Listed.{listed, listed_by_cpu}
pub use Rattle.vms_world.specs.Worlds.{AreVolumes, IsWorldOf, event_facts, event_volume, page_facts, page_volume}
pub use Rattle.vms_world.specs.Worlds.{pcpu_facts, pcpu_volume, volume_in, volumes_on}
pub use Rattle.vms_world.specs.Refreshes.{AreAnswers, MayRefresh, count_online, hidden_in, place_threshold, refreshed}
pub use Rattle.vms_world.specs.Refreshes.{with_marks, with_thresholds, zone_mark}
pub use Rattle.vms_world.specs.Boundaries.{Crosses, MayCross, brought_up, flushed, flushed_pages, folded_at, folded_of}
pub use Rattle.vms_world.specs.Boundaries.{folded_of_item, taken_down}
pub use Rattle.vms_world.specs.FirstWorlds.{bare_pages, base_of, base_of_item, started, with_nothing_counted}
pub use Rattle.vms_world.specs.LineVolumes.{FitVolumes, event_volume_after, page_volume_after, pcpu_volume_after}
pub use Rattle.vms_world.specs.LineVolumes.{volumes_after}
pub use Rattle.vms_world.specs.Phases.{AreComplete, LeavesNothing, SpendTheirLines, StayWithinVolumes, TableHistories}
pub use Rattle.vms_world.specs.Phases.{left_by}
pub use Rattle.vms_world.specs.Lanes.{HasLanes, MakesActs, MakesLines, acts_of, has_line, is_among, lane_at}
pub use Rattle.vms_world.specs.Lanes.{lanes_below, lanes_of, owner_of}
pub use Rattle.vms_world.specs.Lanes.MakesActs.{act}
pub use Rattle.vms_world.specs.Acts.{CallSteps, EventSteps, PageSteps, PcpuSteps, event_call, lane_owns, pcpu_call}
pub use Rattle.vms_world.specs.Acts.{page_call}
pub use Rattle.vms_world.specs.PhaseLines.{IsWorldPhase, IsWorldRun, SegmentsLead}
