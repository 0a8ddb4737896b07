-- The names of this crate and of those below it that the crates above cite, passed on from one place.
pub use Rattle.vms_base.specs.declared.groups.Diffs.{Diffs}
pub use Rattle.vms_base.specs.declared.headers.Decl.{Decl}
pub use Rattle.vms_base.specs.declared.headers.Header.{Header}
pub use Rattle.vms_base.specs.declared.headers.ItemDecl.{ItemDecl}
pub use Rattle.vms_base.specs.declared.ids.CounterId.{CounterId}
pub use Rattle.vms_base.specs.declared.ids.CpuId.{CpuId}
pub use Rattle.vms_base.specs.declared.ids.GroupId.{GroupId}
pub use Rattle.vms_base.specs.declared.ids.ItemId.{ItemId}
pub use Rattle.vms_base.specs.declared.ids.PcpuId.{PcpuId}
pub use Rattle.vms_base.specs.declared.ids.PlaceId.{PlaceId}
pub use Rattle.vms_base.specs.declared.kinds.CpuState.{CpuState}
pub use Rattle.vms_base.specs.declared.kinds.CpuState.TheVariants.{Absent, Dead, Online}
pub use Rattle.vms_base.specs.declared.kinds.Mode.{Mode}
pub use Rattle.vms_base.specs.declared.kinds.Mode.TheVariants.{Dec, Inc, Mod}
pub use Rattle.vms_base.specs.declared.kinds.WaterMark.{WaterMark}
pub use Rattle.vms_base.specs.declared.kinds.WaterMark.TheVariants.{High}
pub use Rattle.vms_base.specs.declared.kinds.ZoneKind.TheVariants.{Dma}
pub use Rattle.vms_base.specs.declared.kinds.ZoneName.{ZoneName}
pub use Rattle.vms_base.specs.declared.kinds.ZoneSize.{ZoneSize}
pub use Rattle.vms_base.specs.Numbers.{signed_of_word, word_of}
pub use Rattle.vms_base.specs.Groups.{AreBytes, IsByte}
pub use Rattle.vms_base.specs.Places.{IsCounter, IsCpu, IsGroup, IsItem, IsLayout, IsNode, IsPlace, IsZone, Shape, cell}
pub use Rattle.vms_base.specs.Places.{counter_at, counter_count, first_of_group, group_count, group_of, item_count}
pub use Rattle.vms_base.specs.Places.{item_of, node_of_zone, place_count, place_of}
pub use Rattle.vms_base.specs.Cpus.{HasOnline, MayOwnCpu, is_online, online_from, state_at}
pub use Rattle.vms_base.specs.Volumes.{most_volume}
pub use Rattle.vms_base.specs.Sizes.{IsValidSize, gap_of, size_at}
pub use Rattle.vms_base.specs.Names.{zone_items}
pub use Rattle.vms_base.specs.Headers.{IsHeader, IsValidDecl}
pub use Rattle.vms_base.specs.Areas.{Area, area_at, area_names, areas_from, areas_named, areas_of}
pub use Rattle.vms_base.specs.Thresholds.{GivesThresholds, most_threshold}
pub use Rattle.vms_base.specs.Marks.{Covers, cover_mark_of, linux_mark_of}
pub use Rattle.vms_base.specs.Watermarks.{limit_of}
pub use Rattle.vms_calc.specs.Areas.{area_index}
pub use Rattle.vms_calc.specs.Rules.{IsThresholdRule}
pub use Rattle.vms_history.specs.declared.events.Event.{Event}
pub use Rattle.vms_history.specs.Sums.{count_below, largest_below, sum_below}
pub use Rattle.vms_history.specs.Events.{Extends, after, own}
pub use Rattle.vms_history.specs.Passes.{IsFree, Role, begun_in, lives, lives_in, owner, owner_after, owner_in}
pub use Rattle.vms_history.specs.Passes.Role.{Begins, Ends, Works}
pub use Rattle.vms_history.specs.Legal.{Acts, Machine}
pub use Rattle.vms_history.specs.PassSteps.{GoesOnWithout}
pub use Rattle.vms_history.specs.InRow.{ByState, GoesOnTo, IsByState, LeadsOn}
pub use Rattle.vms_core.specs.declared.states.MarkRead.{MarkRead}
pub use Rattle.vms_core.specs.declared.states.State.{State}
pub use Rattle.vms_core.specs.declared.steps.Facts.{Facts}
pub use Rattle.vms_core.specs.declared.steps.Step.{Step}
pub use Rattle.vms_core.specs.declared.steps.Step.TheVariants.{AddG, AddS, Join, LoadA, LoadD, LoadG, LoadM, LoadO}
pub use Rattle.vms_core.specs.declared.steps.Step.TheVariants.{LoadS, LoadT, Miss, Put, SetA, SetM, SetO, SetT, Split}
pub use Rattle.vms_core.specs.declared.steps.Step.TheVariants.{Take}
pub use Rattle.vms_core.specs.Cells.{HasShape, TellsGroup, acknowledged_at, counters_of, cpu_at, diff_at, eight_zeros}
pub use Rattle.vms_core.specs.Cells.{entry, mark_at, mark_sets_at, places_of, system_at, threshold_at}
pub use Rattle.vms_core.specs.Cells.{threshold_sets_at, value_at, with_acknowledged, with_cpu, with_diff}
pub use Rattle.vms_core.specs.Cells.{with_group_zeroed, with_mark, with_system, with_threshold, with_value, zones_of}
pub use Rattle.vms_core.specs.Changes.{carried_by, differential_after}
pub use Rattle.vms_core.specs.Steps.{effect, effect_of, own_effect, role}
pub use Rattle.vms_core.specs.Effects.{diff_after, mark_after, mark_sets_after}
pub use Rattle.vms_core.specs.Own.{CarriesNothing, carried, carried_of_item, entries_of, found, has_put, loaded, moved}
pub use Rattle.vms_core.specs.Own.{moved_of_item, took}
pub use Rattle.vms_core.specs.Totals.{differentials, spent, spent_by, true_total, values_of_item}
pub use Rattle.vms_core.specs.Peaks.{cpu_after, cpu_in, if_present, is_number, opening_peak, peak, peak_after, peak_sum}
pub use Rattle.vms_core.specs.Peaks.{sets, sets_after, threshold_after, threshold_in}
pub use Rattle.vms_core.specs.Bases.{IsBase, IsOpening, settled}
pub use Rattle.vms_core.specs.Plain.{most_sets}
pub use Rattle.vms_core.specs.Conditions.{Acknowledges, AddsToPlace, AddsToSystem, FindsGroup, IsControl, Meets, Misses}
pub use Rattle.vms_core.specs.Conditions.{SetsAbsent, SetsMark, SetsThreshold}
pub use Rattle.vms_core.specs.Pages.{BoundsDifferentials, History, KeepsSystemTotals, KeepsTotals, carried_by_all}
pub use Rattle.vms_core.specs.Pages.{pages, state_after}
pub use Rattle.vms_core.specs.Quiet.{quiet_pages}
pub use Rattle.vms_core.specs.PeakLaws.{BoundsByPeaks, KeepsPeaksInRange}
pub use Rattle.vms_core.specs.MarkNumbers.{MarkStands}
pub use Rattle.vms_core.specs.LoweredThreshold.{acknowledged_early, acknowledged_other, both_begun, cpu, found_newest}
pub use Rattle.vms_core.specs.LoweredThreshold.{found_none, found_older, one_zone, uncovered_mark, uncovered_threshold}
pub use Rattle.vms_core.specs.LoweredThreshold.{zone}
pub use Rattle.vms_core.specs.Drift.{BoundsDrift, BoundsSystemDrift, negative_carried}
pub use Rattle.vms_core.specs.Bounded.{size_limit}
pub use Rattle.vms_core.specs.Knowledge.{ControlKnows, MayExchange, NameEight}
pub use Rattle.vms_core.specs.Laws.{KeepsLaws}
pub use Rattle.vms_core.specs.Ends.{IsWithinVolumes, grown}
pub use Rattle.vms_calls.specs.Lists.{in_turn}
pub use Rattle.vms_calls.specs.HeaderFacts.{facts_of}
pub use Rattle.vms_calls.specs.Changes.{Carries, Exchanges, HasWon, IsChange, miss_count}
pub use Rattle.vms_calls.specs.Changes.Carries.{amount, nothing}
pub use Rattle.vms_calls.specs.Changes.Exchanges.{missed, won}
pub use Rattle.vms_calls.specs.ChangeReadings.{TellsChange, read_additions, read_change, read_exchange}
pub use Rattle.vms_calls.specs.LoneChanges.{FollowsAlone, GoesOnWithChange, MayChange}
pub use Rattle.vms_calls.specs.Looks.{Frees, IsPlaceValue, IsSnapshot, IsSystemValue, IsWatermarkTest, Look}
pub use Rattle.vms_calls.specs.Looks.{at_least_zero, free_pages, hidden, is_doubtful, look_steps}
pub use Rattle.vms_calls.specs.Looks.Look.{online, other}
pub use Rattle.vms_calls.specs.LookReadings.{TellsPlaceValue, TellsSnapshot, TellsSystemValue, TellsTest, read_further}
pub use Rattle.vms_calls.specs.LookReadings.{read_looks, read_snapshot, verdict_of}
pub use Rattle.vms_calls.specs.Folds.{FoundPlace, HasGroups, IsFold, acknowledges, group_steps, lists_of, place_steps}
pub use Rattle.vms_calls.specs.Folds.{system_steps, taken_of_item, to_place, to_system}
pub use Rattle.vms_calls.specs.FoldReadings.{TellsFold, read_fold, read_groups, read_items, read_place, read_places}
pub use Rattle.vms_calls.specs.FoldReadings.{then_lists, with_list, without_acknowledgement, without_entries}
pub use Rattle.vms_calls.specs.FoldReadings.{without_item, without_items}
pub use Rattle.vms_calls.specs.Ratings.{Buries, ByNormal, ByPressure, Choice, Rates, RatesMarked, RatesNode}
pub use Rattle.vms_calls.specs.Ratings.{RatingCovers, Refreshes, SetsNormal, SetsPressure, Visits, VisitsEach}
pub use Rattle.vms_calls.specs.Ratings.{acknowledged_steps, largest_on, mark_for, mark_left, mark_left_by, mark_steps}
pub use Rattle.vms_calls.specs.Ratings.{node_number, numbers_below, rating_steps, state_steps, threshold_steps}
pub use Rattle.vms_calls.specs.Ratings.{zones_on}
pub use Rattle.vms_calls.specs.Ratings.RatesMarked.{marked, unmarked}
pub use Rattle.vms_calls.specs.Ratings.VisitsEach.{next, none}
pub use Rattle.vms_calls.specs.Choices.{choice_of, is_spared, rated_by}
pub use Rattle.vms_calls.specs.RatingReadings.{BurialFindsOnline, NodeFindsOnline, RefreshFindsOnline, SomeOnline}
pub use Rattle.vms_calls.specs.RatingReadings.{TellsBurial, TellsNodeRating, TellsRefresh, counted_online, read_all}
pub use Rattle.vms_calls.specs.RatingReadings.{read_burial, read_mark, read_node_rating, read_refresh, read_removal}
pub use Rattle.vms_calls.specs.RatingReadings.{read_states, read_zones_of, without_marked, without_nodes, without_rated}
pub use Rattle.vms_calls.specs.RatingReadings.{without_rating, without_ratings, without_sets, without_visits}
pub use Rattle.vms_calls.specs.Turns.{Balances, FindsBlock, Further, IsBalanceTest, IsOrderTest, IsTurn, LooksForBlock}
pub use Rattle.vms_calls.specs.Turns.{SetsAfterYes, blocks_at, has_room, zones_up_to}
pub use Rattle.vms_calls.specs.Turns.Balances.{fails, no_zone, passes}
pub use Rattle.vms_calls.specs.Turns.FindsBlock.{empty, nowhere, some}
pub use Rattle.vms_calls.specs.TurnReadings.{SettlesOnline, TellsBalance, TellsOrderTest, TellsTurn, block_or}
pub use Rattle.vms_calls.specs.TurnReadings.{passed_or, read_areas, read_balance, read_blocks, read_order_test}
pub use Rattle.vms_calls.specs.TurnReadings.{read_turn, read_zones, settled_read, with_blocks, without_blocks}
pub use Rattle.vms_calls.specs.TurnLaws.{AreasAscend, BalanceNamesZone, LeavesByRule, LeavesNormal, LeavesPressure}
pub use Rattle.vms_calls.specs.TurnLaws.{TurnFindsOnline, last_mark, last_set}
pub use Rattle.vms_calls.specs.TurnExamples.{header_with, node, one_block, one_look, one_visit, with_area, zone_item}
pub use Rattle.vms_calls.specs.CallerLaws.{CallsLeaveMeanwhile, CarriesAsBefore, CarriesAsEarlier, ChangesLeave}
pub use Rattle.vms_calls.specs.CallerLaws.{ChangesLeaveMeanwhile, ChangesSpend, LeavesCaller}
pub use Rattle.vms_calls.specs.MayMake.{ControlsIn, HasMade, IsLivePass, MayBegin, MayMake, Tells}
pub use Rattle.vms_calls.specs.MayCall.{AreOnline, KnowsByOwnSteps, MakesBalanceTest, MakesBurial, MakesChange}
pub use Rattle.vms_calls.specs.MayCall.{MakesFold, MakesNodeRating, MakesOrderTest, MakesPlaceValue, MakesRating}
pub use Rattle.vms_calls.specs.MayCall.{MakesRefresh, MakesSnapshot, MakesSystemValue, MakesTest, MakesTurn}
