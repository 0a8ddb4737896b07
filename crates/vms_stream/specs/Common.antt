-- The definitions that other crates and this one's proofs cite, passed on from one place. Declares nothing.
pub use Rattle.vms_stream.specs.Pieces.{front_of, last_of, newline_parts, partial_line, whole_lines}
pub use Rattle.vms_stream.specs.Behaviors.{Behavior, MayEnd, MayHalt, first_halt, halted, last_words, output, printed}
pub use Rattle.vms_stream.specs.Behaviors.{printed_from, state_after}
pub use Rattle.vms_stream.specs.Readings.{LastCall, Reading, reading_of}
pub use Rattle.vms_stream.specs.Answers.{AreLinesTaken, BeginsOutput, Ends, FaultsOfSink, FaultsOfSource, GoesOn, Halts}
pub use Rattle.vms_stream.specs.Answers.{IsDue, IsLastPiece, Oversteps, Says, TakesAndWrites, lines_taken, most_bytes}
pub use Rattle.vms_stream.specs.PhasedBehaviors.{OutcomeSupply, PhasedBehavior, Way, ending_at, halt_at, last_of_way}
pub use Rattle.vms_stream.specs.PhasedBehaviors.{next_way, printed_at, printed_last, supply, way_after, way_ends}
pub use Rattle.vms_stream.specs.PhasedBehaviors.{way_halts, way_prints, with_outcomes}
pub use Rattle.vms_stream.specs.PhasedBehaviors.OutcomeSupply.{Gives, Lacks}
pub use Rattle.vms_stream.specs.PhasedBehaviors.Way.{On, Short}
pub use Rattle.vms_stream.specs.Ways.{HasAllOutcomes, IsMore, IsOn, unless_halted}
pub use Rattle.vms_stream.specs.Leading.{AllUsed, OutcomesLead, OutcomesLeadThrough, OutcomesLeadToEnd, UsedAtEnd}
pub use Rattle.vms_stream.specs.Leading.{leads_on, none_after}
pub use Rattle.vms_stream.specs.Jobs.{Closes, ClosesPhased, Grows, MayGive, StandsOn, TakesLines, TakesPhased}
pub use Rattle.vms_stream.specs.Jobs.{at_most_one, shown_on, shown_with}
pub use Rattle.vms_stream.specs.PhasedAnswers.{AnswersPhased, AreMade, AreOutcomesOf, LeadAbove, OutcomesLeadTaken}
pub use Rattle.vms_stream.specs.PhasedAnswers.{SaysPhased}
pub use Rattle.vms_stream.specs.Waiting.{IsAsking, LineTexts, Text, Waiting, ends_at, printed_now, printed_with}
pub use Rattle.vms_stream.specs.Waiting.{spelled, unless_stopped, waiting, waits_after, waits_with}
pub use Rattle.vms_stream.specs.Waiting.Text.{Asks, Plain}
pub use Rattle.vms_stream.specs.Orders.{input_in_order, last_in_order, lines_in_order, text_then}
pub use Rattle.vms_stream.specs.Orders.{texts_in_order}
pub use Rattle.vms_stream.specs.Written.{BeginsInOrder, StopsInOrder, WritesTextsOf}
pub use Rattle.vms_stream.specs.Laws.{AgreesFrom, GoesWithMore, WritesInOrder}
pub use Rattle.vms_stream.specs.Plain.{AskNothing, MakesNoPhase, plain, plain_bytes, plainly}
pub use Rattle.vms_stream.specs.Taking.{TakesText}
pub use Rattle.vms_stream.specs.Courses.{CountsReads, CountsWrites, FinishesPhased, IsCourse, IsPhasedCourse}
pub use Rattle.vms_stream.specs.Courses.{StepsPhased, StopsAt, counted_bytes, lines_held, lines_judged, status_in}
