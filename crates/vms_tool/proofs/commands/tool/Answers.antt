-- Each command: what it answers is what its words say.
use Rattle.std.proofs.Common.{Some, ap, map, string_bytes, refl, sym, ◌∙◌}
use Rattle.vms_tool.proofs.Saying.{under_certify, under_check, under_gen, under_groups, under_none, under_record}
use Rattle.vms_tool.proofs.Saying.{under_replay, under_run}
use Rattle.vms_tool.specs.declared.naming.Command.{Command}
use Rattle.vms_tool.proofs.commands.tool.Goals as goal

pub returns-in-Some-Check-clause-answers : goal.returns-in-Some-Check-clause-answers
returns-in-Some-Check-clause-answers g c =
    under_check g.S.Source.remaining g.S.Source.faults g.S.Source.calls g.K.Sink.written g.K.Sink.faults g.K.Sink.calls
    c.args.src.now c.tool_check.new.src c.args.out.now c.tool_check.new.out
    (map (λ word. string_bytes word) c.args.words.now)
    c.tool_check.result c.args.histories.now c.args.histories.now
    (sym c.named_by.ensures.named ∙ c.in-Some-Check.is
    ∙ ap (λ (named : Command). Some named) c.in-Some-Check.field-0-is) refl c.tool_check.ensures

pub returns-in-Some-Replay-clause-answers : goal.returns-in-Some-Replay-clause-answers
returns-in-Some-Replay-clause-answers g c =
    under_replay g.S.Source.remaining g.S.Source.faults g.S.Source.calls g.K.Sink.written g.K.Sink.faults g.K.Sink.calls
    c.args.src.now c.tool_replay.new.src c.args.out.now c.tool_replay.new.out
    (map (λ word. string_bytes word) c.args.words.now)
    c.tool_replay.result c.args.histories.now c.args.histories.now
    (sym c.named_by.ensures.named ∙ c.in-Some-Replay.is
    ∙ ap (λ (named : Command). Some named) c.in-Some-Replay.field-0-is) refl c.tool_replay.ensures

pub returns-in-Some-Run-clause-answers : goal.returns-in-Some-Run-clause-answers
returns-in-Some-Run-clause-answers g c =
    under_run g.S.Source.remaining g.S.Source.faults g.S.Source.calls g.K.Sink.written g.K.Sink.faults g.K.Sink.calls
    c.args.src.now c.tool_run.new.src c.args.out.now c.tool_run.new.out
    (map (λ word. string_bytes word) c.args.words.now)
    c.tool_run.result c.args.histories.now (record c.args.histories.now { phases = c.tool_run.new.histories })
    (sym c.named_by.ensures.named ∙ c.in-Some-Run.is
    ∙ ap (λ (named : Command). Some named) c.in-Some-Run.field-0-is) refl c.tool_run.ensures

pub returns-in-Some-Gen-clause-answers : goal.returns-in-Some-Gen-clause-answers
returns-in-Some-Gen-clause-answers g c =
    under_gen g.S.Source.remaining g.S.Source.faults g.S.Source.calls g.K.Sink.written g.K.Sink.faults g.K.Sink.calls
    c.args.src.now c.args.src.now c.args.out.now c.tool_gen.new.out (map (λ word. string_bytes word) c.args.words.now)
    c.tool_gen.result c.args.histories.now (record c.args.histories.now { phases = c.tool_gen.new.histories })
    c.in-Some-Gen.numbers (sym c.named_by.ensures.named ∙ c.in-Some-Gen.is
    ∙ ap (λ (named : Command). Some named) c.in-Some-Gen.field-0-is) refl refl c.tool_gen.ensures

pub returns-in-Some-Groups-clause-answers : goal.returns-in-Some-Groups-clause-answers
returns-in-Some-Groups-clause-answers g c =
    under_groups g.S.Source.remaining g.S.Source.faults g.S.Source.calls g.K.Sink.written g.K.Sink.faults g.K.Sink.calls
    c.args.src.now c.tool_groups.new.src c.args.out.now c.tool_groups.new.out
    (map (λ word. string_bytes word) c.args.words.now)
    c.tool_groups.result c.args.histories.now (record c.args.histories.now { groups = c.tool_groups.new.made })
    (sym c.named_by.ensures.named ∙ c.in-Some-Groups.is
    ∙ ap (λ (named : Command). Some named) c.in-Some-Groups.field-0-is) refl c.tool_groups.ensures

pub returns-in-Some-Record-clause-answers : goal.returns-in-Some-Record-clause-answers
returns-in-Some-Record-clause-answers g c =
    under_record g.S.Source.remaining g.S.Source.faults g.S.Source.calls g.K.Sink.written g.K.Sink.faults g.K.Sink.calls
    c.args.src.now c.tool_record.new.src c.args.out.now c.tool_record.new.out
    (map (λ word. string_bytes word) c.args.words.now)
    c.tool_record.result c.args.histories.now c.args.histories.now
    (sym c.named_by.ensures.named ∙ c.in-Some-Record.is
    ∙ ap (λ (named : Command). Some named) c.in-Some-Record.field-0-is) refl c.tool_record.ensures

pub returns-in-Some-Certify-clause-answers : goal.returns-in-Some-Certify-clause-answers
returns-in-Some-Certify-clause-answers g c =
    under_certify g.S.Source.remaining g.S.Source.faults g.S.Source.calls g.K.Sink.written g.K.Sink.faults
    g.K.Sink.calls c.args.src.now c.tool_certify.new.src c.args.out.now c.tool_certify.new.out
    (map (λ word. string_bytes word) c.args.words.now)
    c.tool_certify.result c.args.histories.now c.args.histories.now
    (sym c.named_by.ensures.named ∙ c.in-Some-Certify.is
    ∙ ap (λ (named : Command). Some named) c.in-Some-Certify.field-0-is) refl c.tool_certify.ensures

pub returns-in-None-clause-answers : goal.returns-in-None-clause-answers
returns-in-None-clause-answers g c =
    under_none g.S.Source.remaining g.S.Source.faults g.S.Source.calls g.K.Sink.written g.K.Sink.faults g.K.Sink.calls
    c.args.src.now c.args.src.now c.args.out.now c.show_usage.new.out (map (λ word. string_bytes word) c.args.words.now)
    c.show_usage.result c.args.histories.now c.args.histories.now
    (sym c.named_by.ensures.named ∙ c.in-None.is) refl refl c.show_usage.ensures.usage c.show_usage.ensures.writes
