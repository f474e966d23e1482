use Rattle.std.proofs.Common.{◌≡◌, ◌++◌, ◌∙◌, ap, rules, subst, sym}
use Rattle.std.specs.Prelude.{string_bytes}
use Rattle.naga_text.specs.Readable.{IsReadable}
use Rattle.naga_look.specs.Accesses.{accesses_line}
use Rattle.naga_look.specs.Report.{limit_of, line_count, lines_or_none, notes_of}
use Rattle.naga_look.specs.Summary.{summary_of}
use Rattle.naga_look.specs.SummaryText.{summary_lines}
use Rattle.naga_look.proofs.ReadableReportLemmas.{IsReport-readable}
use Rattle.naga_look.proofs.ReportLemmas.{line_count-passes, report-parts}
use Rattle.naga_look.proofs.faults.report.Goals as goal

pub returns : goal.returns
returns c =
    let whole = c.args.module.now in
    let faults = c.in_ok-faults.faults in
    let emits = c.in_ok-push_emits.ensures in
    let layout = c.in_ok-push_layout_note.ensures in
    let before = lines_or_none faults in
    let summary = summary_lines (summary_of whole) in
    let notes = notes_of whole (limit_of c.args.extent) in
    let lines : c.as_str.result.now ≡ faults = search rules in
    let begun : c.push_or_none.new.text ≡ before =
    c.in_ok-push_or_none.ensures ∙ (λ i. c.new-text.ensures i ++ lines_or_none (lines i)) in
    let summarized : c.push_summary.new.text ≡ before ++ summary =
    c.in_ok-push_summary.ensures ∙ (λ i. begun i ++ summary_lines (c.summarize.ensures i)) in
    let noted : c.push_notes.new.text ≡ c.push_layout_note.new.text ++ notes =
    c.in_ok-push_notes.ensures ∙ ap (λ limit. c.push_layout_note.new.text ++ notes_of whole limit) c.limit.ensures in
    let text : string_bytes c.finish.result ≡ before ++ (summary ++ (accesses_line whole ++ (emits.0 ++ (layout.0 ++ notes)))) =
    c.finish.ensures ∙ noted ∙ ap (λ t. t ++ notes) layout.2 ∙ ap (λ t. (t ++ layout.0) ++ notes) emits.2
    ∙ ap (λ t. ((t ++ emits.0) ++ layout.0) ++ notes) c.in_ok-push_accesses.ensures
    ∙ ap (λ t. (((t ++ accesses_line whole) ++ emits.0) ++ layout.0) ++ notes) summarized
    ∙ report-parts before summary (accesses_line whole) emits.0 layout.0 notes in
    let number : c.line_count.result ≡ line_count faults = search rules in (
      (
        faults,
        emits.0,
        layout.0,
        c.in_ok-faults.ensures,
        number,
        emits.1,
        layout.1,
        text,
        subst IsReadable (sym text)
            (IsReport-readable whole c.args.extent faults emits.0 layout.0 (summary_of whole) c.in_ok-faults.ensures emits.1 layout.1),
      ),
      line_count-passes whole c.args.extent faults c.line_count.result c.in_ok-faults.ensures number,
    )
