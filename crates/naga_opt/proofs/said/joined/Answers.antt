use Rattle.std.proofs.Common.{◌∙◌, ◌++◌, ap, get_or, Bor, List, [], ℕ}
use Rattle.std.proofs.lemmas.Option.{slice_get-get_or}
use Rattle.std.specs.Prelude.{flat_map, string_bytes}
use Rattle.naga_look.proofs.StatsLemmas.{appended-all, appended-next, appended-none}
use Rattle.naga_opt.specs.Messages.{named_line}
use Rattle.naga_opt.proofs.said.joined.Goals as goal

pub lines-init : goal.lines-init
lines-init c = appended-none (λ line. named_line line.now) c.args.lines.now (string_bytes c.new-named.result)

pub lines-preserved : goal.lines-preserved
lines-preserved c =
    let other : Bor (List ℕ) = record { ref_ptr = (0, 0); now = [] } in
    appended-next (λ line. named_line line.now) c.args.lines.now c.lines.line-index (get_or c.args.lines.now c.lines.line-index other)
    (string_bytes c.new-named.result) (string_bytes c.lines.named) (string_bytes c.writeln.new.self)
    (slice_get-get_or c.args.lines.now c.lines.line-index other c.lines-test.true) c.lines.invariant c.in_ok-writeln.ensures.bytes

pub returns : goal.returns
returns c =
    appended-all (λ line. named_line line.now) c.args.lines.now c.lines.line-index (string_bytes c.new-named.result) (string_bytes c.lines.named) c.lines-test.false c.lines.invariant
    ∙ ap (λ none. none ++ flat_map (λ line. named_line line.now) c.args.lines.now) c.new-named.ensures.bytes
