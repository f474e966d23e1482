use Rattle.std.proofs.Common.{rules, ◌≡◌, ◌∙◌, sym, ap, ◌+◌, ◌<◌, length, true, false, get_or, arith}
use Rattle.std.proofs.lemmas.List.Sums.{count_by_more_no, count_by_more_yes}
use Rattle.std.specs.Fmt.{is_char_start}
use Rattle.naga_explain.specs.Position.{is_newline}
use Rattle.naga_explain.proofs.PositionLemmas.{since-inside, since-newline, since-start}
use Rattle.naga_explain.proofs.position.counts_before.Goals as goal
use Rattle.naga_explain.proofs.position.counts_before.Goals.{then-byte-eq10, else-byte-eq10+then-is_char_start, else-byte-eq10+else-is_char_start}

pub bytes-preserved : goal.bytes-preserved
bytes-preserved c =
    let xs = c.args.bytes.now in
    let i = c.bytes.index in
    let before : i < length xs = omega (arith, c.bytes-test.true, c.min-index-end.ensures) in
    elim c.if-byte-eq10.branch [
      | then-byte-eq10 w ↦ (
          let new : is_newline (get_or xs i 0) ≡ true = search rules in (
            w.newlines-is ∙ (ap (λ n. n + 1) c.bytes.invariant.0 ∙ sym (count_by_more_yes is_newline xs i 0 before new)),
            w.characters-is ∙ sym (since-newline xs i before new),
            omega (arith, w.newlines-is, c.bytes.invariant.2),
            omega (arith, w.characters-is),
          ))
      | else-byte-eq10+then-is_char_start w ↦ (
          let other : is_newline (get_or xs i 0) ≡ false = search rules in
          let start : is_char_start (get_or xs i 0) ≡ true = search rules in (
            w.newlines-is ∙ (c.bytes.invariant.0 ∙ sym (count_by_more_no is_newline xs i 0 before other)),
            w.characters-is ∙ (ap (λ n. n + 1) c.bytes.invariant.1 ∙ sym (since-start xs i before other start)),
            omega (arith, w.newlines-is, c.bytes.invariant.2),
            omega (arith, w.characters-is, c.bytes.invariant.3),
          ))
      | else-byte-eq10+else-is_char_start w ↦ (
          let other : is_newline (get_or xs i 0) ≡ false = search rules in
          let inside : is_char_start (get_or xs i 0) ≡ false = search rules in (
            w.newlines-is ∙ (c.bytes.invariant.0 ∙ sym (count_by_more_no is_newline xs i 0 before other)),
            w.characters-is ∙ (c.bytes.invariant.1 ∙ sym (since-inside xs i before other inside)),
            omega (arith, w.newlines-is, c.bytes.invariant.2),
            omega (arith, w.characters-is, c.bytes.invariant.3),
          ))
    ]
