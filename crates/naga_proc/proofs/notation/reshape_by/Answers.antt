use Rattle.std.proofs.Common.{◌≡◌, ℕ, List, ◌++◌, ◌∙◌, ap, rules, string_bytes}
use Rattle.std.specs.Prelude.{Result, Ok, Err, IsErr, IfErr, MatchResult}
use Rattle.naga_ir.specs.View.{tree_of}
use Rattle.naga_notation.specs.declared.error.ShapeError.{ShapeError}
use Rattle.naga_notation.specs.declared.error.ShapeError.TheVariants.{Memory}
use Rattle.naga_notation.specs.Outline.{outline_of, outline_text}
use Rattle.naga_notation.specs.Refusal.{Refused}
use Rattle.naga_proc.specs.Reshape.{Reshapes}
use Rattle.naga_proc.specs.declared.terminator.rule.Rule.{Rule}
use Rattle.naga_proc.proofs.Texts.ReshapesLemmas.{Reshapes-one_answer, Reshapes-refused, Reshapes-written}
use Rattle.naga_proc.proofs.notation.reshape_by.Goals as goal

-- if there is an answer, the only possible error is `Memory`
refused_only : {T : Type 0} (rule : Rule) (r : Result T ShapeError) (view : T → List ℕ) (text : List ℕ) → IsErr r → IfErr r (Refused text) → (answer : List ℕ) → Reshapes rule text answer → MatchResult r (λ given. view given ≡ answer) (λ e. e ≡ Memory)
refused_only rule (Ok x) view text is_err refused answer is = absurd cc
refused_only rule (Err e) view text is_err refused answer is = Reshapes-refused rule text answer e is refused

pub returns-clause-closed : goal.returns-clause-closed
returns-clause-closed c =
    Reshapes-written c.args.rule c.args.text.now (string_bytes c.write_block.new.text) (tree_of c.in_ok-block.block) (tree_of c.ensure_block_returns_by.new.block)
    (search rules) (search rules) (search rules)
    (c.in_ok-write_block.ensures ∙ ap (λ t. t ++ outline_text (outline_of (tree_of c.ensure_block_returns_by.new.block))) c.new-answer.ensures.bytes)

pub returns-clause-only : goal.returns-clause-only
returns-clause-only c =
    λ answer is. Reshapes-one_answer c.args.rule c.args.text.now (string_bytes c.write_block.new.text) answer (returns-clause-closed c) is

pub returns-in_err-block-clause-only : goal.returns-in_err-block-clause-only
returns-in_err-block-clause-only c =
    refused_only c.args.rule c.from_residual.result string_bytes c.args.text.now (search rules) (search rules)
