use Rattle.std.proofs.Common.{◌∙◌}
use Rattle.std.specs.Prelude.{if◌then◌else◌}
use Rattle.naga_flow.specs.Places.{reads_in}
use Rattle.naga_meaning.specs.Functions.{code_of, parts}
use Rattle.naga_flow.specs.Readings.{expressions_by}
use Rattle.naga_meaning.specs.Readings.{chains_in}
use Rattle.naga_meaning.proofs.AgreeOnLemmas.{outcome-agrees}
use Rattle.naga_meaning.proofs.EachLemmas.{operands-before}
use Rattle.naga_meaning.proofs.FoldsLemmas.{outcome-read}
use Rattle.naga_meaning.proofs.IsClosedReadingLemmas.{closed-decides}
use Rattle.naga_meaning.proofs.ReadsDecideLemmas.{reads-decide}
use Rattle.naga_meaning.proofs.laws.replacing.folding_checked_bodies_keeps_outcomes.Goals as goal

pub returns-clause-chains : goal.returns-clause-chains
returns-clause-chains g c =
    λ look by arena precede indices folded constant new folds body inside uses turns a b same.
    outcome-read (parts look) by folded constant (code_of look (chains_in arena) arena) new folds (λ x h. operands-before arena precede x) turns body inside b
    ∙ outcome-agrees look by (chains_in arena) arena (reads_in arena) (reads-decide look by arena precede indices) body uses turns a
    (record b { values = λ x. if folded x then constant x else b.values x }) same

pub returns-clause-closed : goal.returns-clause-closed
returns-clause-closed g c =
    λ look by at_use arena precede closed folded constant new folds body inside uses turns a b same.
    outcome-read (parts look) by folded constant (code_of look at_use arena) new folds (λ x h. operands-before arena precede x) turns body inside b
    ∙ outcome-agrees look by at_use arena (expressions_by at_use arena).reads (closed-decides look by at_use arena precede closed) body uses turns a
    (record b { values = λ x. if folded x then constant x else b.values x }) same
