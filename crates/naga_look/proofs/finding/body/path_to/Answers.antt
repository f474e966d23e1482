use Rattle.std.proofs.Common.{◌≡◌, ◌∙◌, List, ℕ, subst}
use Rattle.std.specs.Prelude.{IfOk}
use Rattle.naga_look.proofs.finding.body.path_to.Goals as goal

pub returns : goal.returns
returns c =
    subst (λ (written : List ℕ). IfOk c.text_of.result (λ path. path ≡ written)) (c.as_str.ensures.value ∙ c.in_ok-written.ensures) c.text_of.ensures
