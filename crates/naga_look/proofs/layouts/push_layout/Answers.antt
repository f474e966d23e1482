use Rattle.std.proofs.Common.{◌∙◌, ◌∷◌, ◌++◌, [], List, Option, None, ap, ℕ}
use Rattle.naga_look.specs.declared.finding.FindingKind.TheVariants.{Layout}
use Rattle.naga_look.specs.declared.finding.FindingOwner.TheVariants as owner
use Rattle.naga_look.proofs.layouts.push_layout.Goals as goal

pub returns : goal.returns
returns c =
    c.in_ok-push.ensures.items
    ∙ ap (λ (name : Option (List ℕ)). c.args.found.now.items ++ (record { kind = Layout; owner = owner.«Type» c.args.said.ty; name = name; path = None; expression = None; message = c.args.said.message }) ∷ []) c.in_ok-name.ensures
