use Rattle.std.proofs.Common.{inr, refl, subst, sym}
use Rattle.naga_look.specs.Transform.{IsErrorOfPass}
use Rattle.naga_look.specs.declared.transform_error.TransformError.TheVariants as error
use Rattle.naga_look.proofs.transform.error_of_pass.Goals as goal

pub returns-in-Ok : goal.returns-in-Ok
returns-in-Ok c =
    subst (λ fault. IsErrorOfPass c.args.module.now fault (error.Restrict c.in-Ok.message)) (sym c.in-Restrict.is)
    (inr (c.in-Ok.message, refl, c.in-Ok.ensures))
