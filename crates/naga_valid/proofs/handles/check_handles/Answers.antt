use Rattle.std.proofs.Common.{refl}
use Rattle.std.proofs.lemmas.Bool.{false≢true}
use Rattle.naga_valid.proofs.FaultLemmas.{IsOutside-invalid}
use Rattle.naga_valid.proofs.handles.check_handles.Goals as goal

pub returns-in-Err-clause-valid : goal.returns-in-Err-clause-valid
returns-in-Err-clause-valid c = (
  λ ok. absurd (false≢true ok),
  λ valid. absurd (IsOutside-invalid c.args.module.now c.in-Err.fault c.in-Err.ensures valid.references),
)

pub returns-clause-valid : goal.returns-clause-valid
returns-clause-valid c = (
  λ ok. record { references = c.in_default.ensures; expressions = c.in_default-check_global_expressions.ensures.valid.0 refl; sizes = c.check_sizes.ensures.valid.0 ok },
  λ valid. c.check_sizes.ensures.valid.1 valid.sizes,
)
