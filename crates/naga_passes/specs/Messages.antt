-- The texts of errors of passes. As in naga_bounds, no text is stated of an expression without a type.
use Rattle.std.specs.Prelude.{ℕ, List, codes, Option, Some}
use Rattle.std.specs.Fmt.{◌++?◌, decimal}
use Rattle.naga_bounds.specs.Messages.{restrict_error_text}
use Rattle.naga_passes.specs.declared.pass_error.PassError.{PassError}
use Rattle.naga_passes.specs.declared.pass_error.PassFault.{PassFault}
use Rattle.naga_passes.specs.declared.pass_error.PassFault.TheVariants as pass

-- why a pass stopped
abbrev pub pass_fault_text : PassFault → Option (List ℕ)
pass_fault_text pass.Memory = Some (codes "out of memory")
pass_fault_text (pass.Restrict error) = restrict_error_text error

-- the pass that stopped, and why
abbrev pub pass_error_text : PassError → Option (List ℕ)
pass_error_text error =
    Some (codes "pass ") ++? Some (decimal error.position) ++? Some (codes ": ") ++? pass_fault_text error.fault
