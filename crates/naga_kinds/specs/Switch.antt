-- The default case of a switch.
use Rattle.std.specs.Prelude.{Bool, true, false}
use Rattle.naga_kinds.specs.declared.switch.SwitchValue.{SwitchValue}
use Rattle.naga_kinds.specs.declared.switch.SwitchValue.TheVariants.{Default}

-- `true` if the value is that of the default case
abbrev pub is_default_value : SwitchValue → Bool
is_default_value Default = true
is_default_value value = false
