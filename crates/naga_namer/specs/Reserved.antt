-- The words of `ReservedNames`, as lists of bytes.
use Rattle.naga_namer.specs.declared.reserved.ReservedNames.{ReservedNames}
use Rattle.naga_namer.specs.Names.{Reserved}
use Rattle.naga_namer.specs.Words.{texts}

-- what a language reserves by these words
abbrev pub reserved_by : ReservedNames → Reserved
reserved_by names = record {
  keywords = texts names.keywords.now;
  builtins = texts names.builtins.now;
  case_insensitive = texts names.case_insensitive.now;
  prefixes = texts names.prefixes.now;
}
