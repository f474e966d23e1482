-- What a language reserves, as a namer holds it.
use Rattle.naga_namer.specs.declared.language.Language.{Language}
use Rattle.naga_namer.specs.Names.{Reserved}
use Rattle.naga_namer.specs.Words.{texts}

-- what the language reserves
abbrev pub reserved_in : Language → Reserved
reserved_in language = record {
  keywords = texts language.keywords.words.now;
  builtins = texts language.builtins.words.now;
  case_insensitive = texts language.case_insensitive.now;
  prefixes = texts language.prefixes.now;
}
