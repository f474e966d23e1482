-- What a namer is: what its language reserves, and its counts.
use Rattle.std.specs.Prelude.{unwrap_or}
use Rattle.std.specs.HashMap.{get_by_text}
use Rattle.naga_namer.specs.declared.namer.Namer.{Namer}
use Rattle.naga_namer.specs.Languages.{reserved_in}
use Rattle.naga_namer.specs.Names.{Naming}

-- A base that is not in the map is counted as 0.
abbrev pub naming : Namer → Naming
naming namer = record {
  reserved = reserved_in namer.language;
  counts = λ base. unwrap_or (get_by_text namer.counts base) 0;
}
