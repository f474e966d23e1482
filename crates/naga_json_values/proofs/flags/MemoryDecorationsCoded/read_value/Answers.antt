use Rattle.std.proofs.Common.{refl}
use Rattle.std.specs.Result.{result_ok}
use Rattle.bitflags.proofs.HexFacts.{reads_hex}
use Rattle.naga_kinds.specs.declared.flags.MemoryDecorations.{MemoryDecorations}
use Rattle.naga_json.proofs.FlagSetsLemmas.{option_map-made}
use Rattle.naga_json_values.proofs.flags.MemoryDecorationsCoded.read_value.Goals as goal

pub returns : goal.returns
returns c = option_map-made (λ (a : MemoryDecorations). a.0) (λ bits. record { 0 = bits }) (λ a. refl) (result_ok c.flags.result) _ (c.flags.ensures tt (reads_hex 8))
