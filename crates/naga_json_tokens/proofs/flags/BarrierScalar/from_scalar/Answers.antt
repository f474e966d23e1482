use Rattle.std.proofs.Common.{refl}
use Rattle.bitflags.proofs.HexFacts.{reads_hex}
use Rattle.naga_kinds.specs.declared.flags.Barrier.{Barrier}
use Rattle.naga_json.proofs.FlagSetsLemmas.{option_map-made}
use Rattle.naga_json_tokens.proofs.flags.BarrierScalar.from_scalar.Goals as goal

pub returns : goal.returns
returns c =
    option_map-made (λ (a : Barrier). a.0) (λ bits. record { 0 = bits }) (λ a. refl) c.flags.result _ (c.flags.ensures tt (reads_hex 32))
