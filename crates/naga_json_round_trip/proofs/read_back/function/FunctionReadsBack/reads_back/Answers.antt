use Rattle.std.proofs.Common.{rules}
use Rattle.std.proofs.lemmas.List.Elements.{All-map}
use Rattle.naga_arena.specs.Limits.{max_len}
use Rattle.naga_json.specs.Codec.{text_codec}
use Rattle.naga_json.specs.derived.Expression.{expression_form}
use Rattle.naga_json.specs.Expression.{value_of}
use Rattle.naga_json.specs.derived.Module.{function_argument_codec, local_variable_codec}
use Rattle.naga_json.specs.Declarations.{function_argument_value, local_variable_value}
use Rattle.naga_json_round_trip.proofs.FitsLemmas.{anything, arena-fits, map-fits}
use Rattle.naga_json_round_trip.proofs.read_back.function.FunctionReadsBack.reads_back.Goals as goal

pub returns : goal.returns
returns c =
    let function = c.args.self.now in (
      λ is. (
        anything _,
        (
          All-map function_argument_codec.Fits function_argument_value function.arguments.items c.in_range.ensures,
          (
            c.in_range-2.ensures,
            (
              arena-fits local_variable_codec.Fits local_variable_value function.local_variables c.in_range-3.ensures,
              (
                arena-fits expression_form.Fits value_of function.expressions c.in_range-4.ensures,
                (map-fits max_len text_codec _ (λ text. tt) function.named_expressions c.keys_in_range.ensures.each (search rules), (c.block_reads_back.ensures.0 is, (c.in_range-5.ensures, tt))),
              ),
            ),
          ),
        ),
      ),
      λ fits. c.block_reads_back.ensures.1 fits.1.1.1.1.1.1.0,
    )
