use Rattle.std.proofs.Common.{All, IfSome, Option, Some, None, option_map, sym, subst}
use Rattle.std.specs.declared.alloc.Global.{Global}
use Rattle.std.specs.declared.boxed.Box.{Box}
use Rattle.naga_ir.specs.Types.{type_of}
use Rattle.naga_ir.specs.declared.module.DocComments.{DocComments}
use Rattle.naga_json.specs.derived.Module.{constant_codec, global_variable_codec, override_codec}
use Rattle.naga_json.specs.Declarations.{constant_value, override_value, global_variable_value}
use Rattle.naga_json.specs.DiagnosticFilter.{node_codec, node_value}
use Rattle.naga_json.specs.DocComments.{comments_value, doc_comments_codec}
use Rattle.naga_json.specs.derived.Expression.{expression_form}
use Rattle.naga_json.specs.Expression.{value_of}
use Rattle.naga_json.specs.Types.{type_codec}
use Rattle.naga_json_round_trip.specs.Module.{EntryPointFits, written_comments}
use Rattle.naga_json_round_trip.proofs.FitsLemmas.{arena-fits, entry_points-each, entry_points-fit, functions-each, functions-fit}
use Rattle.naga_json_round_trip.proofs.read_back.module.reads_back.Goals as goal

comments-fit : (o : Option (Box DocComments Global)) → IfSome o (λ comments. doc_comments_codec.Fits (written_comments (comments_value comments.value)))
    → IfSome (option_map written_comments (option_map (λ comments. comments_value comments.value) o)) doc_comments_codec.Fits
comments-fit None fits = tt
comments-fit (Some comments) fits = fits

pub returns-then-functions_read_back : goal.returns-then-functions_read_back
returns-then-functions_read_back c =
    let whole = c.args.«module».now in
    let same = c.as_slice.ensures.value in (
      λ is. (
        arena-fits type_codec.Fits type_of whole.types c.in_range.ensures,
        (
          c.in_range-2.ensures,
          (
            arena-fits constant_codec.Fits constant_value whole.constants c.in_range-3.ensures,
            (
              arena-fits override_codec.Fits override_value whole.overrides c.in_range-4.ensures,
              (
                arena-fits global_variable_codec.Fits global_variable_value whole.global_variables c.in_range-5.ensures,
                (
                  arena-fits expression_form.Fits value_of whole.global_expressions c.in_range-6.ensures,
                  (
                    functions-fit whole.functions (c.functions_read_back.ensures.0 c.if-functions_read_back.true),
                    (
                      entry_points-fit whole.entry_points.items (subst (All EntryPointFits) same (c.each_reads_back.ensures.0 is)),
                      (arena-fits node_codec.Fits node_value whole.diagnostic_filters c.in_range-7.ensures, (c.in_range-8.ensures, (comments-fit whole.doc_comments c.in_range-9.ensures, tt))),
                    ),
                  ),
                ),
              ),
            ),
          ),
        ),
      ),
      λ fits. c.each_reads_back.ensures.1 (subst (All EntryPointFits) (sym same) (entry_points-each whole.entry_points.items fits.1.1.1.1.1.1.1.0)),
    )

pub returns-else-functions_read_back : goal.returns-else-functions_read_back
returns-else-functions_read_back c = (λ is. absurd (cc (is, c.if-functions_read_back.false)), λ fits. c.functions_read_back.ensures.1 (functions-each c.args.«module».now.functions fits.1.1.1.1.1.1.0))
