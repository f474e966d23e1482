use Rattle.std.proofs.Common.{subst}
use Rattle.json.specs.Value.{value_view}
use Rattle.naga_json.specs.DocComments.{comments_value, doc_comments_codec, doc_comments_fields}
use Rattle.naga_json_values.specs.Reads.{Reads}
use Rattle.naga_json_values.proofs.ReadsLemmas.{reads-none}
use Rattle.naga_json_read.proofs.PartsLemmas.{comments_parts, struct_none}
use Rattle.naga_json_read.proofs.read.doc_comments.read_doc_comments.Goals as goal

pub returns-in_err-object : goal.returns-in_err-object
returns-in_err-object c =
    record {
      meaning = reads-none comments_value c.from_residual.result c.in_err-object.field-0.0 (doc_comments_codec.decode (value_view c.args.value.now)) c.from_residual.ensures.1 (
          λ other. struct_none doc_comments_fields _ (value_view c.args.value.now) c.in_err-object.ensures
          );
    }

pub returns : goal.returns
returns c =
    record {
      meaning = subst (λ meaning. Reads comments_value c.read_fields.result meaning) (comments_parts (value_view c.args.value.now) (value_view c.in_ok-object.object.now) c.in_ok-object.ensures) c.read_fields.ensures;
    }
