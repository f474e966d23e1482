use Rattle.naga_look.proofs.FindingsJsonLemmas.{rest-appended}
use Rattle.naga_look.proofs.finding.to_json.write_rest.Goals as goal

pub returns-clause-tokens : goal.returns-clause-tokens
returns-clause-tokens c =
    rest-appended c.write_string.result c.args.finding.now c.as_str.result.now
    c.args.out.now.tokens c.write_optional_text.new.out.tokens c.write_expression.new.out.tokens c.write_string.new.out.tokens
    c.as_str.ensures c.in_ok-write_optional_text.ensures.tokens c.in_ok-write_expression.ensures.tokens c.write_string.ensures.tokens
