use Rattle.naga_look.proofs.FindingsJsonLemmas.{owner-appended}
use Rattle.naga_look.proofs.finding.to_json.write_owner.Goals as goal

pub returns-clause-tokens : goal.returns-clause-tokens
returns-clause-tokens c =
    owner-appended c.write_optional_text.result c.args.finding.now c.word_of_kind.result.now c.word_of_owner.result.now c.index_of_owner.result
    c.args.out.now.tokens c.write_string.new.out.tokens c.write_string-2.new.out.tokens c.write_number.new.out.tokens c.write_optional_text.new.out.tokens
    c.word_of_kind.ensures c.word_of_owner.ensures c.index_of_owner.ensures
    c.in_ok-write_string.ensures.tokens c.in_ok-write_string-2.ensures.tokens c.in_ok-write_number.ensures.tokens c.write_optional_text.ensures.tokens
