use Rattle.naga_look.proofs.FindingsJsonLemmas.{finding-appended}
use Rattle.naga_look.proofs.finding.to_json.FindingToJson.write.Goals as goal

pub returns-clause-tokens : goal.returns-clause-tokens
returns-clause-tokens c =
    finding-appended c.end_object.result c.args.self.now
    c.args.out.now.tokens c.begin_object.new.self.tokens c.write_owner.new.out.tokens c.write_rest.new.out.tokens c.end_object.new.self.tokens
    c.in_ok-begin_object.ensures.ok c.in_ok-write_owner.ensures.tokens c.in_ok-write_rest.ensures.tokens c.end_object.ensures.ok
