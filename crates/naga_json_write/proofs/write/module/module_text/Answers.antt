use Rattle.std.proofs.Common.{rules, ◌≡◌, ◌∙◌, ◌++◌, true, false}
use Rattle.std.specs.Prelude.{is_some, string_bytes}
use Rattle.json.specs.Print.{print}
use Rattle.naga_json_write.specs.Nesting.{levels_after}
use Rattle.naga_json_write.proofs.NestingLemmas.{depth-deep, depth-shallow}
use Rattle.naga_json_write.proofs.TextLemmas.{print_json, tokens_of_json}
use Rattle.naga_json_write.proofs.write.module.module_text.Goals as goal

pub returns-then-not-is_shallow-clause-reason : goal.returns-then-not-is_shallow-clause-reason
returns-then-not-is_shallow-clause-reason c =
    let written = c.in_ok-write_parts.ensures.written in
    let are = tokens_of_json _ _ written.0 written.2 c.new-out.ensures.tokens in
    let deep : is_some (levels_after c.write_parts.new.out.tokens) ≡ false = search rules in
    (written.0, written.1, depth-deep written.0 c.write_parts.new.out.tokens are deep)

pub returns-clause-written : goal.returns-clause-written
returns-clause-written c =
    let written = c.in_ok-write_parts.ensures.written in
    let bytes : string_bytes c.in-Ok.text ≡ c.write_parts.new.out.before ++ print c.write_parts.new.out.tokens = cc (c.in-Ok.ensures.ok, c.into_inner.ensures.items) in
    let nothing = c.in_ok-write_parts.ensures.before ∙ c.new-out.ensures.before ∙ c.new.ensures.items in
    let are = tokens_of_json _ _ written.0 written.2 c.new-out.ensures.tokens in
    let shallow : is_some (levels_after c.write_parts.new.out.tokens) ≡ true = search rules in (
      written.0,
      written.1,
      print_json _ _ _ _ written.0 bytes nothing written.2 c.new-out.ensures.tokens,
      depth-shallow written.0 c.write_parts.new.out.tokens are shallow,
    )
