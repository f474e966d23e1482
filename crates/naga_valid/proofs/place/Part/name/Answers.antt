use Rattle.std.proofs.Common.{rules, ◌≡◌, ◌∙◌, ap, sym, Some, nat_eq}
use Rattle.indexmap.specs.IndexMap.{get_by}
use Rattle.naga_valid.specs.ElementNames.{name_of_part, text_of}
use Rattle.naga_valid.specs.declared.place.Part.TheVariants as part
use Rattle.naga_valid.proofs.place.Part.name.Goals as goal

pub returns-in-Some : goal.returns-in-Some
returns-in-Some c =
    let is : c.args.self.now ≡ part.Expression c.in-Expression.handle = search rules in
    let found : Some c.in-Some.name.now ≡ get_by (nat_eq c.in-Expression.handle) c.args.function.now.named_expressions = search rules in
    ap Some c.as_str.ensures.value ∙ ap text_of found ∙ ap (name_of_part c.args.function.now) (sym is)
