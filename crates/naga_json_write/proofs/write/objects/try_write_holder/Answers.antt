use Rattle.std.proofs.Common.{rules, arith, ◌≡◌, ◌∙◌, ◌∷◌, [], ◌++◌, refl, ap}
use Rattle.std.proofs.lemmas.Grind.{common_steps}
use Rattle.json.specs.Token.{begin_object, end_object, key}
use Rattle.naga_json_write.specs.Appends.{append_json}
use Rattle.naga_json_write.specs.Objects.{holder_json}
use Rattle.naga_json_write.proofs.write.objects.try_write_holder.Goals as goal

pub returns-clause-written : goal.returns-clause-written
returns-clause-written g c =
    let written = (c.in_ok-try_write_field.ensures).written in
    let begun : c.begin_object.new.self.tokens ≡ c.args.out.now.tokens ++ begin_object ∷ [] = first_of (search rules, grind (arith, common_steps)) in
    let ended : c.end_object.new.self.tokens ≡ c.try_write_field.new.out.tokens ++ end_object ∷ [] = first_of (search rules, grind (arith, common_steps)) in
    let held = written.2 ∙ ap (λ tokens. append_json (tokens ++ key c.args.name.now ∷ []) written.0) begun in
    (holder_json c.args.name.now written.0, (written.0, written.1, refl), ended ∙ ap (λ tokens. tokens ++ end_object ∷ []) held)
