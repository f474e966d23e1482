use Rattle.std.proofs.Common.{◌≡◌, refl, Some, arith}
use Rattle.std.specs.Prelude.{IsTrue, from_bits}
use Rattle.std.specs.Float.{binary64, float_is_finite}
use Rattle.std.specs.Float.Parse.{parse_float}
use Rattle.std.proofs.lemmas.Grind.{common_steps}
use Rattle.json.specs.Json.{number}
use Rattle.naga_json_write.proofs.write.literal.DoubleTryToJson.try_write.Goals as goal

pub returns-in_ok-float-clause-written : goal.returns-in_ok-float-clause-written
returns-in_ok-float-clause-written c =
    let written = c.in_ok-float.ensures.plain in
    let finite : IsTrue (float_is_finite (from_bits binary64 c.args.self.now.0)) = grind (arith, common_steps) in
    let parsed : parse_float binary64 written.0 ≡ Some (from_bits binary64 c.args.self.now.0) = cc (written.3) in
    (number written.0, (written.0, refl, written.2, finite, parsed), written.1)
