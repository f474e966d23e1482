use Rattle.std.proofs.Common.{refl}
use Rattle.naga_look.proofs.StringsLemmas.{OnOk-character, dot_escaped-ampersand, dot_escaped-backslash, dot_escaped-encode, dot_escaped-quote}
use Rattle.naga_look.proofs.graph.strings.push_character.Goals as goal

pub returns-then-character-eq34 : goal.returns-then-character-eq34
returns-then-character-eq34 c =
    OnOk-character c.push.result c.args.character 34 c.args.text.now c.push.new.self _ c.if-character-eq34.true dot_escaped-quote c.push.ensures

pub returns-then-character-eq92 : goal.returns-then-character-eq92
returns-then-character-eq92 c =
    OnOk-character c.push-then-character-eq92.result c.args.character 92 c.args.text.now c.push-then-character-eq92.new.self _ c.if-character-eq92.true dot_escaped-backslash c.push-then-character-eq92.ensures

pub returns-then-character-eq38 : goal.returns-then-character-eq38
returns-then-character-eq38 c =
    OnOk-character c.push-then-character-eq38.result c.args.character 38 c.args.text.now c.push-then-character-eq38.new.self _ c.if-character-eq38.true dot_escaped-ampersand c.push-then-character-eq38.ensures

pub returns-else-character-eq38 : goal.returns-else-character-eq38
returns-else-character-eq38 c =
    OnOk-character c.push_character.result c.args.character c.args.character c.args.text.now c.push_character.new.self _ refl
    (dot_escaped-encode c.args.character c.if-character-eq34.false c.if-character-eq92.false c.if-character-eq38.false) c.push_character.ensures
