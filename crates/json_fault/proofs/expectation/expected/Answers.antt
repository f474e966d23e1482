use Rattle.std.proofs.Common.{reverse}
use Rattle.json_fault.specs.declared.mode.Mode.TheVariants.{Value, FirstItem, FirstKey, Key, Colon, After, InKey, InString, InNumber, InWord}
use Rattle.json_fault.specs.declared.expected.Expected.TheVariants as wants
use Rattle.json_fault.proofs.AwaitsLemmas
use Rattle.json_fault.proofs.expectation.expected.Goals as goal

pub returns-in-Value : goal.returns-in-Value
returns-in-Value c = let outer = reverse c.args.frames.now in AwaitsLemmas.awaits_at c.args.mode Value outer wants.Value c.in-Value.is c.requires (AwaitsLemmas.value_awaits outer)

pub returns-in-FirstItem : goal.returns-in-FirstItem
returns-in-FirstItem c = let outer = reverse c.args.frames.now in AwaitsLemmas.awaits_at c.args.mode FirstItem outer wants.ValueOrEnd c.in-FirstItem.is c.requires (AwaitsLemmas.item_awaits outer)

pub returns-in-FirstKey : goal.returns-in-FirstKey
returns-in-FirstKey c = let outer = reverse c.args.frames.now in AwaitsLemmas.awaits_at c.args.mode FirstKey outer wants.KeyOrEnd c.in-FirstKey.is c.requires (AwaitsLemmas.first_key_awaits outer)

pub returns-in-Key : goal.returns-in-Key
returns-in-Key c = let outer = reverse c.args.frames.now in AwaitsLemmas.awaits_at c.args.mode Key outer wants.Key c.in-Key.is c.requires (AwaitsLemmas.key_awaits outer)

pub returns-in-Colon : goal.returns-in-Colon
returns-in-Colon c = let outer = reverse c.args.frames.now in AwaitsLemmas.awaits_at c.args.mode Colon outer wants.Colon c.in-Colon.is c.requires (AwaitsLemmas.colon_awaits outer)

pub returns-in-After : goal.returns-in-After
returns-in-After c = let outer = reverse c.args.frames.now in AwaitsLemmas.awaits_at c.args.mode After outer _ c.in-After.is c.requires (λ r. AwaitsLemmas.after_awaits _ outer r c.after_value.ensures)

pub returns-in-InKey : goal.returns-in-InKey
returns-in-InKey c = let outer = reverse c.args.frames.now in AwaitsLemmas.awaits_at c.args.mode (InKey c.in-InKey.part) outer _ c.in-InKey.is c.requires (AwaitsLemmas.awaits_key c.in-InKey.part outer _ c.in_string.ensures)

pub returns-in-InString : goal.returns-in-InString
returns-in-InString c = let outer = reverse c.args.frames.now in AwaitsLemmas.awaits_at c.args.mode (InString c.in-InString.part) outer _ c.in-InString.is c.requires (AwaitsLemmas.awaits_string c.in-InString.part outer _ c.in_string-in-InString.ensures)

pub returns-in-InNumber : goal.returns-in-InNumber
returns-in-InNumber c = let outer = reverse c.args.frames.now in AwaitsLemmas.awaits_at c.args.mode (InNumber c.in-InNumber.part) outer _ c.in-InNumber.is c.requires (λ r. c.in_number.ensures)

pub returns-in-InWord : goal.returns-in-InWord
returns-in-InWord c = let outer = reverse c.args.frames.now in AwaitsLemmas.awaits_at c.args.mode (InWord c.in-InWord.word c.in-InWord.field-1) outer _ c.in-InWord.is c.requires (AwaitsLemmas.awaits_word c.in-InWord.word c.in-InWord.field-1 outer _ c.in_word.ensures)
