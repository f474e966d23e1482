use Rattle.std.proofs.Common.{◌≡◌, true, false, arith}
use Rattle.std.specs.Char.{is_ascii_digit}
use Rattle.json_fault.specs.declared.mode.Mode.TheVariants.{Value, InNumber, InWord}
use Rattle.json_fault.specs.declared.mode.Number.TheVariants as numbers
use Rattle.json_fault.specs.declared.mode.Word.TheVariants as words
use Rattle.json_fault.proofs.CompletesLemmas
use Rattle.json_fault.proofs.StepsLemmas
use Rattle.json_fault.proofs.values.literal.Goals as goal

pub returns-then-byte-eq45 : goal.returns-then-byte-eq45
returns-then-byte-eq45 c outer r = StepsLemmas.leads Value (InNumber numbers.Minus) outer _ 45 c.if-byte-eq45.true (CompletesLemmas.value-minus outer) (record { shallow = r.shallow; suits = tt })

pub returns-then-byte-eq48 : goal.returns-then-byte-eq48
returns-then-byte-eq48 c outer r = StepsLemmas.leads Value (InNumber numbers.Zero) outer _ 48 c.if-byte-eq48.true (CompletesLemmas.value-zero outer) (record { shallow = r.shallow; suits = tt })

pub returns-then-is_ascii_digit : goal.returns-then-is_ascii_digit
returns-then-is_ascii_digit c outer r = let digit : is_ascii_digit c.args.byte ≡ true = cc in StepsLemmas.value-digit outer _ r digit c.if-byte-eq48.false

pub returns-then-byte-eq116 : goal.returns-then-byte-eq116
returns-then-byte-eq116 c outer r = StepsLemmas.leads Value (InWord words.True 1) outer _ 116 c.if-byte-eq116.true (CompletesLemmas.value-true outer) (record { shallow = r.shallow; suits = omega arith })

pub returns-then-byte-eq102 : goal.returns-then-byte-eq102
returns-then-byte-eq102 c outer r = StepsLemmas.leads Value (InWord words.False 1) outer _ 102 c.if-byte-eq102.true (CompletesLemmas.value-false outer) (record { shallow = r.shallow; suits = omega arith })

pub returns-then-byte-eq110 : goal.returns-then-byte-eq110
returns-then-byte-eq110 c outer r = StepsLemmas.leads Value (InWord words.Null 1) outer _ 110 c.if-byte-eq110.true (CompletesLemmas.value-null outer) (record { shallow = r.shallow; suits = omega arith })

pub returns : goal.returns
returns c outer r = let no_digit : is_ascii_digit c.args.byte ≡ false = cc in let none : CompletesLemmas.BeginsNone c.args.byte = record { no_quote = c.requires.other.0; no_list = c.requires.other.1; no_object = c.requires.other.2; no_minus = c.if-byte-eq45.false; no_digit = no_digit; no_true = c.if-byte-eq116.false; no_false = c.if-byte-eq102.false; no_null = c.if-byte-eq110.false } in record { none = λ rest. CompletesLemmas.value-other outer c.args.byte rest c.requires.space none }
