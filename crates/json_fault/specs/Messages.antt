-- The messages for faults of texts that are not JSON.
use Rattle.std.specs.Prelude.{ℕ, List, [], ◌++◌, if◌then◌else◌, codes}
use Rattle.std.specs.Fmt.{decimal}
use Rattle.json_fault.specs.declared.expected.Expected.{Expected}
use Rattle.json_fault.specs.declared.expected.Expected.TheVariants as wants
use Rattle.json_fault.specs.declared.fault.TextFault.{TextFault}

-- what is said where this was expected
abbrev pub expected_text : Expected → List ℕ
expected_text wants.Value = codes "expected a value"
expected_text wants.ValueOrEnd = codes "expected a value or \"]\""
expected_text wants.CommaOrListEnd = codes "expected a comma or \"]\""
expected_text wants.Key = codes "expected a key"
expected_text wants.KeyOrEnd = codes "expected a key or \"}\""
expected_text wants.Colon = codes "expected a colon"
expected_text wants.CommaOrObjectEnd = codes "expected a comma or \"}\""
expected_text wants.TextEnd = codes "expected the end of the text"
expected_text wants.Quote = codes "expected a closing quote"
expected_text wants.Escape = codes "expected one of the characters \"\\/bfnrtu after a backslash"
expected_text wants.HexDigit = codes "expected a hexadecimal digit"
expected_text wants.LowSurrogate = codes "expected the second half of a surrogate pair"
expected_text wants.Digit = codes "expected a digit"
expected_text wants.True = codes "expected the rest of \"true\""
expected_text wants.False = codes "expected the rest of \"false\""
expected_text wants.Null = codes "expected the rest of \"null\""
expected_text wants.NoControlCharacter = codes "a control character in a string is not escaped"
expected_text wants.NoLowSurrogate = codes "the second half of a surrogate pair has no first half"
expected_text wants.NoLeadingZero = codes "a number begins with a 0 too many"
expected_text wants.NoByteOrderMark = codes "a byte order mark is not allowed"
expected_text wants.NoDeeperNesting = codes "lists and objects are nested more than 127 deep"

-- the fault without its place: that the text ends, if its end is at fault, and what was expected
abbrev pub reason_text : TextFault → List ℕ
reason_text fault = (if fault.is_at_end then codes "the text ends, " else []) ++ expected_text fault.expected

-- the message: the number of bytes before the fault, and the fault
abbrev pub fault_text : TextFault → List ℕ
fault_text fault = codes "invalid JSON at byte " ++ decimal fault.offset ++ codes ": " ++ reason_text fault
