-- The first fault of a text that is not JSON.
use Rattle.std.specs.Prelude.{◌≡◌, ℕ, ◌+◌, ◌==◌, ◌<◌, ◌≤◌, List, [], ◌∷◌, ◌++◌, length, nat_eq, take, get_or, true, ◌⊎◌, IsSome, None}
use Rattle.std.specs.Char.{digit_value, is_ascii_digit}
use Rattle.std.specs.List.{starts_with}
use Rattle.json_fault.specs.Document.{document}
use Rattle.json_fault.specs.declared.expected.Expected.{Expected}
use Rattle.json_fault.specs.declared.fault.TextFault.{TextFault}
use Rattle.json_fault.specs.declared.expected.Expected.TheVariants as wants

-- The text with these bytes in front is JSON for some bytes after them.
abbrev pub BeginsJson : List ℕ → Type 0
BeginsJson front = (rest : List ℕ) × IsSome (document (front ++ rest))

-- The text is not JSON: what is before the offset begins JSON, and with the byte there it does not.
pub record IsFirstFault (text : List ℕ) (offset : ℕ) : Type 0 where
  pub within : offset ≤ length text
  pub invalid : document text ≡ None
  pub before : BeginsJson (take offset text)
  pub after : offset < length text → (rest : List ℕ) → document (take (offset + 1) text ++ rest) ≡ None

-- the bytes of U+FEFF
abbrev pub byte_order_mark : List ℕ
byte_order_mark = 239 ∷ 187 ∷ 191 ∷ []

-- the byte opens a list or an object
abbrev pub Opens : ℕ → Type 0
Opens byte = (byte ≡ 91) ⊎ (byte ≡ 123)

-- What is expected is right: bytes that may follow (`May`) or may not (`Never`), an end that is allowed (`End`), or a
-- byte order mark at the start (`Mark`). Where something must not be there, it is shown by the byte that is there, and by
-- what may follow in its place: a list or an object is nested too deep where a number may be, a control character is in
-- a string, and a digit follows a zero where a fraction may.
abbrev pub IsRight : (ℕ → Type 0) → (ℕ → Type 0) → (End Mark : Type 0) → ℕ → Expected → Type 0
IsRight May Never End Mark byte wants.Value = May 34 × May 48 × Never 93
IsRight May Never End Mark byte wants.ValueOrEnd = May 34 × May 48 × May 93
IsRight May Never End Mark byte wants.CommaOrListEnd = May 44 × May 93
IsRight May Never End Mark byte wants.Key = May 34 × Never 48 × Never 125
IsRight May Never End Mark byte wants.KeyOrEnd = May 34 × May 125 × Never 48
IsRight May Never End Mark byte wants.Colon = May 58 × Never 34
IsRight May Never End Mark byte wants.CommaOrObjectEnd = May 44 × May 125
IsRight May Never End Mark byte wants.TextEnd = End
IsRight May Never End Mark byte wants.Quote = May 34 × May 58
IsRight May Never End Mark byte wants.Escape = May 110 × May 117 × Never 48
IsRight May Never End Mark byte wants.HexDigit = May 48 × May 97 × Never 34
IsRight May Never End Mark byte wants.LowSurrogate = May 92 ⊎ (May 117 ⊎ (May 100 ⊎ May 99))
IsRight May Never End Mark byte wants.Digit = May 48 × Never 97
IsRight May Never End Mark byte wants.True = May 116 ⊎ (May 114 ⊎ (May 117 ⊎ May 101))
IsRight May Never End Mark byte wants.False = May 102 ⊎ (May 97 ⊎ (May 108 ⊎ (May 115 ⊎ May 101)))
IsRight May Never End Mark byte wants.Null = May 110 ⊎ (May 117 ⊎ May 108)
IsRight May Never End Mark byte wants.NoControlCharacter = May 34 × May 58 × (byte < 32)
IsRight May Never End Mark byte wants.NoLowSurrogate = May 48 × (12 ≤ digit_value byte) × (digit_value byte < 16)
IsRight May Never End Mark byte wants.NoLeadingZero = May 46 × (is_ascii_digit byte ≡ true)
IsRight May Never End Mark byte wants.NoByteOrderMark = Mark
IsRight May Never End Mark byte wants.NoDeeperNesting = May 48 × Opens byte

-- the offset is that of the start of the text, which begins with a byte order mark
abbrev pub IsAtMark : List ℕ → (offset : ℕ) → Type 0
IsAtMark text offset = (offset ≡ 0) × (starts_with nat_eq text byte_order_mark ≡ true)

-- Of a text with its first fault at the offset, this was expected there.
abbrev pub IsExpected : List ℕ → ℕ → Expected → Type 0
IsExpected text offset expected =
    IsRight (λ byte. BeginsJson (take offset text ++ byte ∷ []))
    (λ byte. (rest : List ℕ) → document (take offset text ++ byte ∷ rest) ≡ None)
    (IsSome (document (take offset text))) (IsAtMark text offset) (get_or text offset 0) expected

-- this is the first fault of the text, and what was expected there
abbrev pub IsTextFault : List ℕ → TextFault → Type 0
IsTextFault text fault =
    IsFirstFault text fault.offset
    × (fault.is_at_end ≡ (fault.offset == length text))
    × IsExpected text fault.offset fault.expected
