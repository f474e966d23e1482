-- Which bytes may follow a state of reading, and how a text can end there. Neither depends on what the state carries.
use Rattle.std.specs.Prelude.{ℕ, List, [], ◌∷◌, ◌++◌, Bool, true, false, Option, Some, codes}
use Rattle.naga_notation.specs.declared.sign.Sign.{Sign}
use Rattle.naga_notation.specs.declared.sign.Sign.TheVariants.{Statement, Begin, Open, Close, OpenCases, CloseCases, DefaultCase, OpenCase, FallThrough, CloseCase}
use Rattle.naga_notation.specs.Reading.State.{Part, in_block, in_accept, in_reject, in_body, in_continuing, Place, of_part, of_case, Outer, Begun, nothing, awaiting, switching, listing, defaulting, falling, State}
use Rattle.naga_notation.specs.Reading.{sign_of}

-- the sign begins a statement
abbrev pub begins : Option Sign → Bool
begins (Some (Statement what)) = true
begins (Some (Begin what)) = true
begins (Some Open) = true
begins sign = false

-- the sign begins a statement, or closes a block in braces
abbrev pub begins_or_closes : Option Sign → Bool
begins_or_closes (Some Close) = true
begins_or_closes sign = begins sign

-- the sign begins a statement, or ends the body of a case
abbrev pub begins_or_ends_case : Option Sign → Bool
begins_or_ends_case (Some FallThrough) = true
begins_or_ends_case (Some CloseCase) = true
begins_or_ends_case sign = begins sign

-- the sign opens a block in braces
abbrev pub opens : Option Sign → Bool
opens (Some Open) = true
opens sign = false

-- the sign opens a list of cases
abbrev pub opens_cases : Option Sign → Bool
opens_cases (Some OpenCases) = true
opens_cases sign = false

-- the sign opens the body of a case
abbrev pub opens_case : Option Sign → Bool
opens_case (Some OpenCase) = true
opens_case sign = false

-- the sign begins a case, or closes a list of cases
abbrev pub lists_on : Option Sign → Bool
lists_on (Some DefaultCase) = true
lists_on (Some CloseCases) = true
lists_on sign = opens_case sign

-- the sign closes the body of a case
abbrev pub closes_case : Option Sign → Bool
closes_case (Some CloseCase) = true
closes_case sign = false

-- the sign may follow the last statement of a block that is open at this place
abbrev pub follows_at : {B K F : Type 0} → Place B K F → Option Sign → Bool
follows_at (of_part part) sign = begins_or_closes sign
follows_at (of_case case) sign = begins_or_ends_case sign

abbrev pub follows_in : {B K F : Type 0} → List (Outer B K F) → Option Sign → Bool
follows_in [] sign = begins sign
follows_in (outer ∷ outers) sign = follows_at outer.place sign

-- the sign may follow what has begun
abbrev pub follows_begun : {B C K F : Type 0} → Begun B C K F → List (Outer B K F) → Option Sign → Bool
follows_begun nothing outers sign = follows_in outers sign
follows_begun (awaiting part) outers sign = opens sign
follows_begun switching outers sign = opens_cases sign
follows_begun (listing cases) outers sign = lists_on sign
follows_begun (defaulting cases) outers sign = opens_case sign
follows_begun (falling case body) outers sign = closes_case sign

-- the byte may follow
abbrev pub follows : {B C K F : Type 0} → State B C K F → ℕ → Bool
follows state byte = follows_begun state.begun state.outers (sign_of byte)

-- the text that ends a statement from inside this part
abbrev pub part_ending : {B F : Type 0} → Part B F → List ℕ
part_ending in_block = codes "}"
part_ending in_accept = codes "}{}"
part_ending (in_reject accept) = codes "}"
part_ending (in_body break_if) = codes "}{}"
part_ending (in_continuing body break_if) = codes "}"

-- the text that ends the statement around a block at this place
abbrev pub place_ending : {B K F : Type 0} → Place B K F → List ℕ
place_ending (of_part part) = part_ending part
place_ending (of_case case) = codes "])"

-- the text that ends what has begun
abbrev pub begun_ending : {B C K F : Type 0} → Begun B C K F → List ℕ
begun_ending nothing = []
begun_ending (awaiting part) = codes "{" ++ part_ending part
begun_ending switching = codes "()"
begun_ending (listing cases) = codes ")"
begun_ending (defaulting cases) = codes "[])"
begun_ending (falling case body) = codes "])"

-- the shortest text that ends the statements around these open blocks, from inside the innermost one
abbrev pub outers_ending : {B K F : Type 0} → List (Outer B K F) → List ℕ
outers_ending [] = []
outers_ending (outer ∷ outers) = place_ending outer.place ++ outers_ending outers

-- the shortest text that ends everything that is unfinished
abbrev pub ending : {B C K F : Type 0} → State B C K F → List ℕ
ending state = begun_ending state.begun ++ outers_ending state.outers
